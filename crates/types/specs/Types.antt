-- The port's own enums as the layout's, and the numbers of the refusals.
use Rattle.std.specs.Prelude.{ℕ, zero, suc, cond, eqb, Result, Ok, Err}
use Rattle.layout.specs.Field.{Width, Raw, Subtype, Subtyped, known, unknown, Kind, fp32, fp64, string, blob, float, raw, unsigneds, signeds, floats}
use Rattle.layout.specs.Field.{subtype_number, kind_number}
use Rattle.types.specs.declared.FixlenType.{FixlenType}
use Rattle.types.specs.declared.FixlenType.TheVariants as Fix
use Rattle.types.specs.declared.UnknownSubtype.{UnknownSubtype}
use Rattle.types.specs.declared.ArrayKind.{ArrayKind}
use Rattle.types.specs.declared.ArrayKind.TheVariants as ArrayKinds
use Rattle.types.specs.declared.FloatType.{FloatType}
use Rattle.types.specs.declared.FloatType.TheVariants as Floats
use Rattle.types.specs.declared.RawType.{RawType}
use Rattle.types.specs.declared.RawType.TheVariants as Raws
use Rattle.types.specs.declared.Error.{Error}
use Rattle.types.specs.declared.Error.TheVariants as Errors

abbrev pub subtype : FixlenType → Subtype
subtype Fix.Fp32 = float fp32
subtype Fix.Fp64 = float fp64
subtype Fix.Str = raw string
subtype Fix.Blob = raw blob

abbrev pub fixlen_type : Subtype → FixlenType
fixlen_type (float fp32) = Fix.Fp32
fixlen_type (float fp64) = Fix.Fp64
fixlen_type (raw string) = Fix.Str
fixlen_type (raw blob) = Fix.Blob

-- what a number names
abbrev pub subtyped : Result FixlenType UnknownSubtype → Subtyped
subtyped (Ok t) = known (subtype t)
subtyped (Err e) = unknown

abbrev pub kind : ArrayKind → Kind
kind ArrayKinds.Unsigned = unsigneds
kind ArrayKinds.Signed = signeds
kind ArrayKinds.Fp32 = floats fp32
kind ArrayKinds.Fp64 = floats fp64

abbrev pub array_kind : Kind → ArrayKind
array_kind unsigneds = ArrayKinds.Unsigned
array_kind signeds = ArrayKinds.Signed
array_kind (floats fp32) = ArrayKinds.Fp32
array_kind (floats fp64) = ArrayKinds.Fp64

-- the floats and the other payloads apart
abbrev pub width : FloatType → Width
width Floats.Fp32 = fp32
width Floats.Fp64 = fp64

abbrev pub float_type : Width → FloatType
float_type fp32 = Floats.Fp32
float_type fp64 = Floats.Fp64

abbrev pub raw_sort : RawType → Raw
raw_sort Raws.Str = string
raw_sort Raws.Blob = blob

abbrev pub raw_type : Raw → RawType
raw_type string = Raws.Str
raw_type blob = Raws.Blob

abbrev pub float_fixlen : FloatType → FixlenType
float_fixlen w = fixlen_type (float (width w))

abbrev pub raw_fixlen_type : RawType → FixlenType
raw_fixlen_type r = fixlen_type (raw (raw_sort r))

-- the numbers on the wire, and of the event list
abbrev pub fixlen_raw : FixlenType → ℕ
fixlen_raw s = subtype_number (subtype s)

abbrev pub kind_raw : ArrayKind → ℕ
kind_raw k = kind_number (kind k)

-- "Refused, in checking order": the number of each refusal; and 02's, "a buffer length of 0 is refused with 18".
abbrev pub number_of : Error → ℕ
number_of Errors.UnsoundReader = 1
number_of Errors.InvalidMsg = 2
number_of Errors.UnsoundGatherer = 3
number_of Errors.PayloadTooLong = 4
number_of Errors.BadBuffer = 5
number_of Errors.UnsoundWriter = 6
number_of Errors.StringSubtype = 7
number_of Errors.Nesting = 8
number_of Errors.IdTooLarge = 9
number_of Errors.TooLong = 10
number_of Errors.PlaceBeyond = 11
number_of Errors.NoBuffer = 18

-- And back: the refusal with a number, by which the promises of all calls name their refusals. 01 gives no other numbers than 1 to 11, and
-- of 02's only 18 is given so far.
abbrev pub refusal : ℕ → Error
refusal zero = Errors.UnsoundReader
refusal (suc zero) = Errors.UnsoundReader
refusal (suc (suc zero)) = Errors.InvalidMsg
refusal (suc (suc (suc zero))) = Errors.UnsoundGatherer
refusal (suc (suc (suc (suc zero)))) = Errors.PayloadTooLong
refusal (suc (suc (suc (suc (suc zero))))) = Errors.BadBuffer
refusal (suc (suc (suc (suc (suc (suc zero)))))) = Errors.UnsoundWriter
refusal (suc (suc (suc (suc (suc (suc (suc zero))))))) = Errors.StringSubtype
refusal (suc (suc (suc (suc (suc (suc (suc (suc zero)))))))) = Errors.Nesting
refusal (suc (suc (suc (suc (suc (suc (suc (suc (suc zero))))))))) = Errors.IdTooLarge
refusal (suc (suc (suc (suc (suc (suc (suc (suc (suc (suc zero)))))))))) = Errors.TooLong
refusal (suc (suc (suc (suc (suc (suc (suc (suc (suc (suc (suc zero))))))))))) = Errors.PlaceBeyond
refusal (suc (suc (suc (suc (suc (suc (suc (suc (suc (suc (suc (suc n)))))))))))) = cond (eqb n 6) Errors.NoBuffer Errors.PlaceBeyond
