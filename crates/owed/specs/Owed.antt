-- What a copier owes, as an event of the layout's and back; and, for private functions alone, its output and the parts of its soundness.
use Rattle.std.specs.Prelude.{ℕ, suc, zero, ◌+◌, ◌*◌, Bool, true, ◌&&◌, leb, ltb, eqb, length}
use Rattle.layout.specs.Limits.{base}
use Rattle.layout.specs.Zigzag.{zigzag}
use Rattle.layout.specs.Field.{bytes_of, fp32, fp64, float, raw, subtype_number}
use Rattle.layout.specs.Event as layout
use Rattle.types.specs.Types.{width, float_type, raw_sort, raw_type, kind, array_kind}
use Rattle.types.specs.declared.ArrayKind.{ArrayKind}
use Rattle.types.specs.declared.ArrayKind.TheVariants as Kinds
use Rattle.copying.specs.Owed as copying
use Rattle.copying.specs.Owed.{nothing, owes}
use Rattle.owed.specs.declared.Owed.{Owed}
use Rattle.owed.specs.declared.Owed.TheVariants.{Nothing, Unsigned, Signed, Element, SignedElement, Fp32, Fp64, Float, Payload, Array, Begin, End}
use Rattle.output.specs.declared.Output.{Output}
use Rattle.output.specs.declared.Output.TheVariants.{Empty, One, Two, Three, Four, Eight}
use Rattle.output.specs.Output.{output_bytes}

-- what is owed, as an event of the layout's; an element came while one was due
abbrev pub owed_of : Owed → ℕ → copying.Owed
owed_of Nothing place = nothing
owed_of (Unsigned id n) place = owes 0 (layout.Unsigned id n) place
owed_of (Signed id z) place = owes 0 (layout.Signed id z) place
owed_of (Element n) place = owes 1 (layout.Unsigned 0 n) place
owed_of (SignedElement z) place = owes 1 (layout.Signed 0 z) place
owed_of (Fp32 bits) place = owes 0 (layout.Float 0 fp32 bits) place
owed_of (Fp64 bits) place = owes 0 (layout.Float 0 fp64 bits) place
owed_of (Float id w) place = owes 0 (layout.Fixlen id (float (width w)) (bytes_of (width w))) place
owed_of (Payload id r total) place = owes 0 (layout.Fixlen id (raw (raw_sort r)) total) place
owed_of (Array id k n) place = owes 0 (layout.Array id (kind k) n) place
owed_of (Begin id) place = owes 0 (layout.Begin id) place
owed_of End place = owes 0 layout.End place

-- and back; a piece is never owed after a call
abbrev pub owe : ℕ → layout.Event → Owed
owe zero (layout.Unsigned id n) = Unsigned id n
owe (suc due) (layout.Unsigned id n) = Element n
owe zero (layout.Signed id z) = Signed id z
owe (suc due) (layout.Signed id z) = SignedElement z
owe due (layout.Float id fp32 bits) = Fp32 bits
owe due (layout.Float id fp64 bits) = Fp64 bits
owe due (layout.Piece id r total o bs) = Nothing
owe due (layout.Fixlen id (float w) n) = Float id (float_type w)
owe due (layout.Fixlen id (raw r) n) = Payload id (raw_type r) n
owe due (layout.Array id k n) = Array id (array_kind k) n
owe due (layout.Begin id) = Begin id
owe due layout.End = End

abbrev pub owed_in : copying.Owed → Owed
owed_in nothing = Nothing
owed_in (owes due e place) = owe due e

-- where nothing is owed, the place is not in force: a call leaves 0 there
abbrev pub place_in : copying.Owed → ℕ
place_in nothing = 0
place_in (owes due e place) = place

-- ---- cited by private functions alone

abbrev pub array_output : ℕ → ArrayKind → ℕ → Output
array_output id Kinds.Unsigned n = Two (id * 8 + 3) n
array_output id Kinds.Signed n = Two (id * 8 + 4) n
array_output id Kinds.Fp32 n = Three (id * 8 + 5) n 32
array_output id Kinds.Fp64 n = Three (id * 8 + 5) n 65

abbrev pub output_of : Owed → Output
output_of Nothing = Empty
output_of (Unsigned id n) = Two (id * 8 + 0) n
output_of (Signed id z) = Two (id * 8 + 1) (zigzag z)
output_of (Element n) = One n
output_of (SignedElement z) = One (zigzag z)
output_of (Fp32 bits) = Four bits
output_of (Fp64 bits) = Eight bits
output_of (Float id w) = Two (id * 8 + 2) (bytes_of (width w) * 8 + subtype_number (float (width w)))
output_of (Payload id r total) = Two (id * 8 + 2) (total * 8 + subtype_number (raw (raw_sort r)))
output_of (Array id k n) = array_output id k n
output_of (Begin id) = One (id * 8 + 6)
output_of End = One 7

abbrev pub level_of : ℕ → ℕ → Owed → Bool
level_of r w Nothing = eqb r w
level_of r w (Unsigned id n) = eqb r w
level_of r w (Signed id z) = eqb r w
level_of r w (Element n) = eqb r w
level_of r w (SignedElement z) = eqb r w
level_of r w (Fp32 bits) = eqb r w
level_of r w (Fp64 bits) = eqb r w
level_of r w (Float id f) = eqb r w
level_of r w (Payload id t total) = eqb r w
level_of r w (Array id k n) = eqb r w
level_of r w (Begin id) = eqb r (w + 1)
level_of r w End = eqb (r + 1) w

abbrev pub legal_of : Owed → Bool
legal_of Nothing = true
legal_of (Unsigned id n) = leb id base.id
legal_of (Signed id z) = leb id base.id
legal_of (Element n) = true
legal_of (SignedElement z) = true
legal_of (Fp32 bits) = true
legal_of (Fp64 bits) = true
legal_of (Float id w) = leb id base.id
legal_of (Payload id r total) = leb id base.id && leb total base.size
legal_of (Array id k n) = leb id base.id && leb n base.count
legal_of (Begin id) = leb id base.id
legal_of End = true

abbrev pub place_is_in : Owed → ℕ → Bool
place_is_in Nothing place = true
place_is_in (Unsigned id n) place = ltb place (length (output_bytes (output_of (Unsigned id n))))
place_is_in (Signed id z) place = ltb place (length (output_bytes (output_of (Signed id z))))
place_is_in (Element n) place = ltb place (length (output_bytes (output_of (Element n))))
place_is_in (SignedElement z) place = ltb place (length (output_bytes (output_of (SignedElement z))))
place_is_in (Fp32 bits) place = ltb place (length (output_bytes (output_of (Fp32 bits))))
place_is_in (Fp64 bits) place = ltb place (length (output_bytes (output_of (Fp64 bits))))
place_is_in (Float id w) place = ltb place (length (output_bytes (output_of (Float id w))))
place_is_in (Payload id r total) place = ltb place (length (output_bytes (output_of (Payload id r total))))
place_is_in (Array id k n) place = ltb place (length (output_bytes (output_of (Array id k n))))
place_is_in (Begin id) place = ltb place (length (output_bytes (output_of (Begin id))))
place_is_in End place = ltb place (length (output_bytes (output_of End)))
