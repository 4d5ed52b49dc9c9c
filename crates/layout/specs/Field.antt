-- The fields of a message, the numbers that their types have on the wire, and the bytes of a header, a word and a float. (Copy has the
-- bytes of whole fields.)
use Rattle.std.specs.Prelude.{ℕ, zero, suc, ◌+◌, ◌*◌, ◌/◌, ◌%◌, List, [], ◌∷◌, ◌++◌, ℤ}
use Rattle.layout.specs.Varint.{shortest}

-- floats, and the payloads that go as they are
pub data Width : Type 0 where
  fp32 fp64 : Width

pub data Raw : Type 0 where
  string blob : Raw

-- fp32: "length 4 only"; fp64: "8 only"
abbrev pub bytes_of : Width → ℕ
bytes_of fp32 = 4
bytes_of fp64 = 8

-- Subtype 0 is fp32, 1 fp64, 2 string, 3 blob. Broken: "subtype 4 to 7".
pub data Subtype : Type 0 where
  float : Width → Subtype
  raw : Raw → Subtype

pub data Subtyped : Type 0 where
  known : Subtype → Subtyped
  unknown : Subtyped

abbrev pub subtype_number : Subtype → ℕ
subtype_number (float fp32) = 0
subtype_number (float fp64) = 1
subtype_number (raw string) = 2
subtype_number (raw blob) = 3

abbrev pub subtype_of : ℕ → Subtyped
subtype_of zero = known (float fp32)
subtype_of (suc zero) = known (float fp64)
subtype_of (suc (suc zero)) = known (raw string)
subtype_of (suc (suc (suc zero))) = known (raw blob)
subtype_of (suc (suc (suc (suc n)))) = unknown

-- "array kind 0 to 3": the kinds of elements
pub data Kind : Type 0 where
  unsigneds signeds : Kind
  floats : Width → Kind

abbrev pub kind_number : Kind → ℕ
kind_number unsigneds = 0
kind_number signeds = 1
kind_number (floats fp32) = 2
kind_number (floats fp64) = 3

-- The types of fields: 0 unsigned, 1 signed, 2 fixed-length, 3 unsigned array, 4 signed array, 5 float array, 6 opens a sequence,
-- 7 closes one.
pub data Wire : Type 0 where
  t_unsigned t_signed t_fixlen t_unsigneds t_signeds t_floats t_begin t_end : Wire

abbrev pub wire_number : Wire → ℕ
wire_number t_unsigned = 0
wire_number t_signed = 1
wire_number t_fixlen = 2
wire_number t_unsigneds = 3
wire_number t_signeds = 4
wire_number t_floats = 5
wire_number t_begin = 6
wire_number t_end = 7

-- the type of three bits
abbrev pub wire_of : ℕ → Wire
wire_of zero = t_unsigned
wire_of (suc zero) = t_signed
wire_of (suc (suc zero)) = t_fixlen
wire_of (suc (suc (suc zero))) = t_unsigneds
wire_of (suc (suc (suc (suc zero)))) = t_signeds
wire_of (suc (suc (suc (suc (suc zero))))) = t_floats
wire_of (suc (suc (suc (suc (suc (suc zero)))))) = t_begin
wire_of (suc (suc (suc (suc (suc (suc (suc n))))))) = t_end

-- A field. Floats are their bits. `begin` opens a sequence, `end` closes one; a close has the id that it came with.
pub data Field : Type 0 where
  unsigned : (id n : ℕ) → Field
  signed : (id : ℕ) (z : ℤ) → Field
  float : (id : ℕ) (w : Width) (bits : ℕ) → Field
  payload : (id : ℕ) (r : Raw) (bytes : List ℕ) → Field
  unsigned_array : (id : ℕ) (ns : List ℕ) → Field
  signed_array : (id : ℕ) (zs : List ℤ) → Field
  float_array : (id : ℕ) (w : Width) (bits : List ℕ) → Field
  begin : (id : ℕ) → Field
  end : (id : ℕ) → Field

-- ---- bytes

-- "A header is a varint (id × 8 + type)." "A word varint (length × 8 + subtype)".
abbrev pub header : ℕ → Wire → List ℕ
header id t = shortest (id * 8 + wire_number t)

abbrev pub word : ℕ → Subtype → List ℕ
word n s = shortest (n * 8 + subtype_number s)

-- "Floats stand low byte first": the n low bytes of a number
unfoldable pub low_bytes : ℕ → ℕ → List ℕ
low_bytes zero x = []
low_bytes (suc n) x = (x % 256) ∷ low_bytes n (x / 256)

-- the bytes of a list's elements, one after another
unfoldable pub each {ℓ} : {A : Type ℓ} → (A → List ℕ) → List A → List ℕ
each f [] = []
each f (x ∷ xs) = f x ++ each f xs
