-- Bytes that are whole fields, or an array's elements, in their shortest form; and what the rest of a slice says of the bytes before it.
use Rattle.std.specs.Prelude.{ℕ, ◌+◌, ◌*◌, ◌^◌, ◌≤◌, ◌<◌, ◌≡◌, List, ◌++◌, length}
use Rattle.layout.specs.Limits.{Limits, base}
use Rattle.layout.specs.Varint.{shortest}
use Rattle.layout.specs.Field.{Width, Wire, Field, bytes_of, float, subtype_number, header, each}
use Rattle.layout.specs.Copy.{encode}
use Rattle.layout.specs.Message.{All}
use Rattle.laws.specs.Legal.{Legal, Balanced}

-- bytes that are whole fields in their shortest form, from one depth to another
pub record OwnFields (L : Limits) (d : ℕ) (bs : List ℕ) (e : ℕ) : Type 0 where
  pub fields : List Field
  pub legal : All (Legal L) fields
  pub balanced : Balanced L d fields e
  pub bytes : bs ≡ encode fields

-- so many numbers of the width in their shortest form
pub record Numbers (L : Limits) (n : ℕ) (bs : List ℕ) : Type 0 where
  pub list : List ℕ
  pub count : length list ≡ n
  pub fit : All (λ x. x < 2 ^ L.bits) list
  pub bytes : bs ≡ each shortest list

-- one number
abbrev pub Number : List ℕ → Type 0
Number bs = (v : ℕ) × (v < 2 ^ base.bits) × (bs ≡ shortest v)

-- what makes a field in its shortest form of a header of this type, whatever the id; the depth stays
abbrev pub Body : Wire → List ℕ → Type 0
Body w bs = (id d : ℕ) → id ≤ base.id → OwnFields base d (header id w ++ bs) d

-- the bytes of t before the last ones r are such
pub record Ends (t : List ℕ) (P : List ℕ → Type 0) (r : List ℕ) : Type 0 where
  pub bytes : List ℕ
  pub split : t ≡ bytes ++ r
  pub good : P bytes

-- the word of a float of n bytes
pub record FloatWord (word n : ℕ) : Type 0 where
  pub width : Width
  pub long : n ≡ bytes_of width
  pub says : word ≡ bytes_of width * 8 + subtype_number (float width)
