-- The numbers that a build of the layout fixes, and 01's build.
use Rattle.std.specs.Prelude.{ℕ, ◌+◌, ◌-◌, ◌*◌, ◌/◌, ◌^◌, Bool, true, false}

pub record Limits : Type 0 where
  -- width of a value in bits
  pub bits : ℕ
  -- largest id
  pub id : ℕ
  -- largest length of a string or blob (a float's is 4 or 8)
  pub size : ℕ
  -- largest count of an array
  pub count : ℕ
  -- deepest nesting
  pub depth : ℕ

-- "An id is a field's number, 0 to 2,147,483,647". "Length or count above 2,147,483,647", "an open at depth 255": broken.
abbrev pub base : Limits
base = record { bits = 64; id = 2147483647; size = 2147483647; count = 2147483647; depth = 255 }

-- the number, counted from 0, of the last varint byte that a value of this width can need: 9, for the tenth
abbrev pub last_byte : Limits → ℕ
last_byte L = (L.bits - 1) / 7

-- the most bytes that a varint of this width has: ten
abbrev pub longest : Limits → ℕ
longest L = last_byte L + 1

-- what that byte stays below, so that the value fits the width: 2
abbrev pub last_bound : Limits → ℕ
last_bound L = 2 ^ (L.bits - 7 * last_byte L)

-- one of two, by a test
abbrev pub pick {ℓ} : {A : Type ℓ} → Bool → A → A → A
pick true a b = a
pick false a b = b
