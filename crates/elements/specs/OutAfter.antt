-- Where the bytes of a list's elements go on after the first `skip` of them: `whole` elements are out, and `part` bytes of the next.
-- No element of an array takes more than the longest varint. And an array whole.
use Rattle.std.specs.Prelude.{List, ◌++◌, ◌≡◌, ℕ, ◌+◌, ◌*◌, ◌≤◌, ◌<◌, length, take, get_or}
use Rattle.layout.specs.Limits.{base, longest}
use Rattle.layout.specs.Varint.{shortest}
use Rattle.layout.specs.Field.{each}

-- the most bytes of n elements
abbrev pub elements_most : ℕ → ℕ
elements_most n = longest base * n

pub record OutAfter {A : Type 0} (f : A → List ℕ) (l : List A) (skip whole part : ℕ) : Type 0 where
  pub within : whole ≤ length l
  pub sum : length (each f (take whole l)) + part ≡ skip
  pub short : (x : A) → whole < length l → part < length (f (get_or l whole x))
  pub few : whole < length l → skip < elements_most (whole + 1)

-- an array: the number of its header, its count and its elements
abbrev pub row_of : {A : Type 0} → ℕ → (A → List ℕ) → List A → List ℕ
row_of header f l = shortest header ++ (shortest (length l) ++ each f l)
