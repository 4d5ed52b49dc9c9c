-- What a part of a message comes to where only the length of the plain copy is asked for: its end, and how many bytes the plain copy has
-- up to there. And which outcome of that kind an answer stands for, which has the part's own length.
use Rattle.std.specs.Prelude.{ℕ, zero, suc, ◌+◌, ◌≡◌, List, length, Result}
use Rattle.layout.specs.Limits.{Limits, base}
use Rattle.layout.specs.Varint.{Outcome, whole, short, broken, varint, shortest}
use Rattle.layout.specs.Field.{Field, Wire, header}
use Rattle.layout.specs.Message.{body, depth_after}
use Rattle.layout.specs.Copy.{field_bytes}
use Rattle.passing.specs.declared.Stop.{Stop}
use Rattle.passing.specs.Passing.{Rest, outcome_in}

-- ---- outcomes

-- a part, where the plain copy has len bytes before it and `size` of its value for it
unfoldable pub sized : {A : Type 0} → (A → ℕ) → ℕ → Outcome A → Outcome ℕ
sized size len (whole a rest) = whole (len + size a) rest
sized size len short = short
sized size len (broken rest) = broken rest

-- a part, and what follows it
unfoldable pub onward : Outcome ℕ → (ℕ → List ℕ → Outcome ℕ) → Outcome ℕ
onward (whole len rest) f = f len rest
onward short f = short
onward (broken rest) f = broken rest

-- "each varint as short as its value allows": of a value, and of n varints in a row
abbrev pub varint_length : ℕ → ℕ
varint_length v = length (shortest v)

unfoldable pub varints : Limits → ℕ → ℕ → List ℕ → Outcome ℕ
varints L len zero bs = whole len bs
varints L len (suc n) bs = onward (sized varint_length len (varint L bs)) (λ longer rest. varints L longer n rest)

-- of a field, header and all
abbrev pub field_length : Field → ℕ
field_length x = length (field_bytes x)

-- where a field ends: the depth there, and the length of the plain copy up to there
pub record Point : Type 0 where
  pub depth : ℕ
  pub len : ℕ

abbrev pub point_of : ℕ → ℕ → Point
point_of d len = record { depth = d; len = len }

-- a field at depth d, where the plain copy has len bytes before it
unfoldable pub reached : ℕ → ℕ → Outcome Field → Outcome Point
reached d len (whole x rest) = whole (point_of (depth_after d x) (len + field_length x)) rest
reached d len short = short
reached d len (broken rest) = broken rest

-- a length alone, at depth d
unfoldable pub pointed : ℕ → Outcome ℕ → Outcome Point
pointed d (whole len rest) = whole (point_of d len) rest
pointed d short = short
pointed d (broken rest) = broken rest

-- ---- answers

-- a part comes to this answer, wherever in the plain copy: n bytes stand before it
abbrev pub Sizes : (ℕ → Outcome ℕ) → Result (ℕ × Rest) (Stop Rest) → Type 0
Sizes o r = (n : ℕ) → o n ≡ outcome_in (λ f. n + f.0) (λ f. f.1) r

-- What follows a header of a type that keeps the depth comes to this answer, whatever its id and the depth, and wherever in the plain copy: n
-- bytes stand before the header.
abbrev pub BodySizes : Wire → List ℕ → Result (ℕ × Rest) (Stop Rest) → Type 0
BodySizes w bs r = (id d n : ℕ) → reached d n (body base d id w bs).outcome ≡ outcome_in (λ f. point_of d (n + length (header id w) + f.0)) (λ f. f.1) r
