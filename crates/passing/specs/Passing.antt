-- Which outcome of the layout's reader an answer stands for: where one has bytes left, so has the other.
-- And what a varint, or several, or n bytes, come to where only their end is asked for.
use Rattle.std.specs.Prelude.{ℕ, zero, suc, ◌≡◌, List, length, drop, leb, Result, Ok, Err}
use Rattle.std.specs.Borrow.{Bor}
use Rattle.layout.specs.Limits.{Limits, pick}
use Rattle.layout.specs.Varint.{Outcome, whole, short, broken, varint}
use Rattle.passing.specs.declared.Stop.{Stop}
use Rattle.passing.specs.declared.Stop.TheVariants.{Short, Broken}

-- ---- outcomes

-- the end alone, with the depth d there
unfoldable pub ends : {A : Type 0} → ℕ → Outcome A → Outcome ℕ
ends d (whole a rest) = whole d rest
ends d short = short
ends d (broken rest) = broken rest

-- one after another
unfoldable pub followed : Outcome ℕ → (List ℕ → Outcome ℕ) → Outcome ℕ
followed (whole d rest) f = f rest
followed short f = short
followed (broken rest) f = broken rest

-- n varints
unfoldable pub skips : Limits → ℕ → ℕ → List ℕ → Outcome ℕ
skips L d zero bs = whole d bs
skips L d (suc n) bs = followed (ends d (varint L bs)) (λ rest. skips L d n rest)

-- n bytes further, where there are so many
abbrev pub hop : ℕ → ℕ → List ℕ → Outcome ℕ
hop d n bs = pick (leb n (length bs)) (whole d (drop n bs)) short

-- ---- answers of any kind: `what` is the value that an answer stands for, `left` the bytes left after it

abbrev pub Rest : Type 0
Rest = Bor (List ℕ)

abbrev pub stop_in : {B : Type 0} → Stop Rest → Outcome B
stop_in Short = short
stop_in (Broken s) = broken s.now

abbrev pub outcome_in : {A B : Type 0} → (A → B) → (A → Rest) → Result A (Stop Rest) → Outcome B
outcome_in what left (Ok a) = whole (what a) (left a).now
outcome_in what left (Err s) = stop_in s

-- a varint, with the bytes after it; and the end of something, whatever the depth
abbrev pub Reaches : Outcome ℕ → Result (ℕ × Rest) (Stop Rest) → Type 0
Reaches o r = o ≡ outcome_in (λ f. f.0) (λ f. f.1) r

abbrev pub Passes : (ℕ → Outcome ℕ) → Result Rest (Stop Rest) → Type 0
Passes o r = (d : ℕ) → o d ≡ outcome_in (λ s. d) (λ s. s) r
