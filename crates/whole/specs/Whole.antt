-- Which outcome of the layout's reader the answer on a field stands for, and the layout's verdict as this crate's.
use Rattle.std.specs.Prelude.{ℕ, ◌-◌, ◌≡◌, List, length, Result, Ok, Err}
use Rattle.layout.specs.Limits.{base}
use Rattle.layout.specs.Varint.{Outcome, whole}
use Rattle.layout.specs.Message as layout
use Rattle.layout.specs.Message.{field}
use Rattle.passing.specs.declared.Stop.{Stop}
use Rattle.passing.specs.declared.Stop.TheVariants.{Short, Broken}
use Rattle.passing.specs.Passing.{Rest, stop_in}
use Rattle.layout.specs.Copy.{plain_copy}
use Rattle.lengths.specs.Lengths.{Point, point_of, reached}
use Rattle.bodies.specs.Bodies.{deep}
use Rattle.whole.specs.declared.Verdict.{Verdict}
use Rattle.whole.specs.declared.Verdict.TheVariants as Verdicts

-- the layout's verdict as this crate's
abbrev pub verdict_in : layout.Verdict → Verdict
verdict_in layout.complete = Verdicts.Complete
verdict_in layout.incomplete = Verdicts.Incomplete
verdict_in (layout.broken_at n) = Verdicts.Broken n

-- a field at depth d: its end, and the depth after it; and with the plain copy, which has len bytes before it
unfoldable pub after_field : ℕ → List ℕ → Outcome ℕ
after_field d bs = deep d (field base d bs).outcome

unfoldable pub counted_field : ℕ → ℕ → List ℕ → Outcome Point
counted_field d len bs = reached d len (field base d bs).outcome

-- ---- answers of a walk, by what it counts: `counts` says of a number that so many bytes of the plain copy may be counted

-- what a part comes to, at a depth that it keeps
abbrev pub Lands : {A : Type 0} → (A → ℕ → Type 0) → ℕ → Outcome Point → Result (A × Rest) (Stop Rest) → Type 0
Lands counts d o (Ok (x, s)) = (m : ℕ) × (o ≡ whole (point_of d m) s.now) × counts x m
Lands counts d o (Err e) = o ≡ stop_in e

-- and with the depth after it
abbrev pub Walks : {A : Type 0} → (A → ℕ → Type 0) → Outcome Point → Result (A × ℕ × Rest) (Stop Rest) → Type 0
Walks counts o (Ok (x, d, s)) = (m : ℕ) × (o ≡ whole (point_of d m) s.now) × counts x m
Walks counts o (Err e) = o ≡ stop_in e

-- by the number of the byte that breaks a message of n bytes
abbrev pub placed_in : ℕ → Stop Rest → Stop ℕ
placed_in n Short = Short
placed_in n (Broken s) = Broken (n - length s.now)

-- a message whole
abbrev pub Judges : {A : Type 0} → (A → ℕ → Type 0) → List ℕ → Result A (Stop ℕ) → Type 0
Judges counts t (Ok x) = (layout.verdict_of base t ≡ layout.complete) × counts x (length (plain_copy base t))
Judges counts t (Err Short) = layout.verdict_of base t ≡ layout.incomplete
Judges counts t (Err (Broken i)) = layout.verdict_of base t ≡ layout.broken_at i
