-- The numbers of a verdict, of a length and of a count of drains as the code gives them are those that are promised.
use Prim.Native.Nat.{ℕ, zero, suc}
use mathlib.Core.Path.{◌≡◌, refl, sym, ap, ◌∙◌, subst}
use lib.IntN.{ℤ, pos, negsuc}
use Rattle.std.specs.Prelude.{Result, Ok, Err}
use Rattle.layout.specs.Message as layout
use Rattle.whole.specs.declared.Verdict.{Verdict}
use Rattle.whole.specs.declared.Verdict.TheVariants.{Complete, Incomplete, Broken}
use Rattle.whole.specs.Whole.{verdict_in}
use Rattle.passing.specs.declared.Stop.{Stop}
use Rattle.passing.specs.declared.Stop.TheVariants as Stops
use Rattle.copy_len.specs.CopyLen.{length_in}
use Rattle.drain_count.specs.declared.Drains.{Drains}
use Rattle.drain_count.specs.declared.Uncounted.{Uncounted}
use Rattle.drain_count.specs.declared.Uncounted.TheVariants.{Stopped, Refused}
use Rattle.drain_count.specs.DrainCount.{drains_in}
use Rattle.exports.specs.Exports.{number, refused, measured, drained}

abbrev code : Verdict → ℤ
code Complete = pos 0
code Incomplete = pos 1
code (Broken n) = negsuc 1

alike : (v : layout.Verdict) → code (verdict_in v) ≡ number v
unfolding number
alike layout.complete = refl
alike layout.incomplete = refl
alike (layout.broken_at n) = refl

pub numbered : (v : layout.Verdict) (r w : Verdict) → r ≡ verdict_in v → r ≡ w → code w ≡ number v
numbered v r w e g = ap code (sym g ∙ e) ∙ alike v

-- what is promised of no number, and of a number
abbrev Refuses : layout.Verdict → Verdict → Type 0
Refuses v Complete = v ≡ layout.complete
Refuses v Incomplete = (v ≡ layout.complete → ⊥) × (negsuc 99 ≡ refused v)
Refuses v (Broken n) = (v ≡ layout.complete → ⊥) × (negsuc 1 ≡ refused v)

refuses_alike : (v : layout.Verdict) → Refuses v (verdict_in v)
unfolding refused
refuses_alike layout.complete = refl
refuses_alike layout.incomplete = (λ e. cc, refl)
refuses_alike (layout.broken_at n) = (λ e. cc, refl)

pub refuses : (v : layout.Verdict) (r w : Verdict) → r ≡ verdict_in v → r ≡ w → Refuses v w
refuses v r w e g = subst (Refuses v) (sym e ∙ g) (refuses_alike v)

-- ---- the length

abbrev length : Result ℕ (Stop ℕ) → ℤ
length (Ok n) = pos n
length (Err Stops.Short) = negsuc 99
length (Err (Stops.Broken n)) = negsuc 1

length_alike : (v : layout.Verdict) (n : ℕ) → length (length_in v n) ≡ measured v n
unfolding measured refused
length_alike layout.complete n = refl
length_alike layout.incomplete n = refl
length_alike (layout.broken_at k) n = refl

pub measures : (v : layout.Verdict) (n : ℕ) {l : Result ℕ (Stop ℕ)} → l ≡ length_in v n → length l ≡ measured v n
measures v n e = ap length e ∙ length_alike v n

-- ---- the drains

abbrev drains : Result Drains Uncounted → ℤ
drains (Ok x) = pos x.count
drains (Err (Stopped s)) = length (Err s)
drains (Err (Refused e)) = negsuc 17

drains_alike : (b : ℕ) (v : layout.Verdict) (n : ℕ) → drains (drains_in b (length_in v n)) ≡ drained b v n
unfolding drains_in drained measured refused
drains_alike zero v n = refl
drains_alike (suc b) layout.complete n = refl
drains_alike (suc b) layout.incomplete n = refl
drains_alike (suc b) (layout.broken_at k) n = refl

pub drains_told : (b : ℕ) (v : layout.Verdict) (n : ℕ) {d : Result Drains Uncounted} → d ≡ drains_in b (length_in v n) → drains d ≡ drained b v n
drains_told b v n e = ap drains e ∙ drains_alike b v n

-- a number that is told of a message without a length
pub stop_told : (s : Stop ℕ) {r : ℤ} → ((v : layout.Verdict) (n : ℕ) → Err s ≡ length_in v n → r ≡ measured v n) → r ≡ length (Err s)
unfolding measured refused
stop_told Stops.Short h = h layout.incomplete 0 refl
stop_told (Stops.Broken n) h = h (layout.broken_at n) 0 refl
