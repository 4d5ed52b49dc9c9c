-- What is answered for a buffer of no bytes, and for any other.
use Prim.Native.Nat.{ℕ, zero, suc}
use mathlib.Core.Path.{◌≡◌, refl, sym, ap, ◌∙◌}
use Rattle.std.specs.Prelude.{Result, Ok, Err, IsErr, IsErrAnd}
use Rattle.std.proofs.lemmas.Result.{err_from_is_err_and}
use Rattle.drains.specs.Drains.{rounded_up}
use Rattle.drain_count.specs.declared.Drains.{Drains}
use Rattle.drain_count.specs.declared.Uncounted.{Uncounted}
use Rattle.types.specs.Types.{refusal}
use Rattle.passing.specs.declared.Stop.{Stop}
use Rattle.drain_count.specs.declared.Uncounted.TheVariants.{Stopped, Refused}
use Rattle.drain_count.specs.DrainCount.{counted, drains_in}

-- 18, whatever the message is
pub none-refused : (b : ℕ) (l : Result ℕ (Stop ℕ)) → b ≡ 0 → Err (Refused (refusal 18)) ≡ drains_in b l
unfolding drains_in
none-refused b l e = ap (λ (n : ℕ). drains_in n l) (sym e)

-- else by the length
pub some_counted : (b : ℕ) → (b ≡ 0 → ⊥) → (l : Result ℕ (Stop ℕ)) → counted b l ≡ drains_in b l
unfolding drains_in
some_counted zero h l = absurd (h refl)
some_counted (suc b) h l = refl

module _ {b : ℕ} (h : b ≡ 0 → ⊥) {l : Result ℕ (Stop ℕ)} where
  pub len_counted : {n k : ℕ} → Ok n ≡ l → k ≡ rounded_up n b → Ok (record { count = k; len = n }) ≡ drains_in b l
  len_counted {n} {k} e r = ap (λ (k : ℕ). Ok (record { count = k; len = n })) r ∙ some_counted b h (Ok n) ∙ ap (drains_in b) e

  pub stop_counted : {s : Stop ℕ} (r : Result Drains Uncounted) → Err s ≡ l → IsErr r × IsErrAnd r (λ e. e ≡ Stopped s) → r ≡ drains_in b l
  stop_counted {s} r e g = let p = err_from_is_err_and r g.1 in p.1 ∙ ap Err p.2 ∙ some_counted b h (Err s) ∙ ap (drains_in b) e
