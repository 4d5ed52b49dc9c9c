-- How far an output goes that is not refused: the two ends by what decides them.
use mathlib.Core.Path.{◌≡◌, sym, ap, ◌∙◌}
use Prim.Native.Nat.{ℕ, ◌+◌, ◌-◌, ◌≤◌, ◌<◌}
use borrow.Author.Tests.{le-ltb, le-leb, lt-leb}
use Rattle.std.specs.Prelude.{Ok}
use Rattle.outcomes.specs.declared.Reach.TheVariants.{Through, Full}
use Rattle.outcomes.specs.Outcome.{reaches}

module _ (pos size total place : ℕ) where
  -- there is room for the rest
  pub reaches_through : (end : ℕ) → place ≤ total → total - place ≤ size - pos → end ≡ pos + (total - place) → Ok (Through end) ≡ reaches pos size total place
  unfolding reaches
  reaches_through end h r e = ap (λ (n : ℕ). Ok (Through n)) e ∙ sym (simp (le-ltb total place h, le-leb (total - place) (size - pos) r))

  -- there is not
  pub reaches_full : (out : ℕ) → place ≤ total → size - pos < total - place → out ≡ place + (size - pos) → Ok (Full out) ≡ reaches pos size total place
  unfolding reaches
  reaches_full out h r e = ap (λ (n : ℕ). Ok (Full n)) e ∙ sym (simp (le-ltb total place h, lt-leb (total - place) (size - pos) r))
