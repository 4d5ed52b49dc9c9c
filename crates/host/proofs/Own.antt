-- The answer for a message that is its own plain copy.
use Prim.Native.Nat.{ℕ}
use mathlib.Core.Path.{◌≡◌, sym, ap, ◌∙◌}
use mathlib.Core.List.{List}
use Rattle.layout.specs.Message.{Verdict, complete}
use Rattle.exports.specs.Exports.{filled, copied}

pub own_copied : (v : Verdict) (m T out : List ℕ) → (v ≡ complete) × (m ≡ T) → filled T out ≡ copied v m out
unfolding copied
own_copied v m T out (e, f) = ap (λ (x : List ℕ). filled x out) (sym f) ∙ ap (λ (x : Verdict). copied x m out) (sym e)
