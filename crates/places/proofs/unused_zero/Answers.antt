-- `places::unused_zero`: what `all` comes to.
use mathlib.Core.Path.{◌≡◌, sym, ap, ◌∙◌, subst}
use mathlib.Core.List.{List}
use Prim.Native.Nat.{ℕ, ◌-◌, min}
use native.Mathlib.Omega.{arith}
use lib.ListN.{take, drop, length}
use Rattle.std.specs.Prelude.{IsTrue, ◌↔◌}
use Rattle.std.proofs.Common.{rules}
use Rattle.std.proofs.lemmas.List.{take_rest}
use Rattle.std.specs.List.{All}
use Rattle.places.specs.Places.{lazy_depth}
use Rattle.places.proofs.Places.{all_zero, drop_min}
use Rattle.places.proofs.unused_zero.Goals as goal

pub returns : goal.returns
returns c =
    let l : length c.args.pending ≡ lazy_depth = search rules in
    let m : c.min.result ≡ min c.args.n (length c.args.pending) = omega arith in
    let h : IsTrue c.all.result ↔ All (λ x. x ≡ 0) (take (lazy_depth - c.min.result) (drop c.min.result c.args.pending)) = search rules in
    all_zero (drop c.args.n c.args.pending) c.all.result (subst (λ (xs : List ℕ). IsTrue c.all.result ↔ All (λ x. x ≡ 0) xs) (ap (λ (k : ℕ). take (k - c.min.result) (drop c.min.result c.args.pending)) (sym l) ∙ take_rest c.args.pending c.min.result ∙ ap (λ (k : ℕ). drop k c.args.pending) m ∙ drop_min c.args.n c.args.pending) h)
