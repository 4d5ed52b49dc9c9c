-- `places::ids_legal`: what `all` comes to.
use mathlib.Core.Path.{◌≡◌, ap, ◌∙◌, subst}
use mathlib.Core.List.{List}
use lib.ListN.{take, length}
use native.Mathlib.Omega.{arith}
use Prim.Native.Nat.{ℕ, ◌≤◌, min}
use Rattle.layout.specs.Limits.{base}
use Rattle.std.specs.Prelude.{IsTrue, ◌↔◌}
use Rattle.std.proofs.Common.{rules}
use Rattle.std.proofs.lemmas.List.{take_min}
use Rattle.std.specs.List.{All}
use Rattle.places.specs.Places.{lazy_depth}
use Rattle.places.proofs.Places.{all_legal}
use Rattle.places.proofs.ids_legal.Goals as goal

pub returns : goal.returns
returns c =
    let l : length c.args.pending ≡ lazy_depth = search rules in
    let m : c.min.result ≡ min c.args.n (length c.args.pending) = omega arith in
    let h : IsTrue c.all.result ↔ All (λ x. x ≤ base.id) (take c.min.result c.args.pending) = search rules in
    all_legal base.id (take c.args.n c.args.pending) c.all.result (subst (λ (xs : List ℕ). IsTrue c.all.result ↔ All (λ x. x ≤ base.id) xs) (ap (λ (k : ℕ). take k c.args.pending) m ∙ take_min c.args.n c.args.pending) h)
