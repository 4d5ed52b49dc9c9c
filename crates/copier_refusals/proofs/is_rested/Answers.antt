-- `copier_refusals::is_rested`: the tests one after another.
use Prim.Native.Nat.{ℕ, ◌+◌}
use mathlib.Core.Path.{◌≡◌, ap, ◌∙◌}
use lib.ListN.{length, get_or}
use Rattle.copier_refusals.proofs.Rested.{all_rested}
use borrow.Author.Rules.{rules}
use Rattle.copier_refusals.proofs.is_rested.Goals as goal

pub returns : goal.returns
returns c =
    let l : length c.args.places ≡ 8 = search rules in
    all_rested c.args.offset c.args.depth c.args.places c.args.size (c.sum-first.result + c.sum-last.result) l c.if-size-offset.false c.if-depth-gt-MAX_DEPTH.false
    (ap (λ (x : ℕ). x + c.sum-last.result) c.sum-first.ensures.0 ∙ ap (λ (x : ℕ). get_or c.args.places 0 0 + get_or c.args.places 1 0 + get_or c.args.places 2 0 + get_or c.args.places 3 0 + x) c.sum-last.ensures.0)
