-- `whole::walk` meets its contract: the verdict is that on the bytes left, at the depth there, and what is counted so far is the length of the
-- plain copy up to there.
use mathlib.Core.Path.{sym, subst}
use borrow.Author.Rules.{rules}
use Rattle.std.specs.Prelude.{Err}
use Rattle.shortest.proofs.Spans.{all_bytes}
use Rattle.whole.specs.Whole.{Judges}
use Rattle.whole.proofs.Sums.{walk_start, walk_next, walk_shorter, walk_stops, walk_complete, walk_open}
use Rattle.whole.proofs.walk.Goals as goal

pub loop-rest-init : goal.loop-rest-init
loop-rest-init g c = walk_start g.C.Count.counts _ _ (all_bytes _ (λ i. (c.type_inv.message i).fits)) c.requires

pub loop-rest-preserved : goal.loop-rest-preserved
loop-rest-preserved g c = walk_next g.C.Count.counts _ _ _ _ c.loop-rest.invariant (search rules) c.in-Ok.ensures

pub loop-rest-smaller : goal.loop-rest-smaller
loop-rest-smaller g c = walk_shorter g.C.Count.counts _ _ _ _ c.loop-rest.invariant (search rules) c.in-Ok.ensures

pub returns-in-Err : goal.returns-in-Err
returns-in-Err g c =
    subst (λ s. Judges g.C.Count.counts c.args.message.now (Err s)) (sym c.placed.ensures)
    (walk_stops g.C.Count.counts _ _ _ _ c.loop-rest.invariant (search rules) _ c.in-Err.ensures)

pub returns-then-depth-eq0 : goal.returns-then-depth-eq0
returns-then-depth-eq0 g c = walk_complete g.C.Count.counts _ _ _ _ c.loop-rest.invariant (search rules) c.if-depth-eq0.true

pub returns-else-depth-eq0 : goal.returns-else-depth-eq0
returns-else-depth-eq0 g c = walk_open g.C.Count.counts _ _ _ _ c.loop-rest.invariant (search rules) c.if-depth-eq0.false
