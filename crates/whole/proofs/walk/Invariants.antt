-- `whole::walk` meets its contract: the verdict is that on the bytes left, at the depth there, and what is counted so far is the length of the
-- plain copy up to there.
use lib.ListN.{length}
use Rattle.whole.proofs.Sums.{Counted}
use Rattle.whole.proofs.walk.Given as goal

abbrev pub invariant-loop-rest : goal.invariant-loop-rest
invariant-loop-rest g l = Counted g.C.Count.counts l.message l.counted l.rest l.depth

abbrev pub decreases-loop-rest : goal.decreases-loop-rest
decreases-loop-rest g l = length l.rest
