-- `passing::value_at` meets its contract: what is left of the varint is read from the state reached.
use lib.ListN.{length}
use Rattle.passing.proofs.Varints.{Under}
use Rattle.passing.proofs.value_at.Given as goal

abbrev pub invariant-loop-rest : goal.invariant-loop-rest
invariant-loop-rest l = Under l.bytes l.rest l.acc

abbrev pub decreases-loop-rest : goal.decreases-loop-rest
decreases-loop-rest l = length l.rest
