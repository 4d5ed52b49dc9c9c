-- `shortest::number_at` meets its contract: the bytes so far go on, and any number above 0 may follow them.
use Rattle.shortest.proofs.Varints.{Going}
use Rattle.shortest.proofs.number_at.Given as goal

abbrev pub invariant-loop-k : goal.invariant-loop-k
invariant-loop-k l = Going l.t l.k
