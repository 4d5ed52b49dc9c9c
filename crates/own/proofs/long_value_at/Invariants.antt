-- `own::long_value_at` meets its contract: the bytes so far go on, and any number above 0 may follow them.
use Rattle.own.proofs.Values.{Coming}
use Rattle.own.proofs.long_value_at.Given as goal

abbrev pub invariant-loop-k : goal.invariant-loop-k
invariant-loop-k l = Coming l.t l.k l.acc
