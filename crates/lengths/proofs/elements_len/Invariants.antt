-- `lengths::elements_len` meets its contract: the elements that are still to come are those of the bytes left.
use Prim.Native.Nat.{◌-◌}
use Rattle.lengths.proofs.Answers.{Counted}
use Rattle.lengths.proofs.elements_len.Given as goal

abbrev pub invariant-loop : goal.invariant-loop
invariant-loop l = Counted l.bytes l.n l.len l.rest (l.n - l.counter)
