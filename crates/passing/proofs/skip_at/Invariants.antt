-- `passing::skip_at` meets its contract: what is left of the varint is read from the place reached, after so many bytes.
use Rattle.passing.proofs.Varints.{Skipping}
use Rattle.passing.proofs.skip_at.Given as goal

abbrev pub invariant-loop : goal.invariant-loop
invariant-loop l = Skipping l.bytes l.rest l.counter
