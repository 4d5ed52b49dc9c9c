-- `read_at_once::long_varint` meets its contract: at each turn, whatever takes the varint is as far as the bytes so far have come to.
use Rattle.layout.specs.Limits.{base}
use Rattle.read_at_once.proofs.AtOnce.{Under}
use Rattle.read_at_once.proofs.long_varint.Given as goal

abbrev pub invariant-loop-i : goal.invariant-loop-i
invariant-loop-i l = Under base l.chunk l.at l.i l.acc
