-- `varint_bytes::put_whole`: at each turn, the rest's varint is left to write.
use Rattle.layout.specs.Varint.{shortest}
use Rattle.putting.proofs.Turns.{Left}
use Rattle.varint_bytes.proofs.put_whole.Given as goal

abbrev pub invariant-loop-k : goal.invariant-loop-k
invariant-loop-k l = Left l.initial.b-items 0 (shortest l.v) l.b-items l.k (shortest l.rest)
