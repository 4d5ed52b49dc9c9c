-- `elements::put_until_full`: at each turn, the elements from the index on are left to write.
use Rattle.layout.specs.Varint.{shortest}
use Rattle.elements.proofs.Resumed.{Going}
use Rattle.elements.proofs.put_until_full.Given as goal

abbrev pub invariant-loop-x : goal.invariant-loop-x
invariant-loop-x g l = Going (λ x. shortest (g.T.Integer.number x)) l.items l.initial.buf l.pos l.buf l.at l.x-index
