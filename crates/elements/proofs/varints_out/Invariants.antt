-- `elements::varints_out`: at each turn, as many elements as the index are out, and what is left of the bytes belongs to those after them.
use Rattle.layout.specs.Varint.{shortest}
use Rattle.elements.proofs.Resumed.{Counting}
use Rattle.elements.proofs.varints_out.Given as goal

abbrev pub invariant-loop-i : goal.invariant-loop-i
invariant-loop-i g l = Counting (λ x. shortest (g.T.Integer.number x)) l.items l.skip l.left l.i
