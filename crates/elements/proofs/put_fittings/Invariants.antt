-- `elements::put_fittings`: at each turn, the elements that are left are still to write, and there is room for each.
use Rattle.layout.specs.Limits.{base, longest}
use Rattle.layout.specs.Varint.{shortest}
use lib.ListN.{length}
use Rattle.elements.proofs.Room.{Roomy}
use Rattle.elements.proofs.put_fittings.Given as goal

abbrev pub invariant-loop-left : goal.invariant-loop-left
invariant-loop-left g l = Roomy (λ x. shortest (g.T.Integer.number x)) (longest base) l.items l.initial.buf l.pos l.buf l.at l.left

abbrev pub decreases-loop-left : goal.decreases-loop-left
decreases-loop-left g l = length l.left
