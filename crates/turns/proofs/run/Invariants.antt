-- `turns::run`: each turn, the call is what going on from the reader reached comes to.
use Prim.Native.Nat.{◌+◌, ◌*◌}
use lib.ListN.{length}
use Rattle.machine.proofs.Calls.{weight}
use Rattle.istream.specs.Stream.{state_of}
use Rattle.turns.proofs.Loop.{Going}
use Rattle.turns.proofs.run.Given as goal

abbrev pub invariant-loop-next : goal.invariant-loop-next
invariant-loop-next l = Going l.initial.at l.start l.chunk l.initial.buf l.buf l.at l.pos l.rest

abbrev pub decreases-loop-next : goal.decreases-loop-next
decreases-loop-next l = 2 * length l.rest + weight (state_of l.at)
