-- `tour::read`: an event brings the end of the chunk's calls nearer.
use Rattle.machine.proofs.Ends.{turns}
use Rattle.istream.specs.Stream.{state_of}
use Rattle.tour.proofs.read.Given as goal

abbrev pub decreases-loop-event : goal.decreases-loop-event
decreases-loop-event g l = turns (state_of l.reader) l.rest
