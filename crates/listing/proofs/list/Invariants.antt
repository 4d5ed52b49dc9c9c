-- `listing::list`: an event brings the end of the chunk's calls nearer, and the text may go out at each.
use Rattle.machine.proofs.Ends.{turns}
use Rattle.istream.specs.Stream.{state_of}
use Rattle.listing.proofs.list.Given as goal

abbrev pub decreases-loop-outlet : goal.decreases-loop-outlet
decreases-loop-outlet g l = turns (state_of l.stream) l.rest
