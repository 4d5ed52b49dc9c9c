-- `passing::count_at` meets its contract: the count is tested.
use borrow.Author.Tests.{le-leb, lt-leb}
use Rattle.passing.specs.Passing.{Reaches}
use Rattle.passing.proofs.Ends.{passed_on, checked_stops, checked_passes, checked_fails}
use Rattle.passing.proofs.count_at.Goals as goal

pub returns-in_err-n : goal.returns-in_err-n
returns-in_err-n c = passed_on (Reaches _) _ _ c.from_residual.ensures (checked_stops _ _ c.in_err-n.ensures)

pub returns-then-n : goal.returns-then-n
returns-then-n c = checked_fails _ c.in_ok-n.ensures (lt-leb _ _ c.if-n.true)

pub returns : goal.returns
returns c = checked_passes _ c.in_ok-n.ensures (le-leb _ _ c.if-n.false)
