-- `passing::long_header_at` meets its contract: the id is tested.
use borrow.Author.Tests.{le-leb, lt-leb}
use Rattle.passing.specs.Passing.{Reaches}
use Rattle.passing.proofs.Ends.{passed_on, checked_stops, checked_passes, checked_fails}
use Rattle.passing.proofs.long_header_at.Goals as goal

pub returns-in_err-h : goal.returns-in_err-h
returns-in_err-h c = passed_on (Reaches _) _ _ c.from_residual.ensures (checked_stops _ _ c.in_err-h.ensures)

pub returns-then-h : goal.returns-then-h
returns-then-h c = checked_fails _ c.in_ok-h.ensures (lt-leb _ _ c.if-h.true)

pub returns : goal.returns
returns c = checked_passes _ c.in_ok-h.ensures (le-leb _ _ c.if-h.false)
