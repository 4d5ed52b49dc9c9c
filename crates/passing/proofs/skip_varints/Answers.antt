-- `passing::skip_varints` meets its contract: the varints that are still to come are those of the bytes left.
use Rattle.passing.specs.Passing.{Passes}
use Rattle.passing.proofs.Ends.{passed_on, skipped_next, skipped_stops, skipped_end}
use Rattle.passing.proofs.skip_varints.Goals as goal

pub returns-in_err-rest : goal.returns-in_err-rest
returns-in_err-rest c = passed_on (Passes _) _ _ c.from_residual.ensures (skipped_stops _ _ _ _ c.loop.invariant c.loop-test.true _ c.in_err-rest.ensures)

pub loop-preserved : goal.loop-preserved
loop-preserved c = skipped_next _ _ _ _ c.loop.invariant c.loop-test.true c.in_ok-rest.ensures

pub returns : goal.returns
returns c = skipped_end _ _ _ _ c.loop.invariant c.loop-test.false
