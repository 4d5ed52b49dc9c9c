-- `bodies::array_at` meets its contract: a count, and so many varints.
use mathlib.Core.Path.{◌∙◌}
use Rattle.passing.specs.Passing.{Passes}
use Rattle.passing.proofs.Ends.{passed_on}
use Rattle.bodies.proofs.Landing.{array_then, array_stops}
use Rattle.bodies.proofs.array_at.Goals as goal

pub returns-in_err-n : goal.returns-in_err-n
returns-in_err-n c id = passed_on (Passes _) _ _ c.from_residual.ensures (array_stops id _ _ c.in_err-n.ensures)

pub returns : goal.returns
returns c id d = array_then id _ c.in_ok-n.ensures d ∙ c.skip_varints.ensures d
