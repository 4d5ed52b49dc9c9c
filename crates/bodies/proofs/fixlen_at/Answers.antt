-- `bodies::fixlen_at` meets its contract: a word, and the bytes that it says.
use mathlib.Core.Path.{◌∙◌}
use Rattle.passing.specs.Passing.{Passes}
use Rattle.passing.proofs.Ends.{passed_on}
use Rattle.bodies.proofs.Landing.{fixlen_then, fixlen_stops}
use Rattle.bodies.proofs.fixlen_at.Goals as goal

pub returns-in_err-word : goal.returns-in_err-word
returns-in_err-word c id = passed_on (Passes _) _ _ c.from_residual.ensures (fixlen_stops id _ _ c.in_err-word.ensures)

pub returns : goal.returns
returns c id d = fixlen_then id _ c.in_ok-word.ensures d ∙ c.bytes_at.ensures id d
