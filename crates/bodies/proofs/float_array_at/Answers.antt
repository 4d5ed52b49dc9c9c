-- `bodies::float_array_at` meets its contract: a count, a word, and the floats.
use mathlib.Core.Path.{◌∙◌}
use Rattle.passing.specs.Passing.{Passes}
use Rattle.passing.proofs.Ends.{passed_on}
use Rattle.bodies.proofs.Landing.{count_small, floats_then, floats_stop, floats_no_word}
use Rattle.bodies.proofs.float_array_at.Goals as goal

pub returns-in_err-n : goal.returns-in_err-n
returns-in_err-n c id = passed_on (Passes _) _ _ c.from_residual.ensures (floats_stop id _ _ c.in_err-n.ensures)

pub returns-in_err-word : goal.returns-in_err-word
returns-in_err-word c id =
    passed_on (Passes _) _ _ c.from_residual-in_err-word.ensures (floats_no_word id _ c.in_ok-n.ensures _ c.in_err-word.ensures)

pub floats_at-requires : goal.floats_at-requires
floats_at-requires c = count_small _ c.in_ok-n.ensures

pub returns : goal.returns
returns c id d = floats_then id _ c.in_ok-n.ensures c.in_ok-word.ensures d ∙ c.floats_at.ensures id d
