-- `lengths::value_len` meets its contract.
use mathlib.Core.Path.{sym}
use Rattle.passing.proofs.Ends.{passed_on}
use Rattle.lengths.specs.Lengths.{Sizes}
use Rattle.lengths.proofs.Answers.{value_sizes, stops_sizes}
use Rattle.lengths.proofs.value_len.Goals as goal

pub returns-in_err-v : goal.returns-in_err-v
returns-in_err-v c = passed_on (Sizes _) _ _ c.from_residual.ensures (stops_sizes _ _ c.in_err-v.ensures)

pub returns : goal.returns
returns c = value_sizes _ c.in_ok-v.ensures (sym c.varint_len.ensures)
