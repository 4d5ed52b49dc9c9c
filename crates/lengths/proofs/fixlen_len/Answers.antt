-- `lengths::fixlen_len` meets its contract: a word, and the bytes that it says.
use native.Mathlib.Omega.{arith}
use Rattle.layout.specs.Field.{t_fixlen}
use Rattle.passing.proofs.Ends.{passed_on}
use Rattle.shortest.proofs.Spans.{all_bytes}
use Rattle.lengths.specs.Lengths.{BodySizes}
use Rattle.lengths.proofs.Answers.{fixlen_sizes, fixlen_stops, fixlen_nowhere, fixlen_read}
use Rattle.lengths.proofs.fixlen_len.Goals as goal

pub returns-in_err-word : goal.returns-in_err-word
returns-in_err-word c = passed_on (BodySizes t_fixlen _) _ _ c.from_residual.ensures (fixlen_stops _ _ c.in_err-word.ensures)

pub returns-in_err-rest : goal.returns-in_err-rest
returns-in_err-rest c =
    passed_on (BodySizes t_fixlen _) _ _ c.from_residual-in_err-rest.ensures (fixlen_nowhere _ c.in_ok-word.ensures _ c.in_err-rest.ensures)

pub overflow_add-result : goal.overflow_add-result
overflow_add-result c =
    let g = fixlen_read _ c.in_ok-word.ensures c.in_ok-rest.ensures (all_bytes _ (λ i. (c.type_inv.bytes i).fits)) in
    omega (arith, g.0, c.width.ensures, c.well_formed.0.0)

pub returns : goal.returns
returns c =
    let g = fixlen_read _ c.in_ok-word.ensures c.in_ok-rest.ensures (all_bytes _ (λ i. (c.type_inv.bytes i).fits)) in
    fixlen_sizes _ c.in_ok-word.ensures c.in_ok-rest.ensures g.1 c.width.ensures
