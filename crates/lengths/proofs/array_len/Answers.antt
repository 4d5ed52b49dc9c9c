-- `lengths::array_len` meets its contract: a count, and so many elements.
use native.Mathlib.Omega.{arith}
use Rattle.layout.specs.Field.{t_unsigneds, t_signeds}
use Rattle.passing.proofs.Ends.{passed_on}
use Rattle.shortest.proofs.Spans.{all_bytes}
use Rattle.lengths.specs.Lengths.{BodySizes}
use Rattle.lengths.proofs.Answers.{array_sizes, array_nowhere, array_stops, count_read, elements_read}
use Rattle.lengths.proofs.array_len.Goals as goal

pub returns-in_err-n : goal.returns-in_err-n
returns-in_err-n c =
    passed_on (λ r. BodySizes t_unsigneds c.args.bytes.now r × BodySizes t_signeds c.args.bytes.now r) _ _ c.from_residual.ensures (array_stops _ _ c.in_err-n.ensures)

pub returns-in_err-len : goal.returns-in_err-len
returns-in_err-len c =
    passed_on (λ r. BodySizes t_unsigneds c.args.bytes.now r × BodySizes t_signeds c.args.bytes.now r) _ _ c.from_residual-in_err-len.ensures
    (array_nowhere _ c.in_ok-n.ensures _ c.in_err-len.ensures)

pub overflow_add-result : goal.overflow_add-result
overflow_add-result c =
    let g = count_read c.args.bytes.now (all_bytes _ (λ i. (c.type_inv.bytes i).fits)) c.in_ok-n.ensures in
    omega (arith, g.0, elements_read _ 0 _ g.1 (c.in_ok-len.ensures 0), c.width.ensures, c.well_formed.0.0)

pub returns : goal.returns
returns c = array_sizes _ _ c.in_ok-n.ensures c.width.ensures c.in_ok-len.ensures
