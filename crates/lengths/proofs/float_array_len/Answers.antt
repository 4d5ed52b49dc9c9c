-- `lengths::float_array_len` meets its contract: a count, a word, and the floats.
use native.Mathlib.Omega.{arith}
use Rattle.layout.specs.Field.{t_floats}
use Rattle.passing.proofs.Ends.{passed_on}
use Rattle.bodies.proofs.Landing.{count_small}
use Rattle.shortest.proofs.Spans.{all_bytes}
use Rattle.lengths.specs.Lengths.{BodySizes}
use Rattle.lengths.proofs.Answers.{floats_read, floats_sizes, floats_stop, floats_no_word, floats_nowhere}
use Rattle.lengths.proofs.float_array_len.Goals as goal

pub returns-in_err-n : goal.returns-in_err-n
returns-in_err-n c = passed_on (BodySizes t_floats _) _ _ c.from_residual.ensures (floats_stop _ _ c.in_err-n.ensures)

pub returns-in_err-word : goal.returns-in_err-word
returns-in_err-word c =
    passed_on (BodySizes t_floats _) _ _ c.from_residual-in_err-word.ensures (floats_no_word _ c.in_ok-n.ensures _ c.in_err-word.ensures)

pub floats_at-requires : goal.floats_at-requires
floats_at-requires c = count_small _ c.in_ok-n.ensures

pub returns-in_err-rest : goal.returns-in_err-rest
returns-in_err-rest c =
    passed_on (BodySizes t_floats _) _ _ c.from_residual-in_err-rest.ensures (floats_nowhere _ c.in_ok-n.ensures c.in_ok-word.ensures _ c.in_err-rest.ensures)

pub overflow_mul-size : goal.overflow_mul-size
overflow_mul-size c =
    let g = floats_read _ c.in_ok-n.ensures c.in_ok-word.ensures (all_bytes _ (λ i. (c.type_inv.bytes i).fits)) c.in_ok-rest.ensures in
    omega (arith, g.0, c.well_formed.0.0)

pub overflow_add-result : goal.overflow_add-result
overflow_add-result c =
    let g = floats_read _ c.in_ok-n.ensures c.in_ok-word.ensures (all_bytes _ (λ i. (c.type_inv.bytes i).fits)) c.in_ok-rest.ensures in
    omega (arith, g.0, c.width.ensures, c.width-2.ensures, c.well_formed.0.0)

pub overflow_add-result-2 : goal.overflow_add-result-2
overflow_add-result-2 c =
    let g = floats_read _ c.in_ok-n.ensures c.in_ok-word.ensures (all_bytes _ (λ i. (c.type_inv.bytes i).fits)) c.in_ok-rest.ensures in
    omega (arith, g.0, c.width.ensures, c.width-2.ensures, c.well_formed.0.0)

pub returns : goal.returns
returns c =
    let g = floats_read _ c.in_ok-n.ensures c.in_ok-word.ensures (all_bytes _ (λ i. (c.type_inv.bytes i).fits)) c.in_ok-rest.ensures in
    floats_sizes _ c.in_ok-n.ensures c.in_ok-word.ensures g.1 c.in_ok-rest.ensures c.width.ensures c.width-2.ensures
