-- `lengths::elements_len` meets its contract: the elements that are still to come are those of the bytes left.
use native.Mathlib.Omega.{arith}
use Rattle.passing.proofs.Ends.{passed_on}
use Rattle.lengths.specs.Lengths.{Sizes}
use Rattle.lengths.proofs.Answers.{counted_next, counted_small, counted_stops, counted_end, one_sizes, two_sizes}
use Rattle.lengths.proofs.elements_len.Goals as goal

pub overflow_add-len : goal.overflow_add-len
overflow_add-len c = omega (arith, counted_small _ c.loop.invariant 1 (one_sizes _ c.in-len1-up.len_at_least c.if-b-lt128.true), c.well_formed.0.0)

pub loop-preserved-in-len1-up : goal.loop-preserved-in-len1-up
loop-preserved-in-len1-up c = counted_next _ c.loop.invariant 1 c.loop-test.true (one_sizes _ c.in-len1-up.len_at_least c.if-b-lt128.true)

pub overflow_add-len-in-len2-up : goal.overflow_add-len-in-len2-up
overflow_add-len-in-len2-up c =
    omega (arith, counted_small _ c.loop.invariant 2 (two_sizes _ c.if-b-lt128.false c.in-len2-up.len_at_least c.if-b-gt0.true c.if-b-lt128-2.true), c.well_formed.0.0)

pub loop-preserved-in-len2-up : goal.loop-preserved-in-len2-up
loop-preserved-in-len2-up c = counted_next _ c.loop.invariant 2 c.loop-test.true (two_sizes _ c.if-b-lt128.false c.in-len2-up.len_at_least c.if-b-gt0.true c.if-b-lt128-2.true)

pub returns-in_err-one : goal.returns-in_err-one
returns-in_err-one c =
    passed_on (Sizes _) _ _ c.from_residual.ensures (counted_stops _ c.loop.invariant c.loop-test.true _ c.in_err-one.ensures)

pub overflow_add-len-in-loop : goal.overflow_add-len-in-loop
overflow_add-len-in-loop c = omega (arith, counted_small _ c.loop.invariant _ c.in_ok-one.ensures, c.well_formed.0.0)

pub loop-preserved : goal.loop-preserved
loop-preserved c = counted_next _ c.loop.invariant _ c.loop-test.true c.in_ok-one.ensures

pub returns : goal.returns
returns c = counted_end _ c.loop.invariant c.loop-test.false
