-- `passing::skip_at` meets its contract: what is left of the varint is read from the place reached, after so many bytes.
use Rattle.passing.proofs.Varints.{skipping_short, skipping_more, skipping_ends, skipping_last, skipping_over}
use Rattle.passing.proofs.skip_at.Goals as goal

pub returns-in_default : goal.returns-in_default
returns-in_default c = skipping_short c.loop.invariant c.in_default.len_below

pub returns-then-b-lt128 : goal.returns-then-b-lt128
returns-then-b-lt128 c = skipping_ends c.loop.invariant c.in-len1-up.len_at_least c.loop-test.true c.if-b-lt128.true

pub loop-preserved : goal.loop-preserved
loop-preserved c = skipping_more c.loop.invariant c.in-len1-up.len_at_least c.loop-test.true c.if-b-lt128.false

pub returns-in-empty : goal.returns-in-empty
returns-in-empty c = skipping_short c.loop.invariant c.in-empty.len_below

pub returns-in-len1-up-rest : goal.returns-in-len1-up-rest
returns-in-len1-up-rest c = skipping_last c.loop.invariant c.in-len1-up-rest.len_at_least c.loop-test.false c.if-b-le1.true

pub returns-in-len1-up-2 : goal.returns-in-len1-up-2
returns-in-len1-up-2 c = skipping_over c.loop.invariant c.in-len1-up-rest.len_at_least c.loop-test.false c.if-b-le1.false
