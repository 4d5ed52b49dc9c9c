-- `passing::element_at` meets its contract.
use Rattle.passing.proofs.Varints.{one_ends, two_ends}
use Rattle.passing.proofs.element_at.Goals as goal

pub returns-in-len1-up : goal.returns-in-len1-up
returns-in-len1-up c d = one_ends d _ c.in-len1-up.len_at_least c.if-b-lt128.true

pub returns-in-len2-up : goal.returns-in-len2-up
returns-in-len2-up c d = two_ends d _ c.if-b-lt128.false c.in-len2-up.len_at_least c.if-b-lt128-2.true
