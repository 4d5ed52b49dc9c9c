-- `passing::header_at` meets its contract: an id of one byte, two or three is small.
use Rattle.passing.proofs.Ends.{one_header, two_header, three_header}
use Rattle.passing.proofs.header_at.Goals as goal

pub returns-in-len1-up : goal.returns-in-len1-up
returns-in-len1-up c = one_header _ c.in-len1-up.len_at_least c.if-b-lt128.true

pub returns-in-len2-up : goal.returns-in-len2-up
returns-in-len2-up c = two_header _ c.if-b-lt128.false c.in-len2-up.len_at_least c.if-c-lt128.true

pub returns-in-len3-up : goal.returns-in-len3-up
returns-in-len3-up c = three_header _ c.if-b-lt128.false c.if-c-lt128.false c.in-len3-up.len_at_least c.if-d-lt128.true
