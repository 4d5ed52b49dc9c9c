-- `own::array_at` meets its contract.
use Rattle.own.proofs.Parts.{array_ends}
use Rattle.own.proofs.array_at.Goals as goal

pub returns-then-count-n : goal.returns-then-count-n
returns-then-count-n c = array_ends c.in_ok-n.ensures c.numbers_at-count.ensures.1 c.if-count-n.true
