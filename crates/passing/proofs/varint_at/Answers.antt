-- `passing::varint_at` meets its contract.
use Rattle.passing.proofs.Varints.{one}
use Rattle.passing.proofs.varint_at.Goals as goal

pub returns-in-len1-up : goal.returns-in-len1-up
returns-in-len1-up c = one _ c.in-len1-up.len_at_least c.if-b-lt128.true
