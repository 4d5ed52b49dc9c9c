-- `lengths::scalar_len` meets its contract.
use Rattle.lengths.proofs.Answers.{one_sizes, scalar_sizes, as_scalars}
use Rattle.lengths.proofs.scalar_len.Goals as goal

pub returns-in-len1-up : goal.returns-in-len1-up
returns-in-len1-up c = scalar_sizes _ 1 (one_sizes _ c.in-len1-up.len_at_least c.if-b-lt128.true)

pub returns-in_default : goal.returns-in_default
returns-in_default c = as_scalars _ c.long_len.result c.long_len.ensures
