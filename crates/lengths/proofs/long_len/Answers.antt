-- `lengths::long_len` meets its contract: as it stands in its shortest form, or by its value.
use Rattle.lengths.proofs.Answers.{own_sizes}
use Rattle.lengths.proofs.long_len.Goals as goal

pub returns-in-Some : goal.returns-in-Some
returns-in-Some c = own_sizes c.in-Some.ensures
