-- `ostream::OStream::write_sequence_end_keep`: the refusals, then the close, behind what is held.
use mathlib.Core.Path.{sym, ◌∙◌}
use Rattle.ostream.proofs.Calls.{refuses}
use Rattle.ostream.proofs.OStream.write_sequence_end_keep.Goals as goal

pub returns-in-Err : goal.returns-in-Err
returns-in-Err c = refuses _ _ _ _ _ _ (sym (rw c.sound.ensures at c.check_end.ensures) ∙ c.in-Err.is) c.refuse.ensures
