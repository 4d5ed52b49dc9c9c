-- `whole::end_at` meets its contract, type by type.
use Prim.Native.Nat.{◌/◌, ◌%◌}
use borrow.Author.Rules.{rules}
use Rattle.whole.proofs.Fields.{scalar_passes, array_passes}
use Rattle.whole.proofs.end_at.Goals as goal

pub returns-in-0 : goal.returns-in-0
returns-in-0 c = scalar_passes (c.args.h % 8) _ _ (search rules) c.scalar_at.ensures (c.args.h / 8)

pub returns-in-3 : goal.returns-in-3
returns-in-3 c = array_passes (c.args.h % 8) _ _ (search rules) (search rules) c.array_at.ensures (c.args.h / 8)
