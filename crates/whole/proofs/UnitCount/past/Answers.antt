-- `whole::Count::past` meets its contract where nothing is counted.
use Prim.Native.Nat.{◌/◌}
use Rattle.whole.specs.Whole.{Lands}
use Rattle.passing.proofs.Ends.{passed_on}
use Rattle.whole.proofs.Fields.{landed, landed_not}
use Rattle.whole.proofs.UnitCount.past.Goals as goal

pub returns-in_err-end_at : goal.returns-in_err-end_at
returns-in_err-end_at c n d u =
    passed_on (Lands _ d _) _ _ c.from_residual.ensures (landed_not (c.args.h / 8) n d _ _ _ (c.in_err-end_at.ensures d))

pub returns : goal.returns
returns c n d u = landed (c.args.h / 8) n d _ _ _ (c.in_ok-end_at.ensures d)
