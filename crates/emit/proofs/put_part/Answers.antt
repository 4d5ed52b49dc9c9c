-- `emit::put_part`: the rest of the number's first bytes.
use mathlib.Core.Path.{ap}
use lib.ListN.{drop}
use Rattle.low_bytes.proofs.Low.{first_low}
use Rattle.putting.proofs.Turns.{whole_as}
use Rattle.emit.proofs.put_part.Goals as goal

pub returns : goal.returns
returns c =
    whole_as _ _ _ _ _ _ (ap (drop c.args.part) (first_low c.args.n c.args.x _ c.requires c.to_le_bytes.ensures)) c.put_own.ensures
