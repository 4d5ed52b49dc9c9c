-- `own::jump` meets its contract.
use Rattle.own.proofs.Parts.{jumps}
use Rattle.own.proofs.jump.Goals as goal

pub returns : goal.returns
returns c = jumps _ _ _ c.get.ensures.lookup
