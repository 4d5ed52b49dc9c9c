-- `lines::put_decimal`.
use Rattle.lines.proofs.Numbers.{decimal_is}
use mathlib.Core.Path.{◌∙◌}
use Rattle.putting.proofs.Turns.{says}
use Rattle.lines.proofs.put_decimal.Goals as goal

pub returns : goal.returns
returns c =
    says _ _ _ _ _ _ (c.decimal-k.ensures.digits ∙ decimal_is _ _ c.decimal-k.ensures.len c.ranges.n.fits) c.put_rest.ensures
