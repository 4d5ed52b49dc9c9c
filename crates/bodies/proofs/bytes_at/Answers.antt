-- `bodies::bytes_at` meets its contract, by what the word's subtype comes to.
use mathlib.Core.Path.{sym, ◌∙◌}
use Rattle.bodies.proofs.Landing.{bytes_fit, bytes_misfit, bytes_unknown}
use Rattle.bodies.proofs.bytes_at.Goals as goal
use Rattle.bodies.proofs.bytes_at.Goals.{in_default-via-in-Ok+else-fits, in_default-via-in_default}

pub returns-in-Ok : goal.returns-in-Ok
returns-in-Ok c id d = bytes_fit id _ _ _ c.in-Ok.ensures (sym c.fits.ensures ∙ c.if-fits.true) d ∙ c.jump.ensures d

pub returns-in_default : goal.returns-in_default
returns-in_default c id d =
    elim c.in_default.branch [
      | in_default-via-in-Ok+else-fits w ↦ bytes_misfit id _ _ _ w.in-Ok.ensures (sym w.fits.ensures ∙ w.if-fits.false) d
      | in_default-via-in_default w ↦ bytes_unknown id _ _ w.in_default.ensures d
    ]
