-- `codes::length` meets its contract: the length itself, or a number for each reason that there is none.
use mathlib.Core.Path.{sym, ◌∙◌}
use mir.Facts.{to_z_pos}
use mir.Syntax.{w64}
use Rattle.codes.proofs.Numbers.{measures}
use Rattle.codes.proofs.length.Goals as goal

pub returns-in-Ok : goal.returns-in-Ok
returns-in-Ok c w n e = to_z_pos w64 (c.requires _ c.in-Ok.is) ∙ measures w n (sym c.in-Ok.is ∙ e)
