-- `codes::drains` meets its contract: the number itself, or a number for each reason that there is none.
use mathlib.Core.Path.{sym, ◌∙◌}
use mir.Facts.{to_z_pos}
use mir.Syntax.{w64}
use Rattle.codes.proofs.Numbers.{drains_told}
use borrow.Author.Rules.{rules}
use Rattle.codes.proofs.drains.Goals as goal

pub overflow_cast-result : goal.overflow_cast-result
overflow_cast-result c = let h = c.requires _ _ c.in-Ok.is in search rules

pub returns-in-Ok : goal.returns-in-Ok
returns-in-Ok c b w n e = to_z_pos w64 (c.requires _ _ c.in-Ok.is) ∙ drains_told b w n (sym c.in-Ok.is ∙ e)
