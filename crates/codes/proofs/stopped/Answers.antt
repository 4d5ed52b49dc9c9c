-- `codes::stopped` meets its contract.
use mathlib.Core.Path.{sym, ap, ◌∙◌}
use Rattle.std.specs.Prelude.{Err}
use Rattle.codes.proofs.Numbers.{measures}
use Rattle.codes.proofs.stopped.Goals as goal

pub returns-in-Short : goal.returns-in-Short
returns-in-Short c w n e = measures w n (ap Err (sym c.in-Short.is) ∙ e)

pub returns-in-Broken : goal.returns-in-Broken
returns-in-Broken c w n e = measures w n (ap Err (sym c.in-Broken.is) ∙ e)
