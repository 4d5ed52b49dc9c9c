-- `codes::uncounted` meets its contract.
use mathlib.Core.Path.{◌≡◌, sym, ap, ◌∙◌}
use mir.Syntax.{w64}
use mir.Val.{to_z, of_z}
use Rattle.std.specs.Prelude.{Err}
use Rattle.codes.proofs.Numbers.{drains_told, stop_told}
use borrow.Author.Rules.{rules}
use Rattle.codes.proofs.uncounted.Goals as goal

pub returns-in-Stopped : goal.returns-in-Stopped
returns-in-Stopped c b w n e =
    let f : to_z w64 (of_z w64 c.stopped.result) ≡ c.stopped.result = search rules in
    f ∙ stop_told _ c.stopped.ensures ∙ drains_told b w n (ap Err (sym c.in-Stopped.is) ∙ e)

pub returns-in-Refused : goal.returns-in-Refused
returns-in-Refused c b w n e = drains_told b w n (ap Err (sym c.in-Refused.is) ∙ e)
