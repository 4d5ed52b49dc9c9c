-- `host::sofab_verdict` meets its contract: a number for each verdict.
use mathlib.Core.Path.{◌≡◌, ◌∙◌}
use mir.Syntax.{w64}
use mir.Val.{to_z, of_z}
use borrow.Author.Rules.{rules}
use Rattle.host.proofs.sofab_verdict.Goals as goal

pub returns : goal.returns
returns c = let f : to_z w64 (of_z w64 c.number.result) ≡ c.number.result = search rules in f ∙ c.number.ensures _ c.verdict_of.ensures
