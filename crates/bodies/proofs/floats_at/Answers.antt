-- `bodies::floats_at` meets its contract: one jump over the elements.
use mathlib.Core.Path.{◌∙◌}
use native.Mathlib.Omega.{arith}
use borrow.Author.Rules.{rules}
use Rattle.layout.specs.Field.{fp32, fp64}
use Rattle.bodies.proofs.Landing.{floats_jump, floats_fail}
use Rattle.bodies.proofs.floats_at.Goals as goal

pub returns-in-32 : goal.returns-in-32
returns-in-32 c id d = floats_jump _ id _ _ fp32 (omega (arith, c.in-32.is)) (omega (arith, c.in-32.is)) d ∙ c.jump.ensures d

pub returns-in-65 : goal.returns-in-65
returns-in-65 c id d = floats_jump _ id _ _ fp64 (omega (arith, c.in-65.is)) (omega (arith, c.in-65.is)) d ∙ c.jump-in-65.ensures d

pub returns-in_default : goal.returns-in_default
returns-in_default c id = floats_fail _ id _ _ (search rules) (search rules)
