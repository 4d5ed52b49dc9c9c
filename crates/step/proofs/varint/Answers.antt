-- `step::varint` meets its contract: overlong, more, or a value.
use mathlib.Core.Path.{ap, ◌∙◌}
use mir.Syntax.{w64}
use mir.Val.{Fits}
use borrow.Author.Rules.{rules}
use borrow.Enum.Refused.{opened}
use Rattle.std.specs.Prelude.{Some}
use Rattle.layout.specs.Limits.{base}
use Rattle.phase.specs.declared.Phase.{Phase}
use Rattle.phase.specs.declared.Stepped.TheVariants.{On}
use Rattle.step.proofs.Steps.{over_in, more_in, value_in}
use Rattle.step.proofs.varint.Goals as goal

pub returns-in_default-p : goal.returns-in_default-p
returns-in_default-p g c = λ P F m w. over_in base c.args.a c.args.b c.requires.sound _ c.push-p.ensures _ P F (opened c.in_default.in_default-own.keys2) (opened c.in_default-p.in_default-p-own.keys2)

pub returns-in_default : goal.returns-in_default
returns-in_default g c = λ P F m w. ap (λ (q : Phase). Some (On q c.args.carried)) (m _ _ c.under_way.ensures) ∙ more_in base c.args.a c.args.b c.requires.sound _ c.push-p.ensures _ P F _ c.in-More.is

pub returns : goal.returns
returns g c = λ P F m w.
    (let f : Fits w64 c.in-Value.v = search rules in w _ _ f.fits c.whole.ensures) ∙ value_in base c.args.a c.args.b c.requires.sound _ c.push-p.ensures _ P F _ c.in-Value.is
