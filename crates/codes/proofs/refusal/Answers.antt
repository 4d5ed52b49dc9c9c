-- `codes::refusal` meets its contract: a number for each verdict but one.
use Rattle.whole.specs.declared.Verdict.TheVariants.{Incomplete, Broken}
use Rattle.codes.proofs.Numbers.{refuses}
use Rattle.codes.proofs.refusal.Goals as goal

pub returns-in-Incomplete : goal.returns-in-Incomplete
returns-in-Incomplete c w e = refuses w _ Incomplete e c.in-Incomplete.is

pub returns-in-Broken : goal.returns-in-Broken
returns-in-Broken c w e = refuses w _ (Broken _) e c.in-Broken.is
