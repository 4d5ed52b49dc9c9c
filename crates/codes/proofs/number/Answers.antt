-- `codes::number` meets its contract: a number for each verdict.
use Rattle.whole.specs.declared.Verdict.TheVariants.{Complete, Incomplete, Broken}
use Rattle.codes.proofs.Numbers.{numbered}
use Rattle.codes.proofs.number.Goals as goal

pub returns-in-Complete : goal.returns-in-Complete
returns-in-Complete c w e = numbered w _ Complete e c.in-Complete.is

pub returns-in-Incomplete : goal.returns-in-Incomplete
returns-in-Incomplete c w e = numbered w _ Incomplete e c.in-Incomplete.is

pub returns-in-Broken : goal.returns-in-Broken
returns-in-Broken c w e = numbered w _ (Broken _) e c.in-Broken.is
