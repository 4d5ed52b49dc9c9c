-- `passing::value_at` meets its contract: what is left of the varint is read from the state reached.
use mathlib.Core.Path.{sym, ◌∙◌}
use Rattle.passing.proofs.Varints.{under_more, under_value, under_over, under_end}
use Rattle.passing.proofs.value_at.Goals as goal

pub loop-rest-preserved : goal.loop-rest-preserved
loop-rest-preserved c = under_more c.loop-rest.invariant _ c.in-len1-up.len_at_least (sym c.push.ensures ∙ c.in-More.is)

pub returns-in-Value : goal.returns-in-Value
returns-in-Value c = under_value c.loop-rest.invariant _ c.in-len1-up.len_at_least (sym c.push.ensures ∙ c.in-Value.is)

pub returns-in-Overlong : goal.returns-in-Overlong
returns-in-Overlong c = under_over c.loop-rest.invariant c.in-len1-up.len_at_least (sym c.push.ensures ∙ c.in-Overlong.is)

pub returns : goal.returns
returns c = under_end c.loop-rest.invariant c.in_default.len_below
