-- `read_at_once::long_varint` meets its contract: at each turn, whatever takes the varint is as far as the bytes so far have come to.
use mathlib.Core.Path.{refl, sym, ◌∙◌}
use Rattle.read_at_once.proofs.AtOnce.{under_more, under_value}
use Rattle.read_at_once.proofs.long_varint.Goals as goal

pub loop-i-preserved : goal.loop-i-preserved
loop-i-preserved c = under_more c.loop-i.invariant c.loop-i-test.true _ (sym c.push.ensures ∙ c.in-More.is)

pub returns-in-Value : goal.returns-in-Value
returns-in-Value c = under_value c.loop-i.invariant c.loop-i-test.true _ _ refl (sym c.push.ensures ∙ c.in-Value.is)
