-- `elements::put_until_full`: at each turn, the elements from the index on are left to write.
use mathlib.Core.Path.{ap, ◌∙◌}
use Rattle.layout.specs.Varint.{shortest}
use Rattle.elements.proofs.Resumed.{going_next, going_end, going_full}
use Rattle.elements.proofs.put_until_full.Goals as goal

pub returns-then-buf-at : goal.returns-then-buf-at
returns-then-buf-at g c = going_full _ _ _ _ _ _ _ c.loop-x.invariant c.if-buf-at.true

pub loop-x-preserved : goal.loop-x-preserved
loop-x-preserved g c =
    let e = c.number.ensures ∙ ap g.T.Integer.number c.x-item.is in
    going_next _ _ _ _ _ _ _ c.loop-x.invariant c.x-item.result _ _ _ c.loop-x-test.true (ap shortest e) c.put_next-at.ensures

pub returns : goal.returns
returns g c = going_end _ _ _ _ _ _ _ c.loop-x.invariant c.loop-x-test.false
