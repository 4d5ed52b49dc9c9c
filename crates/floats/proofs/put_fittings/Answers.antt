-- `floats::put_fittings`: at each turn, the elements from the index on are left to write, and there is room for them.
use mathlib.Core.Path.{ap, ◌∙◌}
use Rattle.layout.specs.Field.{low_bytes}
use Rattle.low_bytes.proofs.Low.{low_fits}
use Rattle.elements.proofs.Room.{roomy_next, roomy_end}
use Rattle.floats.proofs.put_fittings.Goals as goal

pub loop-x-preserved : goal.loop-x-preserved
loop-x-preserved g c =
    let float = g.T.Float in
    let e = c.bits.ensures ∙ ap float.bits c.x-item.is in
    roomy_next (λ x. low_bytes float.BYTES (float.bits x)) _ _ _ _ _ _ _ _ c.loop-x.invariant c.x-item.result _ _ _ c.loop-x-test.true (ap (low_bytes float.BYTES) e) (low_fits float.BYTES _) (rw c.BYTES.ensures at c.put_low-at.ensures)

pub returns : goal.returns
returns g c =
    let float = g.T.Float in
    let w = roomy_end (λ x. low_bytes float.BYTES (float.bits x)) _ _ _ _ _ _ _ _ c.loop-x.invariant c.loop-x-test.false in
    (w.0, w.1)
