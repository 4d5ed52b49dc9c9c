-- `floats::put_floats`: the rest of the first element that is not all out, as many whole ones as there is room for, and what goes of the next.
use Prim.Native.Nat.{◌+◌, ◌-◌}
use mathlib.Core.Path.{◌≡◌, ap, ◌∙◌}
use native.Mathlib.Omega.{arith}
use Rattle.elements.proofs.Resumed.{resumed_end, resumed_stop}
use Rattle.floats.proofs.Evenly.{sizes, evenly_start, evenly_begun, block_fits, evenly_ran, evenly_last}
use Rattle.floats.proofs.put_floats.Goals as goal

pub returns-then-items-whole : goal.returns-then-items-whole
returns-then-items-whole g c =
    let float = g.T.Float in
    let k = c.BYTES-bytes.ensures in
    let few = sizes float.BYTES float.width g.met.T.Float.sized in
    resumed_end _ _ _ _ _ _ _ _ (evenly_start float.bits float.BYTES few _ c.args.cursor _ _ _ (rw k at c.evenly_out-whole.ensures)) c.if-items-whole.true

pub returns-then-buf-at : goal.returns-then-buf-at
returns-then-buf-at g c =
    let float = g.T.Float in
    let k = c.BYTES-bytes.ensures in
    let few = sizes float.BYTES float.width g.met.T.Float.sized in
    let e = c.bits.ensures ∙ ap float.bits c.index-items-whole.is in
    resumed_stop _ _ _ _ _ _ _ (evenly_begun float.bits float.BYTES few _ c.args.cursor _ _ _ (rw k at c.evenly_out-whole.ensures) c.if-items-whole.false _ _ e _ _ (rw k at c.put_part-at.ensures)) c.if-buf-at.true

pub put_fittings-end-requires : goal.put_fittings-end-requires
put_fittings-end-requires g c =
    let float = g.T.Float in
    let k = c.BYTES-bytes.ensures in
    let few = sizes float.BYTES float.width g.met.T.Float.sized in
    let e = c.bits.ensures ∙ ap float.bits c.index-items-whole.is in
    let n : c.evenly_out-whole.result.whole + 1 + c.min.result - (c.evenly_out-whole.result.whole + 1) ≡ c.min.result = omega arith in
    block_fits float.bits float.BYTES few _ c.args.cursor _ _ _ (rw k at c.evenly_out-whole.ensures) c.if-items-whole.false _ _ e _ _ (rw k at c.put_part-at.ensures) (omega arith) _ _ (rw k at c.min.ensures) n

pub returns-then-items-last : goal.returns-then-items-last
returns-then-items-last g c =
    let float = g.T.Float in
    let k = c.BYTES-bytes.ensures in
    let few = sizes float.BYTES float.width g.met.T.Float.sized in
    let e = c.bits.ensures ∙ ap float.bits c.index-items-whole.is in
    let n : c.evenly_out-whole.result.whole + 1 + c.min.result - (c.evenly_out-whole.result.whole + 1) ≡ c.min.result = omega arith in
    resumed_end _ _ _ _ _ _ _ _ (evenly_ran float.bits float.BYTES few _ c.args.cursor _ _ _ (rw k at c.evenly_out-whole.ensures) c.if-items-whole.false _ _ e _ _ (rw k at c.put_part-at.ensures) (omega arith) _ _ (rw k at c.min.ensures) n _ _ c.put_fittings-end.ensures) c.if-items-last.true

pub returns : goal.returns
returns g c =
    let float = g.T.Float in
    let k = c.BYTES-bytes.ensures in
    let few = sizes float.BYTES float.width g.met.T.Float.sized in
    let e = c.bits.ensures ∙ ap float.bits c.index-items-whole.is in
    let d = c.bits-2.ensures ∙ ap float.bits c.index-items-last.is in
    let n : c.evenly_out-whole.result.whole + 1 + c.min.result - (c.evenly_out-whole.result.whole + 1) ≡ c.min.result = omega arith in
    evenly_last float.bits float.BYTES few _ c.args.cursor _ _ _ (rw k at c.evenly_out-whole.ensures) c.if-items-whole.false _ _ e _ _ (rw k at c.put_part-at.ensures) (omega arith) _ _ (rw k at c.min.ensures) n _ _ c.put_fittings-end.ensures c.if-items-last.false _ _ d _ _ (rw k at c.put_part-stop.ensures)
