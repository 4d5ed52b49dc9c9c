-- `elements::put_varints`: the elements' varints from the first byte on that is not out.
use Prim.Native.Nat.{ℕ, ◌+◌, ◌*◌, ◌<◌}
use mathlib.Core.List.{List}
use mathlib.Core.Path.{ap, ◌∙◌}
use native.Mathlib.Omega.{arith}
use lib.ListN.{length}
use Rattle.std.proofs.lemmas.Slice.{between_to_end}
use Rattle.layout.specs.Field.{each}
use Rattle.layout.specs.Varint.{shortest}
use Rattle.emit.proofs.Segments.{all_left}
use Rattle.putting.proofs.Turns.{whole_as}
use Rattle.elements.proofs.Resumed.{resumed_start, resumed_end, resumed_went, head_bits, head_out}
use Rattle.elements.proofs.put_varints.Goals as goal

pub returns-then-skip-eq0 : goal.returns-then-skip-eq0
returns-then-skip-eq0 g c = all_left c.args.cursor _ _ _ _ c.if-skip-eq0.true c.put_until_full-end.ensures

pub returns-then-items-whole : goal.returns-then-items-whole
returns-then-items-whole g c = resumed_end _ _ _ _ _ _ _ _ (resumed_start _ _ c.args.cursor _ _ _ c.varints_out-whole.ensures) c.if-items-whole.true

pub overflow_mul-part : goal.overflow_mul-part
overflow_mul-part g c =
    let e = c.number.ensures ∙ ap g.T.Integer.number c.index-items-whole.is in
    let k : c.varints_out-whole.result.part * 7 < 64 = head_bits g.T.Integer.number _ c.args.cursor c.args.buf.now _ _ c.varints_out-whole.ensures c.if-items-whole.false c.index-items-whole.result _ e c.number.type_inv in
    record { fits = omega arith }

pub overflow_shr-number : goal.overflow_shr-number
overflow_shr-number g c =
    let e = c.number.ensures ∙ ap g.T.Integer.number c.index-items-whole.is in
    head_bits g.T.Integer.number _ c.args.cursor c.args.buf.now _ _ c.varints_out-whole.ensures c.if-items-whole.false c.index-items-whole.result _ e c.number.type_inv

pub returns : goal.returns
returns g c =
    let e = c.number.ensures ∙ ap g.T.Integer.number c.index-items-whole.is in
    let f : g.row.T.Denot → List ℕ = λ x. shortest (g.T.Integer.number x) in
    resumed_went _ _ _ _ _ _ _ (head_out g.T.Integer.number _ c.args.cursor _ _ _ c.varints_out-whole.ensures c.if-items-whole.false c.index-items-whole.result _ e _ _ c.put_whole-next.ensures) _ _ (whole_as _ _ _ _ _ _ (ap (each f) (between_to_end c.args.items.now (c.varints_out-whole.result.whole + 1) (length c.args.items.now) (omega arith))) c.put_until_full-end-2.ensures)
