-- `elements::varints_out`: at each turn, as many elements as the index are out, and what is left of the bytes belongs to those after them.
use mathlib.Core.Path.{ap, ◌∙◌}
use native.Mathlib.Omega.{arith}
use Prim.Native.Nat.{ℕ}
use lib.ListN.{length}
use Rattle.layout.specs.Limits.{base}
use Rattle.layout.specs.Varint.{shortest}
use Rattle.varint.proofs.Shortest.{length-longest}
use Rattle.elements.proofs.Resumed.{out-start, out-next, out_stop}
use Rattle.elements.proofs.varints_out.Goals as goal

pub loop-i-init : goal.loop-i-init
loop-i-init g c = out-start _ _ _

pub returns-then-left-len : goal.returns-then-left-len
returns-then-left-len g c =
    let e = c.width-len.ensures ∙ ap (λ (v : ℕ). length (shortest v)) (c.number.ensures ∙ ap g.T.Integer.number c.index-items-i.is) in
    let m = length-longest base c.number.result c.number.type_inv in
    out_stop _ _ _ _ _ c.loop-i.invariant c.index-items-i.result _ c.loop-i-test.true e (omega arith) c.if-left-len.true

pub loop-i-preserved : goal.loop-i-preserved
loop-i-preserved g c =
    let e = c.width-len.ensures ∙ ap (λ (v : ℕ). length (shortest v)) (c.number.ensures ∙ ap g.T.Integer.number c.index-items-i.is) in
    let m = length-longest base c.number.result c.number.type_inv in
    out-next _ _ _ _ _ c.loop-i.invariant c.index-items-i.result _ c.loop-i-test.true e (omega arith) c.if-left-len.false
