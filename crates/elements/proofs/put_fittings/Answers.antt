-- `elements::put_fittings`: at each turn, the elements that are left are still to write, and there is room for each.
use mathlib.Core.Path.{sym, ap, ◌∙◌, subst}
use mathlib.Core.List.{List}
use native.Mathlib.Omega.{arith}
use Rattle.layout.specs.Limits.{base, longest}
use Rattle.layout.specs.Varint.{shortest}
use Rattle.elements.proofs.Room.{Roomy, roomy_here, roomy_varint, roomy_end, after}
use Rattle.elements.proofs.put_fittings.Goals as goal

pub put_fitting-at-requires : goal.put_fitting-at-requires
put_fitting-at-requires g c =
    let number = g.T.Integer.number in
    let v = c.number.ensures ∙ ap number c.v-item.is in
    let first = roomy_varint number _ _ _ _ _ c.loop-left.left.now 0 c.loop-left.invariant (omega arith) _ _ v c.number.type_inv _ _ c.put_fitting-mid.ensures in
    roomy_here _ _ _ _ _ _ _ c.loop-left.left.now 1 first (omega arith)

pub loop-left-preserved : goal.loop-left-preserved
loop-left-preserved g c =
    let number = g.T.Integer.number in
    let v = c.number.ensures ∙ ap number c.v-item.is in
    let w = c.number-in-len2-up.ensures ∙ ap number c.w-item.is in
    let left = c.loop-left.left.now in
    let first = roomy_varint number _ _ _ _ _ left 0 c.loop-left.invariant (omega arith) _ _ v c.number.type_inv _ _ c.put_fitting-mid.ensures in
    let second = roomy_varint number _ _ _ _ _ left 1 first (omega arith) _ _ w c.number-in-len2-up.type_inv _ _ c.put_fitting-at.ensures in
    subst (λ (r : List g.row.T.Denot). Roomy (λ x. shortest (number x)) (longest base) c.args.items.now c.args.buf.now c.args.pos c.put_fitting-at.new.buf c.put_fitting-at.result r) (sym (after left 2)) second

pub returns-in-len1-up : goal.returns-in-len1-up
returns-in-len1-up g c =
    let number = g.T.Integer.number in
    let v = c.number-in-len1-up.ensures ∙ ap number c.v-item-2.is in
    let last = roomy_varint number _ _ _ _ _ c.loop-left.left.now 0 c.loop-left.invariant c.in-len1-up.len_at_least _ _ v c.number-in-len1-up.type_inv _ _ c.put_fitting.ensures in
    roomy_end _ _ _ _ _ _ _ c.loop-left.left.now 1 last (omega arith)

pub returns-in-empty : goal.returns-in-empty
returns-in-empty g c = roomy_end _ _ _ _ _ _ _ c.loop-left.left.now 0 c.loop-left.invariant (omega arith)
