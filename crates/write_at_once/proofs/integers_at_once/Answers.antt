-- `write_at_once::integers_at_once`: the tests, and then the write.
use Prim.Native.Nat.{ℕ, ◌+◌, ◌*◌}
use mathlib.Core.Path.{sym, ap, ◌∙◌, subst}
use mathlib.Core.List.{List}
use lib.ListN.{length}
use Rattle.layout.specs.Limits.{base}
use Rattle.layout.specs.Varint.{shortest}
use Rattle.layout.specs.Copy.{field_bytes}
use Rattle.elements.specs.OutAfter.{elements_most}
use Rattle.at_ease.specs.AtOnce.{easy_with, roomy_at, PutsWhole}
use Rattle.at_ease.proofs.AtOnce.{refused, behind, within}
use Rattle.write_at_once.proofs.Rows.{row-whole}
use Rattle.write_at_once.proofs.integers_at_once.Goals as goal

pub returns-then-not-at_ease_with : goal.returns-then-not-at_ease_with
returns-then-not-at_ease_with g c = refused _ (easy_with c.args.nest.depth c.args.nest.held c.args.id (length c.args.items.now) base.count) (roomy_at (length c.args.buf.now) c.args.pos c.args.nest.places (elements_most (length c.args.items.now))) c.args.buf.now c.args.pos (field_bytes (g.T.Integer.array c.args.id c.args.items.now)) c.at_ease_with.ensures c.if-not-at_ease_with.true-raw

pub put_integers-requires : goal.put_integers-requires
put_integers-requires g c =
    within _ c.args.nest.depth c.args.nest.held c.args.id (length c.args.items.now) base.count c.at_ease_with.ensures c.if-not-at_ease_with.false-raw

pub returns : goal.returns
returns g c =
    let integer = g.T.Integer in
    let t = roomy_at (length c.args.buf.now) c.args.pos c.args.nest.places (elements_most (length c.args.items.now)) in
    let number = c.tagged.ensures ∙ ap (λ (w : ℕ). c.args.id * 8 + w) c.WIRE.ensures in
    behind _ (easy_with c.args.nest.depth c.args.nest.held c.args.id (length c.args.items.now) base.count) t c.args.buf.now c.args.pos (field_bytes (integer.array c.args.id c.args.items.now)) c.at_ease_with.ensures _ _ c.if-not-at_ease_with.false-raw
    (subst (λ (o : List ℕ). PutsWhole t c.args.buf.now c.args.pos o c.put_integers.new.buf c.put_integers.result) (sym (g.met.T.Integer.written c.args.id c.args.items.now)) (row-whole t c.args.buf.now c.args.pos _ _ (λ x. shortest (integer.number x)) c.args.items.now _ _ number c.put_integers.ensures))
