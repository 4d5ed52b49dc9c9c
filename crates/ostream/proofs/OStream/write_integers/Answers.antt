-- `ostream::OStream::write_integers`: at once from a state that holds nothing, and otherwise left to the slow form.
use mathlib.Core.Path.{◌∙◌}
use native.Mathlib.Omega.{arith}
use lib.ListN.{length}
use Rattle.layout.specs.Limits.{base}
use Rattle.layout.specs.Copy.{field_bytes}
use Rattle.at_ease.proofs.AtOnce.{stayed}
use Rattle.ostream.specs.Calls.{array_call}
use Rattle.ostream.proofs.Calls.{both, committed-none}
use Rattle.ostream.proofs.AtOnce.{is_ready, easy_with_lem, ready_array, spelled, goes_at_once, by_slow_form}
use Rattle.ostream.proofs.OStream.write_integers.Goals as goal
use Rattle.ostream.proofs.OStream.write_integers.Goals.{then-place-eq0+in_default, else-place-eq0}

pub returns-in-Some : goal.returns-in-Some
returns-in-Some g c =
    goes_at_once (array_call c.args.self (length c.args.buf.now) c.args.id (length c.args.items.now) (field_bytes (g.T.Integer.array c.args.id c.args.items.now))) c.args.self c.args.buf.now (field_bytes (g.T.Integer.array c.args.id c.args.items.now)) c.args.place _ _ _ _ _ _ (rw c.nest.ensures at c.integers_at_once.ensures) c.in-Some.is (omega arith)
    (λ t.
    let q = both _ _ t in
    let e = easy_with_lem c.args.self c.args.id (length c.args.items.now) base.count q.0 in
    let y = is_ready c.args.self (length c.args.buf.now) c.args.id _ e.0 q.1 in
    (ready_array c.args.self (length c.args.buf.now) c.args.id (length c.args.items.now) _ y e.1, spelled c.args.self y.none (field_bytes (g.T.Integer.array c.args.id c.args.items.now)), committed-none c.args.self c.args.self.depth y.none))
    c.done.ensures

pub returns : goal.returns
returns g c =
    by_slow_form (λ s n. array_call s n c.args.id (length c.args.items.now) (field_bytes (g.T.Integer.array c.args.id c.args.items.now))) c.args.self _ c.args.buf.now _ c.args.place _ _ _ c.rebuilt.ensures
    (elim c.if-place-eq0.branch [ then-place-eq0+in_default w ↦ w.buf-is ∙ stayed _ c.args.buf.now c.args.self.offset (field_bytes (g.T.Integer.array c.args.id c.args.items.now)) _ _ (rw w.nest.ensures at w.integers_at_once.ensures) w.in_default.is | else-place-eq0 w ↦ w.buf-is ])
    c.rebuilt-2.ensures c.write_integers_slowly.ensures
