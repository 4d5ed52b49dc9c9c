-- `ostream::OStream::write_varint_field`: at once from a state that holds nothing, and otherwise left to the slow form.
use Prim.Native.Nat.{◌+◌, ◌*◌}
use mathlib.Core.Path.{◌∙◌}
use mathlib.Core.List.{◌++◌}
use native.Mathlib.Omega.{arith}
use lib.ListN.{length}
use Rattle.layout.specs.Varint.{shortest}
use Rattle.at_ease.proofs.AtOnce.{stayed}
use Rattle.ostream.specs.Calls.{varint_call}
use Rattle.ostream.proofs.Calls.{both, committed-none}
use Rattle.ostream.proofs.AtOnce.{is_ready, is_easy, ready_scalar, spelled, goes_at_once, by_slow_form}
use Rattle.ostream.proofs.OStream.write_varint_field.Goals as goal
use Rattle.ostream.proofs.OStream.write_varint_field.Goals.{then-place-eq0+in_default, else-place-eq0}

pub returns-in-Some : goal.returns-in-Some
returns-in-Some c =
    goes_at_once (varint_call c.args.self (length c.args.buf.now) c.args.id c.args.wire c.args.value) c.args.self c.args.buf.now (shortest (c.args.id * 8 + c.args.wire) ++ shortest c.args.value) c.args.place _ _ _ _ _ _ (rw c.nest.ensures at c.pair_at_once.ensures) c.in-Some.is (omega arith)
    (λ t.
    let e = both _ _ t in
    let y = is_ready c.args.self (length c.args.buf.now) c.args.id 0 (is_easy c.args.self c.args.id e.0) e.1 in
    (ready_scalar c.args.self (length c.args.buf.now) c.args.id 0 y, spelled c.args.self y.none (shortest (c.args.id * 8 + c.args.wire) ++ shortest c.args.value), committed-none c.args.self c.args.self.depth y.none))
    c.done.ensures

pub returns : goal.returns
returns c =
    by_slow_form (λ s n. varint_call s n c.args.id c.args.wire c.args.value) c.args.self _ c.args.buf.now _ c.args.place _ _ _ c.rebuilt.ensures
    (elim c.if-place-eq0.branch [ then-place-eq0+in_default w ↦ w.buf-is ∙ stayed _ c.args.buf.now c.args.self.offset (shortest (c.args.id * 8 + c.args.wire) ++ shortest c.args.value) _ _ (rw w.nest.ensures at w.pair_at_once.ensures) w.in_default.is | else-place-eq0 w ↦ w.buf-is ])
    c.rebuilt-2.ensures c.write_varint_field_slowly.ensures
