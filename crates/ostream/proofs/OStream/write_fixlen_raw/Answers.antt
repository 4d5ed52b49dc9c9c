-- `ostream::OStream::write_fixlen_raw`: at once from a state that holds nothing, and otherwise left to the slow form.
use mathlib.Core.Path.{◌∙◌}
use native.Mathlib.Omega.{arith}
use lib.ListN.{length}
use Rattle.layout.specs.Limits.{base}
use Rattle.types.specs.Types.{subtype}
use Rattle.at_ease.proofs.AtOnce.{stayed}
use Rattle.ostream.specs.Calls.{raw_call, fixlen_bytes}
use Rattle.ostream.proofs.Calls.{both, committed-none}
use Rattle.ostream.proofs.AtOnce.{is_ready, easy_with_lem, ready_field, spelled, goes_at_once, by_slow_form}
use Rattle.ostream.proofs.OStream.write_fixlen_raw.Goals as goal
use Rattle.ostream.proofs.OStream.write_fixlen_raw.Goals.{then-place-eq0+in_default, else-place-eq0}

pub returns-in-Some : goal.returns-in-Some
returns-in-Some c =
    goes_at_once (raw_call c.args.self (length c.args.buf.now) c.args.id c.args.bytes.now c.args.subtype) c.args.self c.args.buf.now (fixlen_bytes c.args.id (subtype c.args.subtype) c.args.bytes.now) c.args.place _ _ _ _ _ _ (rw c.nest.ensures at c.field_at_once.ensures) c.in-Some.is (omega arith)
    (λ t.
    let q = both _ _ t in
    let e = easy_with_lem c.args.self c.args.id (length c.args.bytes.now) base.size q.0 in
    let y = is_ready c.args.self (length c.args.buf.now) c.args.id (length c.args.bytes.now) e.0 q.1 in
    (ready_field c.args.self (length c.args.buf.now) c.args.id (length c.args.bytes.now) y e.1, spelled c.args.self y.none (fixlen_bytes c.args.id (subtype c.args.subtype) c.args.bytes.now), committed-none c.args.self c.args.self.depth y.none))
    c.done.ensures

pub returns : goal.returns
returns c =
    by_slow_form (λ s n. raw_call s n c.args.id c.args.bytes.now c.args.subtype) c.args.self _ c.args.buf.now _ c.args.place _ _ _ c.rebuilt.ensures
    (elim c.if-place-eq0.branch [ then-place-eq0+in_default w ↦ w.buf-is ∙ stayed _ c.args.buf.now c.args.self.offset (fixlen_bytes c.args.id (subtype c.args.subtype) c.args.bytes.now) _ _ (rw w.nest.ensures at w.field_at_once.ensures) w.in_default.is | else-place-eq0 w ↦ w.buf-is ])
    c.rebuilt-2.ensures c.write_fixlen_slowly.ensures
