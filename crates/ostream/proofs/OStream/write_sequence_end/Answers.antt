-- `ostream::OStream::write_sequence_end`: at once from a state that holds nothing, and otherwise left to the slow form.
use Prim.Native.Nat.{◌-◌, ◌<◌}
use mathlib.Core.Path.{◌∙◌, ◌≡◌, sym}
use mathlib.Core.List.{[], ◌∷◌}
use mathlib.Core.Bool.{true}
use borrow.Author.Tests.{eq-eqb, ne_eqb, ltb-true}
use native.Mathlib.Omega.{arith}
use lib.ListN.{length}
use Rattle.layout.specs.Copy.{field_bytes}
use Rattle.varint.proofs.Shortest.{shortest_one}
use Rattle.at_ease.proofs.AtOnce.{went, stayed}
use Rattle.ostream.specs.Stream.{sound_stream}
use Rattle.ostream.specs.Calls.{end_call}
use Rattle.ostream.proofs.Calls.{both, committed-none}
use Rattle.ostream.proofs.AtOnce.{closes_easy, quiet, goes_at_once, by_slow_form}
use Rattle.ostream.proofs.OStream.write_sequence_end.Goals as goal
use Rattle.ostream.proofs.OStream.write_sequence_end.Goals.{then-place-eq0+in_default, else-place-eq0}

pub overflow_sub-self : goal.overflow_sub-self
overflow_sub-self c =
    let w = went _ c.args.buf.now c.args.self.offset (7 ∷ []) _ _ _ (rw c.nest.ensures at c.close_at_once.ensures) c.in-Some.is in
    let d = (closes_easy c.args.self (both _ _ w.0).0).0 in
    omega arith

pub returns-in-Some : goal.returns-in-Some
unfolding field_bytes
returns-in-Some c =
    goes_at_once (end_call c.args.self (length c.args.buf.now)) c.args.self c.args.buf.now (7 ∷ []) c.args.place _ _ _ (record { offset = c.args.self.offset; depth = c.args.self.depth - 1; pending = c.args.self.pending; npending = c.args.self.npending }) _ _ (rw c.nest.ensures at c.close_at_once.ensures) c.in-Some.is (omega arith)
    (λ t.
    let e = both _ _ t in
    let q = closes_easy c.args.self e.0 in
    let n = q.0 in
    let y = q.1 in
    let r = both _ _ e.1 in
    let i : c.args.self.offset < length c.args.buf.now = ltb-true _ _ r.0 in
    let u : sound_stream c.args.self (length c.args.buf.now) ≡ true = quiet c.args.self (length c.args.buf.now) (omega arith) y.none y.shallow r.1 in
    (simp (u, ne_eqb c.args.self.depth 0 (λ x. omega arith)), simp (eq-eqb _ _ y.none) (sym (shortest_one 7 (omega arith))), simp (eq-eqb _ _ y.none) (committed-none c.args.self (c.args.self.depth - 1) y.none)))
    c.done.ensures

pub returns : goal.returns
returns c =
    by_slow_form (λ s n. end_call s n) c.args.self _ c.args.buf.now _ c.args.place _ _ _ c.rebuilt.ensures
    (elim c.if-place-eq0.branch [ then-place-eq0+in_default w ↦ w.buf-is ∙ stayed _ c.args.buf.now c.args.self.offset (7 ∷ []) _ _ (rw w.nest.ensures at w.close_at_once.ensures) w.in_default.is | else-place-eq0 w ↦ w.buf-is ])
    c.rebuilt-2.ensures c.end_slowly.ensures
