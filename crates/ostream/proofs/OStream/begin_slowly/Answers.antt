-- `ostream::OStream::begin_slowly`: the refusals; then one more is held, or all that are held go out.
use Prim.Native.Nat.{ℕ, ◌+◌}
use mathlib.Core.List.{◌++◌}
use mathlib.Core.Path.{◌≡◌, refl, sym, ap, ◌∙◌}
use lib.ListN.{length}
use Rattle.layout.specs.Varint.{shortest}
use Rattle.layout.specs.Copy.{field_bytes}
use Rattle.refusals.specs.Judged.{accepted, judged}
use Rattle.checks.proofs.Checks.{check_passes}
use Rattle.ostream.proofs.Calls.{refuses, Sound, settles, alters, begin_knows}
use borrow.Author.Tests.{lt-ltb, le-ltb}
use Rattle.ostream.specs.declared.OStream.{OStream}
use Rattle.ostream.specs.Stream.{lazy_depth, held_bytes, holding, committed}
use Rattle.ostream.specs.Private.{unwritten}
use Rattle.ostream.specs.Calls.{begin_call}
use Rattle.ostream.proofs.OStream.begin_slowly.Goals as goal
use Rattle.ostream.proofs.OStream.begin_slowly.Goals.{In_default}

pub returns-in-Err : goal.returns-in-Err
returns-in-Err c = refuses _ _ _ _ _ _ (sym (rw c.sound.ensures at c.check_begin.ensures) ∙ c.in-Err.is) c.refuse.ensures

passes : (c : In_default) → judged (begin_call c.args.self (length c.args.buf.now) c.args.id).tests ≡ accepted
passes c = check_passes (judged (begin_call c.args.self (length c.args.buf.now) c.args.id).tests) (sym (rw c.sound.ensures at c.check_begin.ensures) ∙ c.in_default.is)

knows : (c : In_default) → Sound c.args.self (length c.args.buf.now)
knows c = (begin_knows c.args.self (length c.args.buf.now) c.args.id (passes c)).0

pub returns-then-self : goal.returns-then-self
unfolding holding
returns-then-self c =
    let w = (goal.at.returns-then-self c).In_default in
    let n = lt-ltb c.args.self.npending lazy_depth c.if-self.true in
    alters (begin_call c.args.self (length c.args.buf.now) c.args.id) _ _ _ _ (holding c.args.self c.args.id) (simp n) (simp n) (passes w) (knows w).inside refl (c.alter.ensures ∙ ap (λ (x : OStream). unwritten c.args.self c.args.place x) c.hold.ensures)

pub returns : goal.returns
unfolding held_bytes field_bytes
returns c =
    let n = le-ltb c.args.self.npending lazy_depth c.if-self.false in
    settles (begin_call c.args.self (length c.args.buf.now) c.args.id) c.args.self c.args.buf.now c.args.place _ _ (committed c.args.self (c.args.self.depth + 1)) _ _ (simp n (ap (λ (h : ℕ). held_bytes c.args.self ++ shortest h) c.tagged-header.ensures)) (simp n) (passes (goal.at.returns c).In_default) (rw c.held.ensures.0 at (rw c.held.ensures.1 at (rw c.start.ensures at c.put_marker-outcome.ensures))) c.settle.ensures

pub held-requires : goal.held-requires
held-requires c = (knows (goal.at.held-requires c).In_default).few
