-- `ostream::OStream::end_slowly`: one that is held is dropped, else the close is written.
use Prim.Native.Nat.{ℕ}
use mathlib.Core.List.{List, ◌++◌}
use mathlib.Core.Path.{◌≡◌, refl, sym, ap, ◌∙◌}
use lib.ListN.{length}
use Rattle.layout.specs.Copy.{field_bytes}
use Rattle.refusals.specs.Judged.{accepted, judged}
use Rattle.checks.proofs.Checks.{check_passes}
use Rattle.ostream.proofs.Calls.{refuses, Sound, alters, recalled, none_held, is_sound, end_knows}
use borrow.Author.Tests.{eq-eqb, ne_eqb}
use Rattle.ostream.specs.declared.OStream.{OStream}
use Rattle.ostream.specs.Stream.{dropped}
use Rattle.ostream.specs.Private.{unwritten}
use Rattle.ostream.specs.Calls.{end_call, end_keep_call}
use Rattle.layout.specs.Field.{end}
use Rattle.ostream.proofs.OStream.end_slowly.Goals as goal
use Rattle.ostream.proofs.OStream.end_slowly.Goals.{In_default}

pub returns-in-Err : goal.returns-in-Err
returns-in-Err c = refuses _ _ _ _ _ _ (sym (rw c.sound.ensures at c.check_end.ensures) ∙ c.in-Err.is) c.refuse.ensures

pub returns-then-self-eq0 : goal.returns-then-self-eq0
returns-then-self-eq0 c =
    c.close.ensures
    ∙ recalled (end_keep_call c.args.self (length c.args.buf.now)) (end_call c.args.self (length c.args.buf.now)) _ _ _ refl
    (ap (λ (l : List ℕ). l ++ field_bytes (end 0)) (none_held c.args.self (c.if-self-eq0.true)) ∙ sym (simp (eq-eqb _ _ (c.if-self-eq0.true))))
    (sym (simp (eq-eqb _ _ (c.if-self-eq0.true))))

passes : (c : In_default) → judged (end_call c.args.self (length c.args.buf.now)).tests ≡ accepted
passes c = check_passes (judged (end_call c.args.self (length c.args.buf.now)).tests) (sym (rw c.sound.ensures at c.check_end.ensures) ∙ c.in_default.is)

knows : (c : In_default) → Sound c.args.self (length c.args.buf.now)
knows c = is_sound c.args.self (length c.args.buf.now) (end_knows c.args.self (length c.args.buf.now) (passes c)).0

pub returns : goal.returns
unfolding dropped
returns c =
    let w = (goal.at.returns c).In_default in
    let n = ne_eqb _ _ c.if-self-eq0.false in
    alters (end_call c.args.self (length c.args.buf.now)) _ _ _ _ (dropped c.args.self) (simp n) (simp n) (passes w) (knows w).inside refl (c.alter.ensures ∙ ap (λ (x : OStream). unwritten c.args.self c.args.place x) c.unhold.ensures)
