-- `ostream::OStream::write_sequence_begin_lazy`: where the id can be held, it takes the next place and nothing is written.
use mathlib.Core.Path.{refl, sym, ap, ◌∙◌}
use native.Mathlib.Omega.{arith}
use borrow.Author.Tests.{lt-ltb, le-ltb, lt-leb}
use lib.ListN.{length}
use Rattle.std.specs.Prelude.{Ok}
use Rattle.ostream.specs.declared.OStream.{OStream}
use Rattle.ostream.specs.declared.Answer.TheVariants.{Done}
use Rattle.ostream.specs.Stream.{lazy_depth, holding}
use Rattle.ostream.specs.Calls.{begin_call}
use Rattle.ostream.proofs.Calls.{is_sound, alters}
use Rattle.ostream.proofs.AtOnce.{Holds, can_hold}
use Rattle.ostream.proofs.OStream.write_sequence_begin_lazy.Goals as goal

pub hold-requires : goal.hold-requires
hold-requires c = let h = (let held : Holds c.args.self (length c.args.buf.now) c.args.id = can_hold _ _ _ (sym (rw c.nest.ensures at c.can_hold.ensures) ∙ c.if-can_hold.true) in held) in (h.few, h.shallow)

pub returns-then-can_hold : goal.returns-then-can_hold
unfolding holding
returns-then-can_hold c =
    let h = (let held : Holds c.args.self (length c.args.buf.now) c.args.id = can_hold _ _ _ (sym (rw c.nest.ensures at c.can_hold.ensures) ∙ c.if-can_hold.true) in held) in
    let n = h.few in
    let i = (is_sound c.args.self (length c.args.buf.now) h.sound).inside in
    alters (begin_call c.args.self (length c.args.buf.now) c.args.id) c.args.self c.args.buf.now c.args.place _ (holding c.args.self c.args.id)
    (simp (lt-ltb c.args.self.npending lazy_depth n))
    (simp (lt-ltb c.args.self.npending lazy_depth n))
    (simp (h.sound, lt-leb _ _ h.shallow, le-ltb _ _ h.legal))
    i
    refl
    (ap (λ (x : OStream). record { answer = Ok Done; stream = x }) c.hold.ensures ∙ sym (simp (le-ltb 0 c.args.place (omega arith))))
