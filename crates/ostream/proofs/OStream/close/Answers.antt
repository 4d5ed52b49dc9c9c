-- `ostream::OStream::close`: the close, behind what is held.
use mathlib.Core.Path.{refl}
use native.Mathlib.Omega.{arith}
use lib.ListN.{length}
use borrow.Author.Tests.{ne_eqb}
use Rattle.ostream.specs.Stream.{held_bytes}
use Rattle.ostream.proofs.Calls.{is_sound, settles}
use Rattle.ostream.proofs.OStream.close.Goals as goal

pub returns : goal.returns
unfolding held_bytes
returns c =
    settles _ _ _ _ _ _ _ _ _ refl refl (simp (c.requires.0, ne_eqb c.args.self.depth 0 (λ e. omega arith))) (rw c.held.ensures.0 at (rw c.held.ensures.1 at (rw c.start.ensures at c.put_close-outcome.ensures))) c.settle.ensures

pub held-requires : goal.held-requires
held-requires c = (is_sound c.args.self (length c.args.buf.now) c.requires.0).few
