-- `payload::copy_in` meets its contract: after k turns the first k bytes are pasted.
use mathlib.Core.Path.{◌≡◌}
use lib.Seq.{paste}
use Rattle.payload.proofs.copy_in.Given as goal

abbrev pub invariant-loop-k : goal.invariant-loop-k
invariant-loop-k l = l.buf ≡ paste l.initial.buf l.pos l.src l.k
