-- `ostream::OStream::commit`: the places that were used are cleared.
use mathlib.Core.Path.{ap}
use mathlib.Core.List.{List}
use Prim.Native.Nat.{ℕ}
use Rattle.ostream.specs.Stream.{committed}
use Rattle.ostream.proofs.OStream.commit.Goals as goal

pub returns : goal.returns
unfolding committed
returns c =
    ap (λ (l : List ℕ). record { offset = c.args.self.offset; depth = c.args.depth; pending = l; npending = 0 }) c.clear-cleared.ensures
