-- `ostream::OStream::write_integers_slowly`: the array by the numbers of the state.
use mathlib.Core.Path.{refl}
use mathlib.Core.List.{[], ◌∷◌}
use lib.ListN.{length}
use Rattle.layout.specs.Copy.{field_bytes}
use Rattle.ostream.specs.Calls.{array_too_long}
use Rattle.ostream.specs.Stream.{held_bytes}
use Rattle.ostream.proofs.Calls.{field_clears, goes}
use Rattle.ostream.proofs.OStream.write_integers_slowly.Goals as goal

pub settle-requires : goal.settle-requires
settle-requires g c = field_clears c.args.self c.args.buf.now c.args.id (array_too_long (length c.args.items.now) ∷ []) (field_bytes (g.T.Integer.array c.args.id c.args.items.now)) c.args.place _ _ (rw c.nest.ensures at (rw c.start.ensures at c.integer_array-outcome.ensures))

pub returns : goal.returns
unfolding held_bytes
returns g c =
    goes c.args.self c.args.buf.now c.args.id (array_too_long (length c.args.items.now) ∷ []) (field_bytes (g.T.Integer.array c.args.id c.args.items.now)) c.args.place _ _ (rw c.nest.ensures at (rw c.start.ensures at c.integer_array-outcome.ensures)) _ _ refl refl refl c.settle.ensures
