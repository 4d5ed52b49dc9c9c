-- `ostream::OStream::write_fixlen_slowly`: the field by the numbers of the state.
use mathlib.Core.Path.{refl}
use mathlib.Core.List.{[], ◌∷◌}
use lib.ListN.{length}
use Rattle.types.specs.Types.{subtype}
use Rattle.ostream.specs.Stream.{held_bytes}
use Rattle.ostream.specs.Calls.{payload_too_long, fixlen_bytes}
use Rattle.ostream.proofs.Calls.{field_clears, goes}
use Rattle.ostream.proofs.OStream.write_fixlen_slowly.Goals as goal

pub settle-requires : goal.settle-requires
settle-requires c =
    field_clears c.args.self c.args.buf.now c.args.id (payload_too_long (length c.args.bytes.now) ∷ []) (fixlen_bytes c.args.id (subtype c.args.subtype) c.args.bytes.now) c.args.place _ _ (rw c.nest.ensures at (rw c.start.ensures at c.fixlen_field-outcome.ensures))

pub returns : goal.returns
unfolding held_bytes
returns c =
    goes c.args.self c.args.buf.now c.args.id (payload_too_long (length c.args.bytes.now) ∷ []) (fixlen_bytes c.args.id (subtype c.args.subtype) c.args.bytes.now) c.args.place _ _ (rw c.nest.ensures at (rw c.start.ensures at c.fixlen_field-outcome.ensures)) _ _ refl refl refl c.settle.ensures
