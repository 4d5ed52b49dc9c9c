-- `ostream::OStream::write_varint_field_slowly`: the field by the numbers of the state.
use Prim.Native.Nat.{◌+◌, ◌*◌}
use mathlib.Core.Path.{refl}
use mathlib.Core.List.{[], ◌++◌}
use Rattle.layout.specs.Varint.{shortest}
use Rattle.ostream.specs.Stream.{held_bytes}
use Rattle.ostream.proofs.Calls.{field_clears, goes}
use Rattle.ostream.proofs.OStream.write_varint_field_slowly.Goals as goal

pub settle-requires : goal.settle-requires
settle-requires c =
    field_clears c.args.self c.args.buf.now c.args.id [] (shortest (c.args.id * 8 + c.args.wire) ++ shortest c.args.value) c.args.place _ _ (rw c.nest.ensures at (rw c.start.ensures at c.varint_field-outcome.ensures))

pub returns : goal.returns
unfolding held_bytes
returns c =
    goes c.args.self c.args.buf.now c.args.id [] (shortest (c.args.id * 8 + c.args.wire) ++ shortest c.args.value) c.args.place _ _ (rw c.nest.ensures at (rw c.start.ensures at c.varint_field-outcome.ensures)) _ _ refl refl refl c.settle.ensures
