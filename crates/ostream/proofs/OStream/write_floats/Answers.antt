-- `ostream::OStream::write_floats`: the array by the numbers of the state.
use Prim.Native.Nat.{ℕ}
use mathlib.Core.Path.{refl, sym, ap}
use mathlib.Core.List.{[], ◌∷◌, map}
use lib.ListN.{length, length-map}
use Rattle.layout.specs.Field.{float_array}
use Rattle.layout.specs.Copy.{field_bytes}
use Rattle.ostream.specs.Stream.{held_bytes}
use Rattle.ostream.specs.Emission.{judged}
use Rattle.ostream.specs.Calls.{array_too_long, array_call}
use Rattle.ostream.proofs.Calls.{field_clears, goes}
use Rattle.ostream.proofs.OStream.write_floats.Goals as goal

pub settle-requires : goal.settle-requires
settle-requires g c = field_clears c.args.self c.args.buf.now c.args.id (array_too_long (length c.args.items.now) ∷ []) (field_bytes (float_array c.args.id g.T.Float.width (map g.T.Float.bits c.args.items.now))) c.args.place _ _ (rw c.nest.ensures at (rw c.start.ensures at c.float_array-outcome.ensures))

pub returns : goal.returns
unfolding held_bytes
returns g c =
    goes c.args.self c.args.buf.now c.args.id (array_too_long (length c.args.items.now) ∷ []) (field_bytes (float_array c.args.id g.T.Float.width (map g.T.Float.bits c.args.items.now))) c.args.place _ _ (rw c.nest.ensures at (rw c.start.ensures at c.float_array-outcome.ensures)) _ _ (ap (λ (n : ℕ). judged (array_call c.args.self (length c.args.buf.now) c.args.id n []).tests) (sym (length-map c.args.items.now g.T.Float.bits))) refl refl c.settle.ensures
