-- `fields::put_close`: the header of a close.
use Prim.Native.Nat.{ℕ}
use mathlib.Core.Path.{ap}
use mathlib.Core.List.{◌++◌}
use Rattle.layout.specs.Varint.{shortest}
use Rattle.layout.specs.Copy.{field_bytes}
use Rattle.held.specs.Headers.{headers_of}
use Rattle.held.proofs.Ends.{ended_as}
use Rattle.fields.proofs.put_close.Goals as goal

pub returns : goal.returns
unfolding field_bytes
returns c =
    ended_as _ _ _ _ _ _ _ (ap (λ (h : ℕ). headers_of c.args.held.count c.args.held.places ++ shortest h) c.tagged.ensures) c.put_marker.ensures
