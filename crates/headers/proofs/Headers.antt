-- Where a header is whole, the machine's steps in the form in which the code makes them: a law for each way out of a function.
use mathlib.Core.Path.{◌≡◌}
use Prim.Native.Nat.{ℕ, ◌/◌, ◌%◌, ◌<◌, ◌≤◌}
use borrow.Author.Tests.{le-leb, lt-leb}
use Rattle.std.specs.Prelude.{None}
use Rattle.layout.specs.Limits.{Limits}
use Rattle.layout.specs.Field.{wire_of}
use Rattle.machine.specs.Machine.{at_wire, at_header}
use Rattle.phase.specs.Steps.{stepped}

pub header_in : (L : Limits) (d h : ℕ) → h / 8 ≤ L.id → stepped (at_wire L d (h / 8) (wire_of (h % 8))) ≡ stepped (at_header L d h)
unfolding at_header
header_in L d h l = simp (le-leb _ _ l)

pub id_beyond : (L : Limits) (d h : ℕ) → L.id < h / 8 → None ≡ stepped (at_header L d h)
unfolding at_header
id_beyond L d h l = simp (lt-leb _ _ l)
