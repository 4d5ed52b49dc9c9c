-- The port's events as the layout's, given the chunk whose bytes a piece names, and back. Floats go by their bits.
use Rattle.std.specs.Prelude.{ℕ, ◌+◌, List, length}
use Rattle.std.proofs.Math.Seq.{slice}
use Rattle.std.specs.Float.{binary32, binary64}
use Rattle.std.specs.Float.Ieee.{of_bits, to_bits, nan_bits}
use Rattle.layout.specs.Limits.{pick}
use Rattle.layout.specs.Field.{Raw, fp32, fp64, string, blob}
use Rattle.layout.specs.Event as layout
use Rattle.types.specs.declared.RawType.{RawType}
use Rattle.types.specs.declared.RawType.TheVariants as Raws
use Rattle.types.specs.Types.{subtype, fixlen_type, kind, array_kind}
use Rattle.event.specs.declared.Bounds.{Bounds}
use Rattle.event.specs.declared.Event.{Event}
use Rattle.event.specs.declared.Event.TheVariants.{Unsigned, Signed, Fp32, Fp32Nan, Fp64, Fp64Nan, Str, Blob, Fixlen, Array, Begin, End}

-- a float with these bits
abbrev pub fp32_of : ℕ → ℕ → Event
fp32_of id n = pick (nan_bits binary32 n) (Fp32Nan id n) (Fp32 id (of_bits binary32 n))

abbrev pub fp64_of : ℕ → ℕ → Event
fp64_of id n = pick (nan_bits binary64 n) (Fp64Nan id n) (Fp64 id (of_bits binary64 n))

-- the piece that these bounds name
abbrev pub piece_of : List ℕ → ℕ → Raw → Bounds → layout.Event
piece_of c id r b = layout.Piece id r b.total b.offset (slice b.from b.to c)

-- an event of a call that was lent this chunk
abbrev pub event_of : List ℕ → Event → layout.Event
event_of c (Unsigned id n) = layout.Unsigned id n
event_of c (Signed id z) = layout.Signed id z
event_of c (Fp32 id x) = layout.Float id fp32 (to_bits binary32 x)
event_of c (Fp32Nan id n) = layout.Float id fp32 n
event_of c (Fp64 id x) = layout.Float id fp64 (to_bits binary64 x)
event_of c (Fp64Nan id n) = layout.Float id fp64 n
event_of c (Str id b) = piece_of c id string b
event_of c (Blob id b) = piece_of c id blob b
event_of c (Fixlen id s n) = layout.Fixlen id (subtype s) n
event_of c (Array id k n) = layout.Array id (kind k) n
event_of c (Begin id) = layout.Begin id
event_of c End = layout.End

-- and back, a piece beginning at this place of the chunk
abbrev pub bounds_at : ℕ → ℕ → ℕ → List ℕ → Bounds
bounds_at from total offset bs = record { total = total; offset = offset; from = from; to = from + length bs }

abbrev pub declared : ℕ → layout.Event → Event
declared from (layout.Unsigned id n) = Unsigned id n
declared from (layout.Signed id z) = Signed id z
declared from (layout.Float id fp32 n) = fp32_of id n
declared from (layout.Float id fp64 n) = fp64_of id n
declared from (layout.Piece id string total o bs) = Str id (bounds_at from total o bs)
declared from (layout.Piece id blob total o bs) = Blob id (bounds_at from total o bs)
declared from (layout.Fixlen id s n) = Fixlen id (fixlen_type s) n
declared from (layout.Array id k n) = Array id (array_kind k) n
declared from (layout.Begin id) = Begin id
declared from layout.End = End

-- a piece of n bytes, which begins at the chunk's first
abbrev pub piece_in : ℕ → RawType → ℕ → ℕ → ℕ → Event
piece_in id r total o n = elim r [ Raws.Str ↦ Str id (record { total = total; offset = o; from = 0; to = n }) | Raws.Blob ↦ Blob id (record { total = total; offset = o; from = 0; to = n }) ]
