-- The writer's state: which are sound, the headers that it holds back, and the states that calls leave.
use Rattle.std.specs.Prelude.{Bool, List, ℕ, ◌+◌, ◌-◌, set, replicate}
use Rattle.places.specs.Places.{sound_for}
use Rattle.held.specs.Headers.{headers_of}
use Rattle.ostream.specs.declared.OStream.{OStream}
unfoldable pub use Rattle.places.specs.Places.{every}
pub use Rattle.places.specs.Places.{lazy_depth, zeroed}

-- "Writer: position at most the buffer's length, held at most 8 and at most depth, depth to 255, ids to `ID_MAX`, unused places zero
-- (these are tested too)."
unfoldable pub sound_stream : OStream → ℕ → Bool
sound_stream s size = sound_for s.offset s.depth s.npending s.pending size

-- the headers of the sequences that are held back, "outermost first"
unfoldable pub held_bytes : OStream → List ℕ
unfolding headers_of
held_bytes s = headers_of s.npending s.pending

-- ---- states, by what they change

-- a state moved to another position
abbrev pub at : OStream → ℕ → OStream
at s pos = record { offset = pos; depth = s.depth; pending = s.pending; npending = s.npending }

-- none held any more, at a depth
unfoldable pub committed : OStream → ℕ → OStream
committed s depth = record { offset = s.offset; depth = depth; pending = zeroed s.npending s.pending; npending = 0 }

-- one more held, with its id; and the last one dropped, its place zero
unfoldable pub holding : OStream → ℕ → OStream
holding s id = record { offset = s.offset; depth = s.depth + 1; pending = set s.pending s.npending id; npending = s.npending + 1 }

unfoldable pub dropped : OStream → OStream
dropped s = record { offset = s.offset; depth = s.depth - 1; pending = set s.pending (s.npending - 1) 0; npending = s.npending - 1 }

-- a writer at the start of its buffer but for the reserved bytes
unfoldable pub opened : ℕ → OStream
opened offset = record { offset = offset; depth = 0; pending = replicate lazy_depth 0; npending = 0 }
