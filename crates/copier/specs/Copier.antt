-- The copier's state as that of `copying` and back, and which states are sound.
use Rattle.std.specs.Prelude.{ℕ, Bool, true, ◌&&◌}
use Rattle.layout.specs.Limits.{base}
use Rattle.machine.specs.Calls.{reading, owing, broke}
use Rattle.istream.specs.declared.IStream.{IStream}
use Rattle.istream.specs.Stream as reader
use Rattle.istream.specs.Stream.{state_of, stream_in}
use Rattle.ostream.specs.declared.OStream.{OStream}
use Rattle.ostream.specs.Stream as writer
use Rattle.copying.specs.Copy.{Copy}
use Rattle.copying.specs.Refusals.{sound_with}
pub use Rattle.owed.specs.Owed.{owed_of, owe, owed_in, place_in}
use Rattle.copier.specs.declared.Copier.{Copier}

-- ---- the state

abbrev pub copy_of : Copier → Copy
copy_of k = record { reader = state_of k.reader; depth = k.writer.depth; pos = k.writer.offset; owed = owed_of k.owed k.place }

-- a writer at another position and depth
abbrev pub moved : OStream → ℕ → ℕ → OStream
moved w pos depth = record { offset = pos; depth = depth; pending = w.pending; npending = w.npending }

abbrev pub copier_in : OStream → Copy → Copier
copier_in w k = record { reader = stream_in k.reader; writer = moved w k.pos k.depth; owed = owed_in k.owed; place = place_in k.owed }

-- ---- sound

-- Number 1. "A broken reader has no number in force".
abbrev pub sound_reader : IStream → Bool
sound_reader s = elim (state_of s) [ reading d p ↦ reader.sound_stream base s | owing d id r ↦ reader.sound_stream base s | broke ↦ true ]

-- Number 6, for a buffer of this length.
unfoldable pub sound_writer : Copier → ℕ → Bool
sound_writer k size = sound_with base (writer.sound_stream k.writer size) k.writer.npending (copy_of k)

abbrev pub sound_copier : Copier → ℕ → Bool
sound_copier k size = sound_reader k.reader && sound_writer k size
