-- What a copier's tests come to, by its reader, its writer, what it owes and the place reached in it, for a buffer of some length. `copied`
-- in `copier` has them for its state.
use Rattle.std.specs.Prelude.{ℕ, Bool}
use Rattle.layout.specs.Limits.{base}
use Rattle.types.specs.Types.{refusal}
use Rattle.istream.specs.declared.IStream.{IStream}
use Rattle.istream.specs.Stream as reader
use Rattle.istream.specs.Stream.{state_of}
use Rattle.ostream.specs.declared.OStream.{OStream}
use Rattle.ostream.specs.Stream as writer
use Rattle.owed.specs.declared.Owed.{Owed}
use Rattle.owed.specs.Owed.{owed_of}
use Rattle.copying.specs.Copy.{Copy}
use Rattle.copying.specs.Refusals.{sound_with, is_broke, refusing}
use Rattle.refusals.specs.Judged.{Judgement, accepted, refused_with}

-- the state of `copying` that these parts make up
abbrev pub copy_by : IStream → OStream → Owed → ℕ → Copy
copy_by s w o place = record { reader = state_of s; depth = w.depth; pos = w.offset; owed = owed_of o place }

-- number 6
abbrev pub fits_writer : IStream → OStream → Owed → ℕ → ℕ → Bool
fits_writer s w o place size = sound_with base (writer.sound_stream w size) w.npending (copy_by s w o place)

-- 1, then 6, then 2. The reader goes by its own test: that looks at a broken one's depth too, which in code is a byte and so in its limit.
abbrev pub judged_by : IStream → OStream → Owed → ℕ → ℕ → Judgement
judged_by s w o place size = refusing (reader.sound_stream base s) (fits_writer s w o place size) (is_broke (state_of s)) (λ n. refused_with (refusal n)) accepted
