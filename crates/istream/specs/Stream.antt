-- The reader's state as the machine's and back, which states are sound, and what a call answers: `fed_of`.
use Rattle.std.specs.Prelude.{ℕ, Bool, ◌&&◌, List, leb, Err}
use Rattle.layout.specs.Limits.{Limits, pick}
use Rattle.machine.specs.Calls.{State, reading, owing, broke, Called, call, standing}
use Rattle.machine.specs.Calls as calls
use Rattle.types.specs.Types.{refusal}
use Rattle.phase.specs.Phases.{state_at, phase_of, carried_of, sound_phase}
use Rattle.istream.specs.declared.IStream.{IStream}
use Rattle.istream.specs.declared.Standing.{Standing}
use Rattle.istream.specs.declared.Standing.TheVariants as Standings
use Rattle.istream.specs.declared.Fed.{Fed}
use Rattle.istream.specs.declared.Heard.{Heard}
-- the machine's verdict and answer as the code's
pub use Rattle.call_end.specs.CallEnd.{status_in, answer_in}

-- ---- the state

-- as the machine's
abbrev pub state_of : IStream → State
state_of s = state_at s.carried.depth s.phase

-- and back
abbrev pub stream_in : State → IStream
stream_in st = record { phase = phase_of st; carried = carried_of st }

unfoldable pub sound_stream : Limits → IStream → Bool
sound_stream L s = leb s.carried.depth L.depth && sound_phase L s.phase

-- ---- a call

-- where the message stands: "complete when no field is under way and depth is 0, else incomplete"; a broken reader stays so
abbrev pub standing_in : calls.Standing → Standing
standing_in calls.complete = Standings.Complete
standing_in calls.incomplete = Standings.Incomplete
standing_in calls.broken = Standings.Invalid

unfoldable pub status_of : IStream → Standing
status_of s = standing_in (standing (state_of s))

unfoldable pub fed_in : Called → Fed
fed_in c = record { read = c.read; answer = answer_in c.read c.answer; stream = stream_in c.state }

-- "Number 1: the reader state isn't sound; nothing is read and the state returns unaltered."
abbrev pub if_sound : Limits → IStream → List ℕ → Fed
if_sound L s c =
    pick (sound_stream L s) (fed_in (call L (state_of s) c)) (record { read = 0; answer = Err (refusal 1); stream = s })

-- "Each later call, an empty chunk too, gives 2 with nothing read."
abbrev pub still : IStream → Fed
still s = record { read = 0; answer = Err (refusal 2); stream = s }

abbrev pub fed_from : Limits → State → IStream → List ℕ → Fed
fed_from L (reading d p) s c = if_sound L s c
fed_from L (owing d id r) s c = if_sound L s c
fed_from L broke s c = still s

-- a broken reader is always sound, whatever its depth
unfoldable pub fed_of : Limits → IStream → List ℕ → Fed
fed_of L s c = fed_from L (state_of s) s c

-- a call's answer apart from the state that it leaves
abbrev pub heard_of : Fed → Heard
heard_of f = record { read = f.read; answer = f.answer }
