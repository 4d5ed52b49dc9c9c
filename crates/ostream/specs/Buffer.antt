-- The calls about buffers: opening, draining, and changing the buffer.
use Rattle.std.specs.Prelude.{Bool, List, [], ◌∷◌, ℕ, take, Ok, Err}
use Rattle.refusals.specs.Orders.{change_tests}
use Rattle.ostream.specs.declared.OStream.{OStream}
use Rattle.ostream.specs.declared.Answer.TheVariants.{Done}
use Rattle.ostream.specs.declared.Written.{Written}
use Rattle.ostream.specs.declared.Counted.{Counted}
use Rattle.ostream.specs.Stream.{at, opened, sound_stream}
use Rattle.ostream.specs.Emission.{Judgement, accepted, refused_with, judged, refused}
use Rattle.ostream.specs.Calls.{unsound}
pub use Rattle.refusals.specs.Tests.{bad_buffer}

-- "Opening at offset o leaves the buffer's first o bytes as they came". Where it is refused the state is that of a writer at 0.
abbrev pub opened_by : Judgement → ℕ → Written
opened_by accepted offset = record { answer = Ok Done; stream = opened offset }
opened_by (refused_with e) offset = refused (opened 0) e

unfoldable pub opening : ℕ → ℕ → Bool → Written
opening size offset drained = opened_by (judged (bad_buffer size offset drained ∷ [])) offset

-- The old position is answered, and the state is at another.
abbrev pub counted_by : Judgement → OStream → ℕ → Counted
counted_by accepted s pos = record { answer = Ok s.offset; stream = at s pos }
counted_by (refused_with e) s pos = record { answer = Err e; stream = s }

-- A drain: "the bytes below the position" are sent, "after which writing starts at 0".
unfoldable pub draining : OStream → ℕ → Counted
draining s size = counted_by (judged (unsound s size ∷ [])) s 0

abbrev pub sent : OStream → List ℕ → List ℕ
sent s b = take s.offset b

-- "Changing the buffer keeps depth and held ids, sets the position to the new offset, and answers the old position"; "Number 5 judges
-- the new buffer there, then number 6 the state by the old one."
unfoldable pub changing : OStream → ℕ → ℕ → ℕ → Bool → Counted
changing s old new offset drained = counted_by (judged (change_tests (sound_stream s old) new offset drained)) s offset
