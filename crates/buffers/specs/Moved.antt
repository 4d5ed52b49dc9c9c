-- A drain and a buffer change by numbers: the refusals in order, else the old position and the new one.
use Rattle.std.specs.Prelude.{Bool, List, [], ◌∷◌, ℕ, Result, Ok, Err}
use Rattle.refusals.specs.Judged.{Judgement, accepted, refused_with, judged}
use Rattle.refusals.specs.Tests.{unsound_writer}
use Rattle.refusals.specs.Orders.{change_tests}
use Rattle.places.specs.Places.{sound_for}
use Rattle.types.specs.declared.Error.{Error}
use Rattle.buffers.specs.declared.Moved.{Moved}

abbrev pub moved_by : Judgement → ℕ → ℕ → Result Moved Error
moved_by accepted pos next = Ok (record { sent = pos; next = next })
moved_by (refused_with e) pos next = Err e

-- A drain: "the bytes below the position" are sent, "after which writing starts at 0".
abbrev pub drained_to : ℕ → ℕ → ℕ → List ℕ → ℕ → Result Moved Error
drained_to pos depth held places size = moved_by (judged (unsound_writer (sound_for pos depth held places size) ∷ [])) pos 0

-- A change "sets the position to the new offset, and answers the old position"; "Number 5 judges the new buffer there, then number 6 the
-- state by the old one."
abbrev pub changed_to : ℕ → ℕ → ℕ → List ℕ → ℕ → ℕ → ℕ → Bool → Result Moved Error
changed_to pos depth held places old new offset drained = moved_by (judged (change_tests (sound_for pos depth held places old) new offset drained)) pos offset
