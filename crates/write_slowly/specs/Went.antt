-- A field or an array by the numbers of a writer's state: its refusals in order, else its bytes behind the held headers, from a place on.
use Rattle.std.specs.Prelude.{Bool, List, ◌∷◌, ◌++◌, ℕ, length, Result, Err}
use Rattle.types.specs.declared.Error.{Error}
use Rattle.outcomes.specs.declared.Reach.{Reach}
use Rattle.refusals.specs.Judged.{Test, Judgement, accepted, refused_with, judged}
use Rattle.refusals.specs.Tests.{unsound_writer, id_too_large}
use Rattle.outcomes.specs.Outcome.{reaches}
use Rattle.places.specs.Places.{sound_for}
use Rattle.held.specs.Headers.{headers_of, buffer_after}

-- what the call comes to, and the buffer as it leaves it
pub record Went : Type 0 where
  pub outcome : Result Reach Error
  pub buf : List ℕ

-- the code's result and the buffer, as such a record
unfoldable pub went_by : Result Reach Error → List ℕ → Went
went_by r b = record { outcome = r; buf = b }

-- an output gone on with from a place, at a position in the buffer; where it is refused, the buffer is unaltered
unfoldable pub goes_by : Judgement → ℕ → List ℕ → List ℕ → ℕ → Went
goes_by accepted pos b o place = record { outcome = reaches pos (length b) (length o) place; buf = buffer_after pos b o place }
goes_by (refused_with e) pos b o place = record { outcome = Err e; buf = b }

-- the tests of a field: the state, the id, and those of its length, where it has one
abbrev pub tests : Bool → ℕ → List Test → List Test
tests sound id more = unsound_writer sound ∷ id_too_large id ∷ more

abbrev pub judgement_of : ℕ → ℕ → ℕ → List ℕ → ℕ → ℕ → List Test → Judgement
judgement_of pos depth held places size id more = judged (tests (sound_for pos depth held places size) id more)

-- a field of these bytes
abbrev pub field_from : ℕ → ℕ → ℕ → List ℕ → List ℕ → ℕ → List Test → List ℕ → ℕ → Went
field_from pos depth held places b id more bytes place = goes_by (judgement_of pos depth held places (length b) id more) pos b (headers_of held places ++ bytes) place
