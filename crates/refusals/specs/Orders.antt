-- The tests of each kind of call, in their order. Whether the state is sound is told.
use Rattle.std.specs.Prelude.{Bool, List, [], ◌∷◌, ℕ}
use Rattle.types.specs.declared.FixlenType.{FixlenType}
use Rattle.refusals.specs.Judged.{Test}
use Rattle.refusals.specs.Tests.{bad_buffer, unsound_writer, string_subtype, deepest, outermost, id_too_large, too_long, payload_too_long}

-- a buffer change: "Number 5 judges the new buffer there, then number 6 the state by the old one."
abbrev pub change_tests : Bool → ℕ → ℕ → Bool → List Test
change_tests sound size offset drained = bad_buffer size offset drained ∷ unsound_writer sound ∷ []

-- a field of one number
abbrev pub scalar_tests : Bool → ℕ → List Test
scalar_tests sound id = unsound_writer sound ∷ id_too_large id ∷ []

-- a field with a payload or an array, by the limit of its kind and its length
abbrev pub sized_tests : Bool → ℕ → ℕ → ℕ → List Test
sized_tests sound id most n = unsound_writer sound ∷ id_too_large id ∷ too_long most n ∷ []

-- the general fixed-length writer
abbrev pub fixlen_tests : Bool → FixlenType → ℕ → ℕ → List Test
fixlen_tests sound t id n = unsound_writer sound ∷ string_subtype t ∷ id_too_large id ∷ payload_too_long n ∷ []

-- an open and a close
abbrev pub begin_tests : Bool → ℕ → ℕ → List Test
begin_tests sound depth id = unsound_writer sound ∷ deepest depth ∷ id_too_large id ∷ []

abbrev pub end_tests : Bool → ℕ → List Test
end_tests sound depth = unsound_writer sound ∷ outermost depth ∷ []
