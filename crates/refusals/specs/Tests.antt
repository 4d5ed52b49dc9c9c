-- The writer's tests by their numbers, each with the refusal of 01's list that it stands for.
use Rattle.std.specs.Prelude.{Bool, true, false, not, ℕ, leb, ltb, eqb}
use Rattle.layout.specs.Limits.{base, pick}
use Rattle.layout.specs.Field.{Subtype, float, raw, string, blob}
use Rattle.types.specs.declared.FixlenType.{FixlenType}
use Rattle.types.specs.Types.{subtype, refusal}
use Rattle.refusals.specs.Judged.{Test}

-- "Number 5: an opening offset exceeds the buffer, or a writer to be drained would have no byte free".
abbrev pub bad_buffer : ℕ → ℕ → Bool → Test
bad_buffer size offset drained = record { fails = pick drained (leb size offset) (ltb size offset); error = refusal 5 }

-- "Number 6: the writer state isn't sound for the lent buffer".
abbrev pub unsound_writer : Bool → Test
unsound_writer sound = record { fails = not sound; error = refusal 6 }

abbrev pub is_string : Subtype → Bool
is_string (float w) = false
is_string (raw string) = true
is_string (raw blob) = false

-- "Number 7: the general fixed-length writer is given the string subtype."
abbrev pub string_subtype : FixlenType → Test
string_subtype t = record { fails = is_string (subtype t); error = refusal 7 }

-- "Number 8: a sequence is opened at depth 255 or closed at depth 0."
abbrev pub deepest : ℕ → Test
deepest depth = record { fails = leb base.depth depth; error = refusal 8 }

abbrev pub outermost : ℕ → Test
outermost depth = record { fails = eqb depth 0; error = refusal 8 }

-- "Number 9: an id exceeds `ID_MAX`."
abbrev pub id_too_large : ℕ → Test
id_too_large id = record { fails = ltb base.id id; error = refusal 9 }

-- "Number 10: a payload or array is longer than 2,147,483,647". A length has its limit, and a count has another.
abbrev pub too_long : ℕ → ℕ → Test
too_long most n = record { fails = ltb most n; error = refusal 10 }

abbrev pub payload_too_long : ℕ → Test
payload_too_long n = too_long base.size n

abbrev pub array_too_long : ℕ → Test
array_too_long n = too_long base.count n
