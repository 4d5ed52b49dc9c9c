-- The tests and the writes of the fast forms, where a call writes at once. No public call of the writer cites these: each has its
-- equation in `Calls` of `ostream`, which a fast form meets as the slow one does.
use Rattle.std.specs.Prelude.{◌≡◌, Bool, true, ◌&&◌, List, ℕ, ◌+◌, ◌-◌, ◌*◌, ◌≤◌, ◌<◌, leb, ltb, length, Option, Some, None}
use Rattle.layout.specs.Limits.{base, longest, pick}
use Rattle.putting.specs.Put.{put, reached}
use Rattle.places.specs.Places.{lazy_depth, clean, sound_for}

-- the most bytes of a field's header and the varint after it
abbrev pub pair_most : ℕ
pair_most = 2 * longest base

-- whether there is room from pos on for two varints, however long, and n more bytes
unfoldable pub room_for : ℕ → ℕ → ℕ → Bool
room_for size pos n = leb pair_most size && (leb pos (size - pair_most) && leb n (size - pair_most - pos))

-- and whether no place is in use
abbrev pub roomy_at : ℕ → ℕ → List ℕ → ℕ → Bool
roomy_at size pos places n = room_for size pos n && clean places

-- whether no id is held, and nothing but the places, the room and a length stands against a field
unfoldable pub easy_at : ℕ → ℕ → ℕ → Bool
easy_at depth held id = leb id base.id && (leb held 0 && leb depth base.depth)

-- and against one with a payload or an array of n, of which `most` is the limit
abbrev pub easy_with : ℕ → ℕ → ℕ → ℕ → ℕ → Bool
easy_with depth held id n most = easy_at depth held id && leb n most

-- whether no id is held, a sequence is open, and nothing but the places and the room stands against a close
unfoldable pub closes_at : ℕ → ℕ → Bool
unfolding easy_at
closes_at depth held = ltb 0 depth && easy_at depth held 0

-- whether a sequence can be opened and held back
unfoldable pub holds_at : ℕ → ℕ → ℕ → List ℕ → ℕ → ℕ → Bool
holds_at offset depth held places size id =
    ltb held lazy_depth && (ltb depth base.depth && (leb id base.id && sound_for offset depth held places size))

-- a write that is made where a test passes, and otherwise not: where it ends, if it is made, and what it leaves
abbrev pub reached_if : Bool → List ℕ → ℕ → List ℕ → Option ℕ
reached_if t b pos o = pick t (Some (reached b pos o)) None

abbrev pub put_if : Bool → List ℕ → ℕ → List ℕ → List ℕ
put_if t b pos o = pick t (put b pos o) b

-- both: the write of o from pos on over b ends at `end` and leaves d
abbrev pub PutsIf : Bool → List ℕ → ℕ → List ℕ → List ℕ → Option ℕ → Type 0
PutsIf t b pos o d end = (end ≡ reached_if t b pos o) × (d ≡ put_if t b pos o)

-- both, and that the output has a byte at least and there is room for all of it where it is made
abbrev pub PutsWhole : Bool → List ℕ → ℕ → List ℕ → List ℕ → Option ℕ → Type 0
PutsWhole t b pos o d end = (end ≡ reached_if t b pos o) × (d ≡ put_if t b pos o) × (t ≡ true → (0 < length o) × (pos + length o ≤ length b))

-- the whole of a field's output o, where nothing stands against the field, no place is in use and there is room for two varints and n bytes
abbrev pub PutsEasily : Bool → List ℕ → ℕ → List ℕ → ℕ → List ℕ → List ℕ → Option ℕ → Type 0
PutsEasily easy b pos places n o d end = PutsWhole (easy && roomy_at (length b) pos places n) b pos o d end
