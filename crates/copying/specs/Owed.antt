-- The event that a copier still owes to its buffer, and what it does once it is written.
-- "At "full" its state keeps the event still owed and the place reached in it".
use Rattle.std.specs.Prelude.{ℕ, suc, ◌+◌, ◌-◌, Bool, true, false, ◌&&◌, List, [], leb, ltb, eqb, length, drop}
use Rattle.layout.specs.Limits.{Limits}
use Rattle.layout.specs.Field.{bytes_of, float, raw}
use Rattle.layout.specs.Event.{Event, Unsigned, Signed, Float, Piece, Fixlen, Array, Begin, End}
use Rattle.laws.specs.Events.{event_bytes}
use Rattle.machine.specs.Machine.{Phase, in_header, in_unsigned, in_signed, in_word, in_unsigned_count, in_signed_count, in_float_count, in_array_word, in_float, in_payload}
use Rattle.machine.specs.Calls.{State, reading, owing, broke}

-- Nothing; or an event that came while so many elements of an array were due, and the place reached in its bytes.
pub data Owed : Type 0 where
  nothing : Owed
  owes : (due : ℕ) (e : Event) (place : ℕ) → Owed

-- what is still to go out of it
unfoldable pub rest : Owed → List ℕ
rest nothing = []
rest (owes due e place) = drop place (event_bytes due e)

-- n more of its bytes are out
unfoldable pub further : Owed → ℕ → Owed
further nothing n = nothing
further (owes due e place) n = owes due e (place + n)

-- the writer's depth after an event
unfoldable pub depth_by : ℕ → Event → ℕ
depth_by d (Unsigned id n) = d
depth_by d (Signed id z) = d
depth_by d (Float id w x) = d
depth_by d (Piece id r total o bs) = d
depth_by d (Fixlen id s n) = d
depth_by d (Array id k n) = d
depth_by d (Begin id) = suc d
depth_by d End = d - 1

-- "once any owed event is written"
unfoldable pub depth_once : ℕ → Owed → ℕ
depth_once d nothing = d
depth_once d (owes due e place) = depth_by d e

-- how many elements of an array are due, the one under way included: the event that comes next is then one of them
abbrev pub left_in : Phase → ℕ
left_in (in_header k v) = 0
left_in (in_unsigned id left k v) = left
left_in (in_signed id left k v) = left
left_in (in_word id k v) = 0
left_in (in_unsigned_count id k v) = 0
left_in (in_signed_count id k v) = 0
left_in (in_float_count id k v) = 0
left_in (in_array_word id count k v) = 0
left_in (in_float id w left k v) = left
left_in (in_payload id r total o) = 0

unfoldable pub due_in : State → ℕ
due_in (reading d p) = left_in p
due_in (owing d id r) = 0
due_in broke = 0

-- ---- sound

-- "that event's id, subtype, kind, length and count as the layout allows"; a piece is never owed
unfoldable pub legal : Limits → Event → Bool
legal L (Unsigned id n) = leb id L.id
legal L (Signed id z) = leb id L.id
legal L (Float id w x) = leb id L.id
legal L (Piece id r total o bs) = false
legal L (Fixlen id (float w) n) = leb id L.id && eqb n (bytes_of w)
legal L (Fixlen id (raw r) n) = leb id L.id && leb n L.size
legal L (Array id k n) = leb id L.id && leb n L.count
legal L (Begin id) = leb id L.id
legal L End = true

-- "depths equal once any owed event is written": r the reader's, w the writer's
unfoldable pub level : ℕ → ℕ → Event → Bool
level r w (Unsigned id n) = eqb r w
level r w (Signed id z) = eqb r w
level r w (Float id f x) = eqb r w
level r w (Piece id p total o bs) = eqb r w
level r w (Fixlen id s n) = eqb r w
level r w (Array id k n) = eqb r w
level r w (Begin id) = eqb r (suc w)
level r w End = eqb (suc r) w

-- "its place below its output's length"
unfoldable pub agrees : Limits → ℕ → ℕ → Owed → Bool
agrees L r w nothing = eqb r w
agrees L r w (owes due e place) = level r w e && (legal L e && ltb place (length (event_bytes due e)))

-- "A broken reader has no number in force, and its copier owes nothing."
abbrev pub owes_nothing : Owed → Bool
owes_nothing nothing = true
owes_nothing (owes due e place) = false

unfoldable pub sound_owed : Limits → State → ℕ → Owed → Bool
sound_owed L (reading d p) w o = agrees L d w o
sound_owed L (owing d id r) w o = agrees L d w o
sound_owed L broke w o = owes_nothing o
