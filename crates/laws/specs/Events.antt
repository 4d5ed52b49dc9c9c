-- What a whole field raises; and the other way round, the bytes of a list of events, one event at a time: a copier's view.
use Rattle.std.specs.Prelude.{ℕ, zero, suc, ◌-◌, List, [], ◌∷◌, ◌++◌, map, length}
use Rattle.layout.specs.Varint.{shortest}
use Rattle.layout.specs.Zigzag.{zigzag}
use Rattle.layout.specs.Field.{Kind, Field, bytes_of, header, word, low_bytes}
use Rattle.layout.specs.Field.{float, raw, unsigneds, signeds, floats, t_unsigned, t_signed, t_fixlen, t_unsigneds, t_signeds, t_floats, t_begin, t_end}
use Rattle.layout.specs.Field.{unsigned, signed, payload, unsigned_array, signed_array, float_array, begin, end}
use Rattle.layout.specs.Event.{Event, Unsigned, Signed, Float, Piece, Fixlen, Array, Begin, End, cut_piece}

-- The events of a field: an announcement comes before what it announces, and a payload's pieces are its bytes one by one, or one empty
-- piece.
unfoldable pub field_events : Field → List Event
field_events (unsigned id n) = Unsigned id n ∷ []
field_events (signed id z) = Signed id z ∷ []
field_events (float id w x) = Fixlen id (float w) (bytes_of w) ∷ Float id w x ∷ []
field_events (payload id r bs) = Fixlen id (raw r) (length bs) ∷ cut_piece id r (length bs) 0 bs
field_events (unsigned_array id ns) = Array id unsigneds (length ns) ∷ map (Unsigned id) ns
field_events (signed_array id zs) = Array id signeds (length zs) ∷ map (Signed id) zs
field_events (float_array id w xs) = Array id (floats w) (length xs) ∷ map (Float id w) xs
field_events (begin id) = Begin id ∷ []
field_events (end id) = End ∷ []

unfoldable pub fields_events : List Field → List Event
fields_events [] = []
fields_events (x ∷ xs) = field_events x ++ fields_events xs

-- "Each payload's pieces joined": the same with one piece for a payload, all its bytes.
unfoldable pub joined_events : Field → List Event
joined_events (unsigned id n) = Unsigned id n ∷ []
joined_events (signed id z) = Signed id z ∷ []
joined_events (float id w x) = Fixlen id (float w) (bytes_of w) ∷ Float id w x ∷ []
joined_events (payload id r bs) = Fixlen id (raw r) (length bs) ∷ Piece id r (length bs) 0 bs ∷ []
joined_events (unsigned_array id ns) = Array id unsigneds (length ns) ∷ map (Unsigned id) ns
joined_events (signed_array id zs) = Array id signeds (length zs) ∷ map (Signed id) zs
joined_events (float_array id w xs) = Array id (floats w) (length xs) ∷ map (Float id w) xs
joined_events (begin id) = Begin id ∷ []
joined_events (end id) = End ∷ []

unfoldable pub fields_joined : List Field → List Event
fields_joined [] = []
fields_joined (x ∷ xs) = joined_events x ++ fields_joined xs

-- an array's announcement: its header and its count, and a float array's word
abbrev pub array_bytes : ℕ → Kind → ℕ → List ℕ
array_bytes id unsigneds n = header id t_unsigneds ++ shortest n
array_bytes id signeds n = header id t_signeds ++ shortest n
array_bytes id (floats w) n = header id t_floats ++ (shortest n ++ word (bytes_of w) (float w))

-- a number's bytes: bare while elements are due, and else behind a header
abbrev pub number_bytes : ℕ → List ℕ → List ℕ → List ℕ
number_bytes zero h bs = h ++ bs
number_bytes (suc due) h bs = bs

-- The bytes of one event, where so many elements of an array are still due. A float is bare in any case: its word is in the announcement
-- before it.
unfoldable pub event_bytes : ℕ → Event → List ℕ
event_bytes due (Unsigned id n) = number_bytes due (header id t_unsigned) (shortest n)
event_bytes due (Signed id z) = number_bytes due (header id t_signed) (shortest (zigzag z))
event_bytes due (Float id w x) = low_bytes (bytes_of w) x
event_bytes due (Piece id r total o bs) = bs
event_bytes due (Fixlen id s n) = header id t_fixlen ++ word n s
event_bytes due (Array id k n) = array_bytes id k n
event_bytes due (Begin id) = header id t_begin
event_bytes due End = header 0 t_end

-- the elements still due after it
unfoldable pub due_after : ℕ → Event → ℕ
due_after due (Unsigned id n) = due - 1
due_after due (Signed id z) = due - 1
due_after due (Float id w x) = due - 1
due_after due (Piece id r total o bs) = due
due_after due (Fixlen id s n) = due
due_after due (Array id k n) = n
due_after due (Begin id) = due
due_after due End = due

-- the elements still due after some events
unfoldable pub due_after_all : ℕ → List Event → ℕ
due_after_all due [] = due
due_after_all due (e ∷ es) = due_after_all (due_after due e) es

-- The bytes of some events.
unfoldable pub encode_events : ℕ → List Event → List ℕ
encode_events due [] = []
encode_events due (e ∷ es) = event_bytes due e ++ encode_events (due_after due e) es
