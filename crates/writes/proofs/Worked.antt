-- Series worked out: 01's example of held sequences, the numbers of refused writes, and a run over a small buffer, drained at "full".
use mathlib.Core.Path.{◌≡◌, refl}
use mathlib.Core.Bool.{true}
use mathlib.Core.List.{List, [], ◌∷◌}
use Rattle.layout.specs.Varint.{shortest, shortest_in}
use Rattle.layout.specs.Field.{each, unsigned}
use Rattle.layout.specs.Copy.{field_bytes}
use Rattle.types.specs.declared.FixlenType.TheVariants as Fix
use Rattle.putting.specs.Put.{put, over}
use Rattle.ostream.specs.Stream.{every, sound_stream, held_bytes, committed, holding, dropped, opened}
use Rattle.ostream.specs.Emission as calls
use Rattle.ostream.specs.Emission.{emitted, written_by}
use Rattle.ostream.specs.Calls.{id_too_large, payload_too_long, string_subtype}
use Rattle.ostream.specs.Buffer.{opening, draining, changing}
use Rattle.writes.specs.Series.{Desk, write, drain, change, aside, other, drains, writing, act, acts, begun, refusals}
use Rattle.writes.specs.Written.{Write, puts, opens, closes, keeps, field, op, written, taken, series, message_of, refused_of}

-- "Nine plain opens, ids 1 to 9, then nine plain closes: 0E 16 1E 26 2E 36 3E 46 4E and nine 07. One open and plain close: no bytes."
abbrev pub nine : List Write
nine =
    opens 1 ∷ opens 2 ∷ opens 3 ∷ opens 4 ∷ opens 5 ∷ opens 6 ∷ opens 7 ∷ opens 8 ∷ opens 9 ∷ closes ∷ closes ∷ closes ∷ closes ∷ closes ∷ closes ∷ closes ∷ closes ∷ closes ∷ []

pub nine_opens : message_of nine ≡ 0x0E ∷ 0x16 ∷ 0x1E ∷ 0x26 ∷ 0x2E ∷ 0x36 ∷ 0x3E ∷ 0x46 ∷ 0x4E ∷ 7 ∷ 7 ∷ 7 ∷ 7 ∷ 7 ∷ 7 ∷ 7 ∷ 7 ∷ 7 ∷ []
unfolding message_of each written taken sound_stream opened every holding committed dropped held_bytes field_bytes shortest shortest_in
nine_opens = refl

pub one_open : message_of (opens 1 ∷ closes ∷ []) ≡ []
unfolding message_of each written taken sound_stream opened every holding committed dropped held_bytes field_bytes shortest shortest_in
one_open = refl

-- a tenth open is held again, and content writes it
pub ten_opens : message_of (opens 1 ∷ opens 1 ∷ opens 1 ∷ opens 1 ∷ opens 1 ∷ opens 1 ∷ opens 1 ∷ opens 1 ∷ opens 1 ∷ opens 2 ∷ closes ∷ opens 3 ∷ puts [] (field (unsigned 1 300)) ∷ [])
    ≡ 0x0E ∷ 0x0E ∷ 0x0E ∷ 0x0E ∷ 0x0E ∷ 0x0E ∷ 0x0E ∷ 0x0E ∷ 0x0E ∷ 0x1E ∷ 0x08 ∷ 0xAC ∷ 0x02 ∷ []
unfolding message_of each written taken sound_stream opened every holding committed dropped held_bytes field_bytes shortest shortest_in
ten_opens = refl

-- "Refused, in checking order": 7, 8, 9, 10, and of two the first
abbrev pub wrong : List Write
wrong =
    puts (string_subtype Fix.Str ∷ id_too_large 2147483648 ∷ []) (field (unsigned 1 300))
    ∷ closes
    ∷ keeps
    ∷ opens 2147483648
    ∷ puts (id_too_large 2147483648 ∷ payload_too_long 2147483648 ∷ []) (field (unsigned 1 300))
    ∷ puts (id_too_large 2147483647 ∷ payload_too_long 2147483648 ∷ []) (field (unsigned 1 300))
    ∷ puts (id_too_large 2147483647 ∷ payload_too_long 2147483647 ∷ []) (field (unsigned 1 300))
    ∷ []

pub wrong_numbers : refused_of wrong ≡ 7 ∷ 8 ∷ 8 ∷ 9 ∷ 9 ∷ 10 ∷ []
unfolding refused_of refusals sound_stream opened every holding committed dropped
wrong_numbers = refl

pub wrong_bytes : message_of wrong ≡ 0x08 ∷ 0xAC ∷ 0x02 ∷ []
unfolding message_of each written taken sound_stream opened every holding committed dropped held_bytes field_bytes shortest shortest_in
wrong_bytes = refl

-- A buffer of two bytes, the first reserved. The first call fills it; a drain over another buffer, too short, is refused with 6; an opening of
-- a sequence with an illegal id, beside the series, with 9; a change to a buffer with no byte free with 5. The close after the field is refused with 8.
abbrev pub small : Desk
small =
    acts (write ∷ other (drains (1 ∷ [])) ∷ aside (op (opens 2147483648)) 0 ∷ change [] 0 true ∷ drain ∷ write ∷ write ∷ drain ∷ [])
    (series (0xAA ∷ 0xBB ∷ []) 1 true (puts (id_too_large 1 ∷ []) (field (unsigned 1 300)) ∷ closes ∷ []))

pub small_run : (small.transfers ≡ (0xAA ∷ 0x08 ∷ []) ∷ (0xAC ∷ 0x02 ∷ []) ∷ []) × (small.sent ≡ 0x08 ∷ 0xAC ∷ 0x02 ∷ []) × (small.refused ≡ 8 ∷ []) × (small.others ≡ 6 ∷ 9 ∷ 5 ∷ []) × (small.drains ≡ 2)
unfolding acts act begun opening writing draining changing calls.written written_by emitted put over sound_stream opened every holding committed dropped held_bytes field_bytes shortest shortest_in each
small_run = (refl, refl, refl, refl, refl)

-- an opening with no byte free
pub no_room : (series [] 0 true []).others ≡ 5 ∷ []
unfolding begun opening
no_room = refl
