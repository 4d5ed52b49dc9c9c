-- Worked lists. 01's: "For 36 08 AC 02 07 it prints four lines: `B 6`, `U 1 300`, `E`, `complete`."
use Rattle.std.specs.Prelude.{List, [], ◌∷◌, ◌++◌, ◌≡◌, refl, ℕ, negsuc}
use Rattle.layout.specs.Limits.{base}
use Rattle.layout.specs.Varint.{push, varint_from}
use Rattle.layout.specs.Field.{each}
use Rattle.layout.specs.Event.{Signed}
use Rattle.layout.specs.Reading.{given, follow}
use Rattle.layout.specs.Message.{events_of, verdict_of, message, verdict_by, fields_from, depth_after, field, body, checked}
use Rattle.event_list.specs.Lines.{lines_of, listing, decimal, decimal_in}

-- the four lines, with a space as 32 and a line's end as 10
abbrev four : List ℕ
four =
    (66 ∷ 32 ∷ 54 ∷ 10 ∷ [])
    ++ ((85 ∷ 32 ∷ 49 ∷ 32 ∷ 51 ∷ 48 ∷ 48 ∷ 10 ∷ [])
    ++ ((69 ∷ 10 ∷ [])
    ++ (99 ∷ 111 ∷ 109 ∷ 112 ∷ 108 ∷ 101 ∷ 116 ∷ 101 ∷ 10 ∷ [])))

pub worked : listing base (0x36 ∷ 0x08 ∷ 0xAC ∷ 0x02 ∷ 0x07 ∷ []) ≡ four
unfolding listing decimal decimal_in each events_of verdict_of message verdict_by fields_from depth_after field body checked given follow varint_from push
worked = refl

-- signed, id 2, -1: `S 2 -1`
pub worked-signed : lines_of (Signed 2 (negsuc 0)) ≡ 83 ∷ 32 ∷ 50 ∷ 32 ∷ 45 ∷ 49 ∷ 10 ∷ []
unfolding decimal decimal_in
worked-signed = refl
