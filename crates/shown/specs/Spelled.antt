-- A line taken apart, as the code has it. No reader of the event list needs this file.
use Rattle.std.specs.Prelude.{ℕ, ◌≡◌, List, [], ◌∷◌, ◌++◌, Option, None, Some}
use Rattle.std.proofs.Math.Seq.{slice}
use Rattle.layout.specs.Field.{each}
use Rattle.event.specs.declared.Event.{Event}
use Rattle.event.specs.Event.{event_of}
use Rattle.event_list.specs.Lines.{E, decimal, hexadecimal, byte_line, lines_of}
use Rattle.shown.specs.declared.Part.{Part}
use Rattle.shown.specs.declared.Part.TheVariants.{Number, Minus, Bits32, Bits64}
use Rattle.shown.specs.declared.Line.{Line}
use Rattle.shown.specs.declared.Shown.{Shown}
use Rattle.shown.specs.declared.Shown.TheVariants as Showns

-- a part with the space before it, where there is one
abbrev pub part_text : Option Part → List ℕ
part_text None = []
part_text (Some (Number n)) = 32 ∷ decimal n
part_text (Some (Minus n)) = 32 ∷ 45 ∷ decimal n
part_text (Some (Bits32 n)) = 32 ∷ hexadecimal 8 n
part_text (Some (Bits64 n)) = 32 ∷ hexadecimal 16 n

abbrev pub line_text : Line → List ℕ
line_text l = l.letter ∷ (part_text l.first ++ (part_text l.second ++ (part_text l.third ++ (10 ∷ []))))

-- a letter, an id and up to two parts more
abbrev pub lined : ℕ → ℕ → Option Part → Option Part → Shown
lined letter id second third = Showns.Line (record { letter = letter; first = Some (Number id); second = second; third = third })

abbrev pub closed : Shown
closed = Showns.Line (record { letter = E; first = None; second = None; third = None })

-- what is shown of an event of a call that was lent the chunk c
abbrev pub shown_text : List ℕ → Shown → List ℕ
shown_text c (Showns.Line l) = line_text l
shown_text c (Showns.Piece b) = each byte_line (slice b.from b.to c)

-- it is the event's lines, whatever the chunk
abbrev pub Shows : Shown → Event → Type 0
Shows s e = (c : List ℕ) → shown_text c s ≡ lines_of (event_of c e)
