-- Sound states as facts about the machine's: what the code may rely on, and what every byte keeps.
use Rattle.std.specs.Prelude.{ℕ, ◌^◌, ◌<◌, ◌≤◌, ◌≡◌, [], ◌∷◌}
use Rattle.layout.specs.Limits.{Limits}
use Rattle.layout.specs.Field.{bytes_of}
use Rattle.machine.specs.Machine.{Phase, in_header, in_unsigned, in_signed, in_word, in_unsigned_count, in_signed_count, in_float_count, in_array_word, in_float, in_payload, Stepped, on, bad}
use Rattle.machine.specs.Calls.{State, reading, owing, broke, pace_of, byte, raised_state}
use Rattle.varint.specs.Varint.{Sound}
use Rattle.event.specs.Event.{declared}

abbrev Varint : Limits → ℕ → ℕ → Type 0
Varint L k v = Sound L (record { value = v; taken = k })

abbrev Id : Limits → ℕ → Type 0
Id L id = id ≤ L.id

abbrev Count : Limits → ℕ → Type 0
Count L n = n ≤ L.count

abbrev pub SoundAt : Limits → Phase → Type 0
SoundAt L (in_header k v) = Varint L k v
SoundAt L (in_unsigned id left k v) = Id L id × (Count L left × Varint L k v)
SoundAt L (in_signed id left k v) = Id L id × (Count L left × Varint L k v)
SoundAt L (in_word id k v) = Id L id × Varint L k v
SoundAt L (in_unsigned_count id k v) = Id L id × Varint L k v
SoundAt L (in_signed_count id k v) = Id L id × Varint L k v
SoundAt L (in_float_count id k v) = Id L id × Varint L k v
SoundAt L (in_array_word id count k v) = Id L id × (Count L count × Varint L k v)
SoundAt L (in_float id w left k v) = Id L id × (Count L left × ((k < bytes_of w) × (v < 256 ^ k)))
SoundAt L (in_payload id r total o) = Id L id × ((total ≤ L.size) × (o < total))

abbrev pub SoundState : Limits → State → Type 0
SoundState L (reading d p) = (d ≤ L.depth) × SoundAt L p
SoundState L (owing d id r) = (d ≤ L.depth) × Id L id
SoundState L broke = Unit

-- sound, and read byte by byte
abbrev pub AtBytes : Limits → State → Type 0
AtBytes L (reading d p) = (d ≤ L.depth) × (SoundAt L p × (pace_of p ≡ byte))
AtBytes L (owing d id r) = ⊥
AtBytes L broke = ⊥

-- what a byte keeps: where it raises nothing, reading goes on byte by byte; where it raises an event, that is no piece
abbrev pub Kept : Limits → Stepped → Type 0
Kept L (on [] d p) = AtBytes L (reading d p)
Kept L (on (e ∷ es) d p) = ((n : ℕ) → declared n e ≡ declared 0 e) × SoundState L (raised_state d p es)
Kept L bad = Unit
