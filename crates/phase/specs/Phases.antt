-- The phases as the machine's states and back, and which of them can be.
use Rattle.std.specs.Prelude.{ℕ, ◌^◌, Bool, true, ◌&&◌, leb, ltb}
use Rattle.layout.specs.Limits.{Limits}
use Rattle.layout.specs.Field.{bytes_of}
use Rattle.machine.specs.Machine as machine
use Rattle.machine.specs.Machine.{in_header, in_unsigned, in_signed, in_word, in_unsigned_count, in_signed_count, in_float_count, in_array_word, in_float, in_payload}
use Rattle.machine.specs.Calls.{State, reading, owing, broke}
use Rattle.types.specs.Types.{width, float_type, raw_sort, raw_type}
use Rattle.varint.specs.declared.Acc.{Acc}
use Rattle.varint.specs.Varint.{sound_acc}
use Rattle.phase.specs.declared.Carried.{Carried}
use Rattle.phase.specs.declared.Phase.{Phase}
use Rattle.phase.specs.declared.Phase.TheVariants.{Header, Unsigned, Signed, Word, UnsignedCount, SignedCount, FloatCount, ArrayWord, Float, Payload, Empty, Broken}

-- a phase at a depth, as the machine's state
abbrev pub state_at : ℕ → Phase → State
state_at d (Header a) = reading d (in_header a.taken a.value)
state_at d (Unsigned id left a) = reading d (in_unsigned id left a.taken a.value)
state_at d (Signed id left a) = reading d (in_signed id left a.taken a.value)
state_at d (Word id a) = reading d (in_word id a.taken a.value)
state_at d (UnsignedCount id a) = reading d (in_unsigned_count id a.taken a.value)
state_at d (SignedCount id a) = reading d (in_signed_count id a.taken a.value)
state_at d (FloatCount id a) = reading d (in_float_count id a.taken a.value)
state_at d (ArrayWord id count a) = reading d (in_array_word id count a.taken a.value)
state_at d (Float id w left k v) = reading d (in_float id (width w) left k v)
state_at d (Payload id r total o) = reading d (in_payload id (raw_sort r) total o)
state_at d (Empty id r) = owing d id (raw_sort r)
state_at d Broken = broke

-- and back
abbrev acc : ℕ → ℕ → Acc
acc k v = record { value = v; taken = k }

abbrev pub phase_in : machine.Phase → Phase
phase_in (in_header k v) = Header (acc k v)
phase_in (in_unsigned id left k v) = Unsigned id left (acc k v)
phase_in (in_signed id left k v) = Signed id left (acc k v)
phase_in (in_word id k v) = Word id (acc k v)
phase_in (in_unsigned_count id k v) = UnsignedCount id (acc k v)
phase_in (in_signed_count id k v) = SignedCount id (acc k v)
phase_in (in_float_count id k v) = FloatCount id (acc k v)
phase_in (in_array_word id count k v) = ArrayWord id count (acc k v)
phase_in (in_float id w left k v) = Float id (float_type w) left k v
phase_in (in_payload id r total o) = Payload id (raw_type r) total o

-- the phase and the depth of the machine's state; a broken reader has no number in force: depth 0
abbrev pub phase_of : State → Phase
phase_of (reading d p) = phase_in p
phase_of (owing d id r) = Empty id (raw_type r)
phase_of broke = Broken

-- what is carried along at a depth
abbrev pub carried_at : ℕ → Carried
carried_at d = record { depth = d }

abbrev pub depth_of : State → ℕ
depth_of (reading d p) = d
depth_of (owing d id r) = d
depth_of broke = 0

abbrev pub carried_of : State → Carried
carried_of st = carried_at (depth_of st)

-- "Only numbers in force are tested. Reader: id to `ID_MAX`, depth to 255; within a varint k bytes taken, 0 to 9, value below 2 to the 7k;
-- within a float fewer bytes than its width, value below 256 to that number; elements left to 2,147,483,647; within a payload, total 1
-- to 2,147,483,647 and offset below it." "A broken reader has no number in force".
abbrev pub id_in : Limits → ℕ → Bool
id_in L id = leb id L.id

abbrev pub count_in : Limits → ℕ → Bool
count_in L n = leb n L.count

abbrev pub sound_phase : Limits → Phase → Bool
sound_phase L (Header a) = sound_acc L a
sound_phase L (Unsigned id left a) = id_in L id && (count_in L left && sound_acc L a)
sound_phase L (Signed id left a) = id_in L id && (count_in L left && sound_acc L a)
sound_phase L (Word id a) = id_in L id && sound_acc L a
sound_phase L (UnsignedCount id a) = id_in L id && sound_acc L a
sound_phase L (SignedCount id a) = id_in L id && sound_acc L a
sound_phase L (FloatCount id a) = id_in L id && sound_acc L a
sound_phase L (ArrayWord id count a) = id_in L id && (count_in L count && sound_acc L a)
sound_phase L (Float id w left k v) = id_in L id && (count_in L left && (ltb k (bytes_of (width w)) && ltb v (256 ^ k)))
sound_phase L (Payload id r total o) = id_in L id && (leb total L.size && ltb o total)
sound_phase L (Empty id r) = id_in L id
sound_phase L Broken = true
