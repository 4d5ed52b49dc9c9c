-- The reader's call: it reads on to the next event and stops there, or gives the verdict once the chunk is spent.
-- "Each call stops after one. A byte that raises two gives the second in a call that reads nothing."
use Rattle.std.specs.Prelude.{ℕ, suc, ◌+◌, ◌-◌, min, List, [], ◌∷◌, length, take, ltb}
use Rattle.layout.specs.Limits.{Limits, pick}
use Rattle.layout.specs.Field.{Raw}
use Rattle.layout.specs.Event.{Event, Piece}
use Rattle.layout.specs.Message as Message
use Rattle.layout.specs.Message.{Verdict}
use Rattle.machine.specs.Machine.{Phase, in_header, in_unsigned, in_signed, in_word, in_unsigned_count, in_signed_count, in_float_count, in_array_word, in_float, in_payload}
use Rattle.machine.specs.Machine.{idle, Stepped, on, bad, step, ending, verdict_after}

-- between calls: reading on, an empty payload's piece still due, or broken
pub data State : Type 0 where
  reading : (d : ℕ) (p : Phase) → State
  owing : (d id : ℕ) (r : Raw) → State
  broke : State

abbrev pub fresh : State
fresh = reading 0 idle

-- an event, the verdict after the chunk, or number 2
pub data Said : Type 0 where
  event : Event → Said
  verdict : Verdict → Said
  invalid : Said

-- the bytes read of the chunk, the answer and the state after the call
pub record Called : Type 0 where
  pub read : ℕ
  pub answer : Said
  pub state : State

-- the verdict at a depth and phase
abbrev pub verdict_at : ℕ → Phase → Verdict
verdict_at d p = verdict_after 0 (ending d p)

-- the verdict so far: incomplete while an event is due
unfoldable pub verdict_so : State → Verdict
verdict_so (reading d p) = verdict_at d p
verdict_so (owing d id r) = Message.incomplete
verdict_so broke = Message.incomplete

-- Where a message stands after the bytes read so far. A verdict without its byte.
pub data Standing : Type 0 where
  complete incomplete broken : Standing

abbrev pub standing_of : Verdict → Standing
standing_of Message.complete = complete
standing_of Message.incomplete = incomplete
standing_of (Message.broken_at n) = broken

-- "Complete when no field is under way and depth is 0, else incomplete": an event that is due is its field's. A broken reader stays so.
unfoldable pub standing : State → Standing
standing (reading d p) = standing_of (verdict_at d p)
standing (owing d id r) = incomplete
standing broke = broken

-- a payload's bytes are read in one piece, as many as the chunk has; other bytes one by one
pub data Pace : Type 0 where
  byte : Pace
  bulk : (id : ℕ) (r : Raw) (total offset : ℕ) → Pace

abbrev pub pace_of : Phase → Pace
pace_of (in_header k v) = byte
pace_of (in_unsigned id left k v) = byte
pace_of (in_signed id left k v) = byte
pace_of (in_word id k v) = byte
pace_of (in_unsigned_count id k v) = byte
pace_of (in_signed_count id k v) = byte
pace_of (in_float_count id k v) = byte
pace_of (in_array_word id c k v) = byte
pace_of (in_float id w left k v) = byte
pace_of (in_payload id r total o) = bulk id r total o

-- n bytes are read, and k payload bytes come next
abbrev pub piece : ℕ → ℕ → ℕ → Raw → ℕ → ℕ → ℕ → List ℕ → Called
piece n d id r total o k bs =
    record { read = n + k; answer = event (Piece id r total o (take k bs)); state = reading d (pick (ltb (o + k) total) (in_payload id r total (o + k)) idle) }

-- the state after a byte that raised events: the second, if there is one, is still due
abbrev pub raised_state : ℕ → Phase → List Event → State
raised_state d p [] = reading d p
raised_state d p (Event.Unsigned id n ∷ es) = reading d p
raised_state d p (Event.Signed id z ∷ es) = reading d p
raised_state d p (Event.Float id w x ∷ es) = reading d p
raised_state d p (Piece id r total o bs ∷ es) = owing d id r
raised_state d p (Event.Fixlen id s total ∷ es) = reading d p
raised_state d p (Event.Array id k c ∷ es) = reading d p
raised_state d p (Event.Begin id ∷ es) = reading d p
raised_state d p (Event.End ∷ es) = reading d p

-- after a byte, the nth of the chunk
unfoldable pub scanned : ℕ → Stepped → (ℕ → Phase → Called) → Called
scanned n (on [] d p) f = f d p
scanned n (on (e ∷ es) d p) f = record { read = n; answer = event e; state = raised_state d p es }
scanned n bad f = record { read = n; answer = invalid; state = broke }

-- reading on from a depth and phase, n bytes of the chunk being read
unfoldable pub scan : Limits → ℕ → ℕ → Phase → List ℕ → Called
scan L n d p [] = record { read = n; answer = verdict (verdict_at d p); state = reading d p }
scan L n d p (b ∷ bs) =
    elim (pace_of p) [
      | byte ↦ scanned (suc n) (step L d p b) (λ d' p'. scan L (suc n) d' p' bs)
      | bulk id r total o ↦ piece n d id r total o (min (total - o) (length (b ∷ bs))) (b ∷ bs)
    ]

-- "Each later call, an empty chunk too, gives 2 with nothing read."
unfoldable pub call : Limits → State → List ℕ → Called
call L (reading d p) bs = scan L 0 d p bs
call L (owing d id r) bs = record { read = 0; answer = event (Piece id r 0 0 []); state = reading d idle }
call L broke bs = record { read = 0; answer = invalid; state = broke }
