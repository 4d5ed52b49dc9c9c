-- What a call of the copier keeps, whatever chunk and buffer it is lent: no byte of the events read is lost or made up.
use Rattle.std.specs.Prelude.{ℕ, ◌<◌, ◌≤◌, ◌≡◌, ◌⊎◌, List, ◌++◌, length, take, drop}
use Rattle.layout.specs.Limits.{Limits}
use Rattle.layout.specs.Event.{Event, Unsigned, Signed, Float, Piece, Fixlen, Array, Begin, End}
use Rattle.laws.specs.Events.{encode_events}
use Rattle.machine.specs.Machine.{Phase}
use Rattle.machine.specs.Calls.{State, reading, owing, broke, Pace, byte, bulk, pace_of, verdict_at}
use Rattle.machine.specs.Run.{Follows}
use Rattle.copying.specs.Owed.{Owed, nothing, owes, rest}
use Rattle.copying.specs.Copy.{Copy, Said, full, verdict, invalid, unfinished, Copied}

-- The bytes bs are read and `out` is out: with what is owed, these are the bytes of the events given so far, behind the bytes that an
-- opening at another offset reserved ("they go out with the first drain").
pub record Keeps (L : Limits) (reserved bs out : List ℕ) (k : Copy) : Type 0 where
  pub events : List Event
  pub follows : Follows L bs events k.reader
  pub bytes : out ++ rest k.owed ≡ reserved ++ encode_events 0 events

abbrev pub Bulk : Pace → Type 0
Bulk byte = ⊥
Bulk (bulk id r total o) = Unit {0}

abbrev pub InPayload : State → Type 0
InPayload (reading d p) = Bulk (pace_of p)
InPayload (owing d id r) = ⊥
InPayload broke = ⊥

-- A byte is owed: of the owed event, or of the payload that the chunk's rest goes on with.
abbrev pub Wants : Copy → List ℕ → Type 0
Wants k c = (0 < length (rest k.owed)) ⊎ ((k.owed ≡ nothing) × InPayload k.reader × (0 < length c))

-- "The buffer is then written to its end" at "full"; the verdict comes once the chunk is spent, and nothing is owed then nor at a 2.
abbrev pub Final : Said → Copy → ℕ → List ℕ → ℕ → Type 0
Final full k used c size = (k.pos ≡ size) × Wants k (drop used c)
Final (verdict v) k used c size = (used ≡ length c) × (k.owed ≡ nothing) × ((d : ℕ) × (p : Phase) × (k.reader ≡ reading d p) × (v ≡ verdict_at d p))
Final invalid k used c size = (k.owed ≡ nothing) × (k.reader ≡ broke)
Final unfinished k used c size = ⊥

abbrev pub NotPiece : Event → Type 0
NotPiece (Unsigned id n) = Unit {0}
NotPiece (Signed id z) = Unit {0}
NotPiece (Float id w x) = Unit {0}
NotPiece (Piece id r total o bs) = ⊥
NotPiece (Fixlen id s n) = Unit {0}
NotPiece (Array id k n) = Unit {0}
NotPiece (Begin id) = Unit {0}
NotPiece End = Unit {0}

-- what is owed is no piece
abbrev pub NoPiece : Owed → Type 0
NoPiece nothing = Unit {0}
NoPiece (owes due e place) = NotPiece e

-- A call from k with chunk c and buffer b, `sent` being what went out before with earlier buffers and bs what was read before. The buffer
-- alters only between the position before and the position after.
pub record Kept (L : Limits) (reserved bs sent : List ℕ) (k : Copy) (c b : List ℕ) (r : Copied) : Type 0 where
  pub few : r.used ≤ length c
  pub size : length r.buf ≡ length b
  pub ahead : k.pos ≤ r.copy.pos
  pub within : r.copy.pos ≤ length b
  pub below : take k.pos r.buf ≡ take k.pos b
  pub beyond : drop r.copy.pos r.buf ≡ drop r.copy.pos b
  pub keeps : Keeps L reserved (bs ++ take r.used c) (sent ++ take r.copy.pos r.buf) r.copy
  pub whole : NoPiece r.copy.owed
  pub final : Final r.answer r.copy r.used c (length b)
