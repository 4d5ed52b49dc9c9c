-- Calls one after another: a chunk is handed on, its rest again after each event, until the verdict; and a list of chunks in order.
-- "Reading runs likewise, with an event where "full" stands and no drains."
use Rattle.std.specs.Prelude.{ℕ, zero, suc, ◌+◌, ◌*◌, ◌≡◌, List, [], ◌∷◌, ◌++◌, map, length, drop}
use Rattle.layout.specs.Limits.{Limits}
use Rattle.layout.specs.Event.{Event, Piece, bytewise}
use Rattle.layout.specs.Message.{Verdict, complete, incomplete, broken_at, verdict_of}
use Rattle.machine.specs.Machine.{idle, Spot, at, broken_before, walk}
use Rattle.machine.specs.Calls.{State, reading, owing, broke, Said, event, verdict, invalid, call}

-- ---- one call

-- the event that an answer gives
abbrev pub given : Said → List Event
given (event e) = e ∷ []
given (verdict v) = []
given invalid = []

-- the event that a state still owes
abbrev pub due : State → List Event
due (reading d p) = []
due (owing d id r) = Piece id r 0 0 [] ∷ []
due broke = []

-- where a state stands
abbrev pub spot_of : State → Spot
spot_of (reading d p) = at d p
spot_of (owing d id r) = at d idle
spot_of broke = broken_before []

-- The state s stands where the bytes bs lead, and the events es that were given, with the one due, are those of bs.
pub record Follows (L : Limits) (bs : List ℕ) (es : List Event) (s : State) : Type 0 where
  pub spot : (walk L 0 idle bs).spot ≡ spot_of s
  pub events : (walk L 0 idle bs).events ≡ bytewise es ++ due s

-- ---- a chunk

-- How the calls on a chunk end: with an answer that is no event, or not within the calls that were allowed. No call gives the second.
pub data Ending (A : Type 0) : Type 0 where
  ended : A → Ending A
  unfinished : Ending A

-- the events given, the bytes read in all, how the calls end, and the state after them
pub record Chunk : Type 0 where
  pub events : List Event
  pub read : ℕ
  pub answer : Ending Said
  pub state : State

abbrev pub more : Event → ℕ → Chunk → Chunk
more e n r = record { events = e ∷ r.events; read = n + r.read; answer = r.answer; state = r.state }

-- at most n calls
unfoldable pub calls : Limits → ℕ → State → List ℕ → Chunk
calls L zero s bs = record { events = []; read = 0; answer = unfinished; state = s }
calls L (suc n) s bs =
    let r = call L s bs in
    elim r.answer [
      | event e ↦ more e r.read (calls L n r.state (drop r.read bs))
      | verdict v ↦ record { events = []; read = r.read; answer = ended (verdict v); state = r.state }
      | invalid ↦ record { events = []; read = r.read; answer = ended invalid; state = r.state }
    ]

-- two calls a byte, and two more, are enough (proofs/Ends)
abbrev pub chunk : Limits → State → List ℕ → Chunk
chunk L s bs = calls L (2 * length bs + 2) s bs

-- ---- a list of chunks

-- What a caller hears of a chunk: the verdict; a refusal by 01's number, so many bytes being read in all; or nothing, where the calls
-- did not end.
pub data Heard : Type 0 where
  status : Verdict → Heard
  refused : (number read : ℕ) → Heard
  nothing : Heard

-- how the layout's verdict is heard. "Number 2: the message is broken; the count read includes the offending byte".
abbrev pub heard_of : Verdict → Heard
heard_of complete = status complete
heard_of incomplete = status incomplete
heard_of (broken_at n) = refused 2 n

-- what is heard of an ending, n bytes being read in all
abbrev pub seen : ℕ → Ending Said → Heard
seen n (ended (event e)) = nothing
seen n (ended (verdict v)) = status v
seen n (ended invalid) = refused 2 n
seen n unfinished = nothing

-- the events given, what was heard after each chunk, the bytes read in all, and the state after the last
pub record Read : Type 0 where
  pub events : List Event
  pub verdicts : List Heard
  pub read : ℕ
  pub state : State

unfoldable pub chunks : Limits → State → ℕ → List (List ℕ) → Read
chunks L s n [] = record { events = []; verdicts = []; read = n; state = s }
chunks L s n (c ∷ cs) =
    let r = chunk L s c in
    let q = chunks L r.state (n + r.read) cs in
    record { events = r.events ++ q.events; verdicts = seen (n + r.read) r.answer ∷ q.verdicts; read = q.read; state = q.state }

-- the layout's verdict after each chunk, on the bytes so far
unfoldable pub verdicts_of : Limits → List ℕ → List (List ℕ) → List Verdict
verdicts_of L bs [] = []
verdicts_of L bs (c ∷ cs) = verdict_of L (bs ++ c) ∷ verdicts_of L (bs ++ c) cs

-- as they are heard
abbrev pub heard_all : List Verdict → List Heard
heard_all vs = map heard_of vs

-- of n bytes handed, those that are read: all, or no more than the offending one
abbrev pub read_of : ℕ → Verdict → ℕ
read_of n complete = n
read_of n incomplete = n
read_of n (broken_at k) = k

-- the last that was heard, after what was heard before
unfoldable pub last_heard : Heard → List Heard → Heard
last_heard h [] = h
last_heard h (x ∷ xs) = last_heard x xs

-- chunks joined
unfoldable pub join : List (List ℕ) → List ℕ
join [] = []
join (c ∷ cs) = c ++ join cs
