-- Calls of the reader one after another, as its caller makes them: a chunk, its rest handed in again after each event until the answer is
-- none; and a list of chunks in order. Events are the layout's, taken from the chunk that the call was lent.
use Rattle.std.specs.Prelude.{ℕ, zero, suc, ◌+◌, ◌*◌, List, [], ◌∷◌, ◌++◌, length, take, drop, Result, Ok, Err}
use Rattle.layout.specs.Limits.{Limits}
use Rattle.layout.specs.Event as layout
use Rattle.layout.specs.Message.{complete, incomplete, Bytes}
use Rattle.machine.specs.Calls.{fresh}
use Rattle.machine.specs.Run.{Ending, ended, unfinished, Heard, status, refused, nothing}
use Rattle.types.specs.declared.Error.{Error}
use Rattle.types.specs.Types.{number_of}
use Rattle.event.specs.Event.{event_of}
use Rattle.istream.specs.declared.IStream.{IStream}
use Rattle.call_end.specs.declared.Answer.{Answer}
use Rattle.call_end.specs.declared.Answer.TheVariants.{Event, Status}
use Rattle.call_end.specs.declared.Status.TheVariants.{Complete, Incomplete}
use Rattle.istream.specs.Stream.{stream_in, fed_of}

-- ---- a chunk

-- the events given, the bytes read in all, how the calls end, and the reader after them
pub record Fed : Type 0 where
  pub events : List layout.Event
  pub read : ℕ
  pub answer : Ending (Result Answer Error)
  pub stream : IStream

-- at most n calls
unfoldable pub feeds : Limits → ℕ → IStream → List ℕ → Fed
feeds L zero s c = record { events = []; read = 0; answer = unfinished; stream = s }
feeds L (suc n) s c =
    let r = fed_of L s c in
    elim r.answer [
      | Ok (Event e) ↦ (let q = feeds L n r.stream (drop r.read c) in record { events = event_of c e ∷ q.events; read = r.read + q.read; answer = q.answer; stream = q.stream })
      | Ok (Status v) ↦ record { events = []; read = r.read; answer = ended (Ok (Status v)); stream = r.stream }
      | Err e ↦ record { events = []; read = r.read; answer = ended (Err e); stream = r.stream }
    ]

-- two calls a byte, and two more, are enough (proofs/Ends)
abbrev pub feed : Limits → IStream → List ℕ → Fed
feed L s c = feeds L (2 * length c + 2) s c

-- ---- a list of chunks

-- what is heard of an ending, n bytes being read in all: a refusal by its number
abbrev pub told : ℕ → Ending (Result Answer Error) → Heard
told n (ended (Ok (Event e))) = nothing
told n (ended (Ok (Status Complete))) = status complete
told n (ended (Ok (Status Incomplete))) = status incomplete
told n (ended (Err e)) = refused (number_of e) n
told n unfinished = nothing

-- the events given, what was heard after each chunk, the bytes read in all, and the reader after the last
pub record Run : Type 0 where
  pub events : List layout.Event
  pub verdicts : List Heard
  pub read : ℕ
  pub stream : IStream

unfoldable pub feed_all : Limits → IStream → ℕ → List (List ℕ) → Run
feed_all L s n [] = record { events = []; verdicts = []; read = n; stream = s }
feed_all L s n (c ∷ cs) =
    let r = feed L s c in
    let q = feed_all L r.stream (n + r.read) cs in
    record { events = r.events ++ q.events; verdicts = told (n + r.read) r.answer ∷ q.verdicts; read = q.read; stream = q.stream }

-- ---- any calls

-- the event that an answer gives, the call being lent this chunk
abbrev pub given_by : List ℕ → Result Answer Error → List layout.Event
given_by c (Ok (Event e)) = event_of c e ∷ []
given_by c (Ok (Status v)) = []
given_by c (Err e) = []

-- The reader after calls on any chunks whatever, a chunk's rest handed in or not: the bytes that were read, and the events given.
pub data Reached (L : Limits) : List ℕ → List layout.Event → IStream → Type 0 where
  start : Reached L [] [] (stream_in fresh)
  called : {bs : List ℕ} {es : List layout.Event} {s : IStream} → Reached L bs es s → (c : List ℕ) → Bytes c
      → Reached L (bs ++ take (fed_of L s c).read c) (es ++ given_by c (fed_of L s c).answer) (fed_of L s c).stream
