-- The copier's calls: what each says, in 01's words and numbers, and the state and the buffer that it leaves.
use Rattle.std.specs.Prelude.{ℕ, true, List, length, Result, Ok, Err, ⊤}
use Rattle.layout.specs.Limits.{base}
use Rattle.types.specs.declared.Error.{Error}
use Rattle.types.specs.Types.{number_of}
use Rattle.machine.specs.Calls.{fresh}
use Rattle.istream.specs.Stream.{state_of, stream_in}
use Rattle.ostream.specs.declared.OStream.{OStream}
use Rattle.ostream.specs.declared.Answer as written
use Rattle.ostream.specs.Buffer.{opening, draining, changing}
use Rattle.copying.specs.Copy as copying
use Rattle.copying.specs.Copy.{copy}
use Rattle.copying.specs.Refusals.{is_broke, refusing}
pub use Rattle.turns.specs.Said.{Said, full, verdict, said_of, said_in}
use Rattle.copier.specs.declared.Copier.{Copier}
use Rattle.copier.specs.declared.Copied.{Copied}
use Rattle.owed.specs.declared.Owed.TheVariants.{Nothing}
use Rattle.copier.specs.declared.Answered.{Answered}
use Rattle.copier.specs.Copier.{copy_of, copier_in, sound_reader, sound_writer}

-- ---- feeding

-- What a call uses of the chunk, says and leaves.
pub record Outcome : Type 0 where
  pub used : ℕ
  pub said : Said
  pub copier : Copier
  pub buf : List ℕ

-- the code's result and the buffer as the call leaves it, as such a record
abbrev pub result_of : Copied → List ℕ → Outcome
result_of r b = record { used = r.used; said = said_of r.answer; copier = r.copier; buf = b }

-- "on 1 and 6 nothing is read", and nothing alters
abbrev pub untouched : ℕ → Copier → List ℕ → Outcome
untouched n k b = record { used = 0; said = Said.number n; copier = k; buf = b }

abbrev pub result_in : Copier → copying.Copied → Outcome
result_in k r = record { used = r.used; said = said_in r.answer; copier = copier_in k.writer r.copy; buf = r.buf }

-- The refusals in their order, and else the call. "Each later call, an empty chunk too, gives 2 with nothing read."
unfoldable pub copied : Copier → List ℕ → List ℕ → Outcome
copied k c b = refusing (sound_reader k.reader) (sound_writer k (length b)) (is_broke (state_of k.reader)) (λ n. untouched n k b) (result_in k (copy base (copy_of k) c b))

-- ---- opening, draining, changing the buffer: a drained writer's, and its refusals alone

-- whether the buffer is taken, or a refusal's number; and the state then
pub data Opens : Type 0 where
  taken : Opens
  number : ℕ → Opens

abbrev pub opens_of : Result ⊤ Error → Opens
opens_of (Ok x) = taken
opens_of (Err e) = number (number_of e)

abbrev pub opens_in : Result written.Answer Error → Opens
opens_in (Ok a) = taken
opens_in (Err e) = number (number_of e)

pub record Started : Type 0 where
  pub opens : Opens
  pub copier : Copier

abbrev pub started_by : Answered ⊤ → Started
started_by r = record { opens = opens_of r.answer; copier = r.copier }

-- a fresh reader over a writer, and nothing owed
abbrev pub fresh_over : OStream → Copier
fresh_over w = record { reader = stream_in fresh; writer = w; owed = Nothing; place = 0 }

-- over a buffer of this length, at an offset
unfoldable pub started : ℕ → ℕ → Started
started size offset = let r = opening size offset true in record { opens = opens_in r.answer; copier = fresh_over r.stream }

-- the bytes to be sent, or a refusal's number; and the state then
pub data Sends : Type 0 where
  bytes : ℕ → Sends
  number : ℕ → Sends

abbrev pub sends_of : Result ℕ Error → Sends
sends_of (Ok n) = bytes n
sends_of (Err e) = number (number_of e)

pub record Sent : Type 0 where
  pub sends : Sends
  pub copier : Copier

abbrev pub sent_by : Answered ℕ → Sent
sent_by r = record { sends = sends_of r.answer; copier = r.copier }

abbrev pub over : Copier → OStream → Copier
over k w = record { reader = k.reader; writer = w; owed = k.owed; place = k.place }

-- "A drain sends the bytes below the position and lends the buffer anew at offset 0".
unfoldable pub drained : Copier → ℕ → Sent
drained k size = let r = draining k.writer size in record { sends = sends_of r.answer; copier = over k r.stream }

-- "Number 5 judges the new buffer there, then number 6 the state by the old one."
unfoldable pub changed : Copier → ℕ → ℕ → ℕ → Sent
changed k old new offset = let r = changing k.writer old new offset true in record { sends = sends_of r.answer; copier = over k r.stream }
