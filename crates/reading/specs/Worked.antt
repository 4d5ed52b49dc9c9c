-- Worked calls of the reader, one table with one theorem: readers that no call can leave, a broken one, and bytes that raise an event, end
-- within a field or break the message.
use Rattle.std.specs.Prelude.{ℕ, ◌≡◌, refl, List, [], ◌∷◌, Result, Ok, Err}
use Rattle.layout.specs.Limits.{base}
use Rattle.layout.specs.Varint.{push}
use Rattle.machine.specs.Machine.{at_header, at_word, at_unsigned_count, at_signed_count, at_float_count, at_array_word, at_unsigned, at_signed, within, at_float, at_byte, step, ending, verdict_after}
use Rattle.machine.specs.Calls.{fresh, broke, standing, scanned, scan, call}
use Rattle.types.specs.declared.Error.{Error}
use Rattle.types.specs.Types.{refusal}
use Rattle.varint.specs.Varint.{sound_acc}
use Rattle.event.specs.declared.Event.TheVariants.{Unsigned}
use Rattle.phase.specs.declared.Phase.TheVariants.{Header}
use Rattle.phase.specs.Phases.{carried_at}
use Rattle.istream.specs.declared.IStream.{IStream}
use Rattle.istream.specs.declared.Standing.{Standing}
use Rattle.istream.specs.declared.Standing.TheVariants as Standings
use Rattle.call_end.specs.declared.Answer.{Answer}
use Rattle.call_end.specs.declared.Answer.TheVariants.{Event, Status}
use Rattle.call_end.specs.declared.Status.TheVariants.{Complete}
use Rattle.istream.specs.Stream.{stream_in, sound_stream, status_of, fed_in, fed_of}

-- a row: a reader and a chunk; the bytes read, the answer, the reader after the call, and where it then stands
pub record Row : Type 0 where
  pub before : IStream
  pub chunk : List ℕ
  pub read : ℕ
  pub answer : Result Answer Error
  pub after : IStream
  pub stands : Standing

abbrev said : Row → Row
said r =
    let f = fed_of base r.before r.chunk in
    record { before = r.before; chunk = r.chunk; read = f.read; answer = f.answer; after = f.stream; stands = status_of f.stream }

abbrev said_all : List Row → List Row
said_all [] = []
said_all (r ∷ rs) = said r ∷ said_all rs

-- a header of ten bytes taken
abbrev wild : IStream
wild = record { phase = Header (record { value = 0; taken = 10 }); carried = carried_at 0 }

-- unsigned, id 1, 5
abbrev five : List ℕ
five = 0x08 ∷ 0x05 ∷ []

abbrev pub table : List Row
table =
    -- number 1: nothing is read, and the reader comes back as it was
    record { before = wild; chunk = five; read = 0; answer = Err (refusal 1); after = wild; stands = Standings.Incomplete }
    -- an event, and then the verdict
    ∷ record { before = stream_in fresh; chunk = five; read = 2; answer = Ok (Event (Unsigned 1 5)); after = stream_in fresh; stands = Standings.Complete }
    ∷ record { before = stream_in fresh; chunk = []; read = 0; answer = Ok (Status Complete); after = stream_in fresh; stands = Standings.Complete }
    -- number 2 at the offending byte, which is counted; then with nothing read
    ∷ record { before = stream_in fresh; chunk = 0x07 ∷ 0x08 ∷ []; read = 1; answer = Err (refusal 2); after = stream_in broke; stands = Standings.Invalid }
    ∷ record { before = stream_in broke; chunk = five; read = 0; answer = Err (refusal 2); after = stream_in broke; stands = Standings.Invalid }
    ∷ []

pub worked : said_all table ≡ table
unfolding fed_of fed_in status_of standing sound_stream sound_acc call scan scanned step within at_header at_word at_unsigned_count at_signed_count at_float_count at_array_word at_unsigned at_signed at_float at_byte ending verdict_after push
worked = refl
