-- A worked run: 88 00 AC 82 00 in four chunks, one of them empty, through a buffer of one byte, with a feed too many, a drain too many and
-- calls for other buffers between. And worked refusals, where two tests or three fail.
use Prim.Native.Nat.{ℕ}
use mathlib.Core.Path.{◌≡◌, refl}
use mathlib.Core.Bool.{true}
use mathlib.Core.List.{List, [], ◌∷◌, ◌++◌}
use lib.ListN.{replicate}
use Rattle.layout.specs.Varint.{push, shortest_in, shortest}
use Rattle.layout.specs.Field.{low_bytes}
use Rattle.layout.specs.Message.{complete, incomplete}
use Rattle.laws.specs.Events.{event_bytes}
use Rattle.machine.specs.Machine.{at_header, at_word, at_unsigned_count, at_signed_count, at_float_count, at_array_word, at_unsigned, at_signed, within, at_float, at_byte, step, ending, verdict_after}
use Rattle.machine.specs.Calls.{broke, scanned, scan, call}
use Rattle.machine.specs.Run.{Heard, status}
use Rattle.putting.specs.Put.{over, put, reached}
use Rattle.varint.specs.Varint.{sound_acc}
use Rattle.phase.specs.declared.Phase.TheVariants.{Header}
use Rattle.phase.specs.Phases.{carried_at}
use Rattle.istream.specs.declared.IStream.{IStream}
use Rattle.istream.specs.Stream as reader
use Rattle.istream.specs.Stream.{stream_in}
use Rattle.ostream.specs.Stream as writer
use Rattle.ostream.specs.Buffer.{opening, draining, changing}
use Rattle.copying.specs.Owed.{rest, further, depth_by, depth_once, due_in, legal, level, agrees, sound_owed}
use Rattle.copying.specs.Copy.{handed, stuck, heard, copies, copy}
use Rattle.copying.specs.Refusals.{sound_with, refusing}
use Rattle.owed.specs.declared.Owed.TheVariants.{Nothing}
use Rattle.copier.specs.declared.Copier.{Copier}
use Rattle.copier.specs.Copier.{sound_writer}
use Rattle.copier.specs.Calls.{copied, started, drained, changed}
use Rattle.copies.specs.Desk.{Desk, start, said_number, feeds, drains, changes, opens, Act, feed, drain, change, stray, feeding, act, acts, refused_with}

-- what was sent, how each chunk ended, the drains counted, and the numbers that stray calls were refused with
pub record Row : Type 0 where
  pub sent : List ℕ
  pub heard : List Heard
  pub drains : ℕ
  pub numbers : List ℕ

abbrev pub number : Act → Desk → List ℕ
number feed d = []
number drain d = []
number (change b) d = []
number (stray x) d = refused_with x d.copier ∷ []

unfoldable pub numbers : List Act → Desk → List ℕ
numbers [] d = []
numbers (a ∷ as') d = number a d ++ numbers as' (act a d)

abbrev row : List Act → Desk → Row
row as' d = record { sent = (acts as' d).sent; heard = (acts as' d).heard; drains = (acts as' d).drains; numbers = numbers as' d }

abbrev chunks : List (List ℕ)
chunks = (0x88 ∷ []) ∷ [] ∷ (0x00 ∷ 0xAC ∷ 0x82 ∷ []) ∷ (0x00 ∷ []) ∷ []

-- After the fourth feed the buffer is full: a feed without a drain changes nothing, and no call for a buffer of no bytes is taken.
abbrev schedule : List Act
schedule =
    feed ∷ drain ∷ feed ∷ feed ∷ feed ∷ feed
    ∷ stray (feeds (0x07 ∷ []) []) ∷ stray (drains 0) ∷ stray (changes 0 3 0) ∷ stray (changes 1 3 3) ∷ stray (opens 0 0) ∷ stray (opens 2 3)
    ∷ drain ∷ feed ∷ drain ∷ feed ∷ drain ∷ drain ∷ []

pub worked : row schedule (start (0xEE ∷ []) chunks)
    ≡ record {
      sent = 0x08 ∷ 0xAC ∷ 0x02 ∷ [];
      heard = status incomplete ∷ status incomplete ∷ status incomplete ∷ status complete ∷ [];
      drains = 3;
      numbers = 6 ∷ 6 ∷ 6 ∷ 5 ∷ 5 ∷ 5 ∷ [];
    }
unfolding acts act numbers feeding copied refusing sound_writer sound_with started drained changed opening draining changing writer.opened writer.sound_stream writer.every reader.sound_stream sound_acc sound_owed agrees level legal copy copies heard handed stuck rest further depth_by depth_once due_in event_bytes over put reached call scan scanned step within at_header at_word at_unsigned_count at_signed_count at_float_count at_array_word at_unsigned at_signed at_float at_byte ending verdict_after push shortest shortest_in low_bytes
worked = refl

-- a copier with nothing owed, its writer at this position
abbrev at : IStream → ℕ → Copier
at s n = record { reader = s; writer = writer.opened n; owed = Nothing; place = 0 }

-- a reader with a header of ten bytes taken
abbrev wild : IStream
wild = record { phase = Header (record { value = 0; taken = 10 }); carried = carried_at 0 }

abbrev refused : Copier → ℕ
refused k = said_number (copied k (0x08 ∷ []) (0xEE ∷ [])).said

-- a sound reader at depth 1, and a writer that is sound but holds the id of its open sequence
abbrev holding : Copier
holding =
    record {
      reader = record { phase = Header (record { value = 0; taken = 0 }); carried = carried_at 1 };
      writer = record { offset = 0; depth = 1; pending = 5 ∷ replicate 7 0; npending = 1 };
      owed = Nothing;
      place = 0;
    }

-- The copier gives 1, then 6, then 2, over a buffer of one byte: an unsound reader and a broken one, with the writer beyond the buffer and
-- within it; and 6 for an id held
pub worked-refusals : refused (at wild 2) ∷ refused (at wild 0) ∷ refused (at (stream_in broke) 2) ∷ refused (at (stream_in broke) 0) ∷ refused holding ∷ []
    ≡ 1 ∷ 1 ∷ 6 ∷ 2 ∷ 6 ∷ []
unfolding copied refusing sound_writer sound_with writer.opened writer.sound_stream writer.every reader.sound_stream sound_acc sound_owed
worked-refusals = refl

-- it is the id alone: the writer by itself is sound
pub held_sound : writer.sound_stream holding.writer 1 ≡ true
unfolding writer.sound_stream writer.every
held_sound = refl
