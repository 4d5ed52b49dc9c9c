-- What stands after any acts whatever, of a message of any bytes: no byte is lost or made up, and each chunk ended as the layout says.
use Rattle.std.specs.Prelude.{ℕ, zero, suc, ◌+◌, ◌*◌, ◌≡◌, true, List, [], ◌∷◌, ◌++◌, length, take}
use Rattle.layout.specs.Limits.{base, pick}
use Rattle.layout.specs.Message.{events_of}
use Rattle.laws.specs.Events.{encode_events}
use Rattle.machine.specs.Calls.{broke}
use Rattle.machine.specs.Run.{join, verdicts_of, heard_all}
use Rattle.istream.specs.Stream.{state_of}
use Rattle.copying.specs.Owed.{rest}
use Rattle.copying.specs.Run.{Keeps}
use Rattle.copier.specs.Copier.{copy_of, sound_copier}
use Rattle.copies.specs.Desk.{Desk, Act, feed, drain, change, stray, act}

-- what is sent, and what stands in the buffer below the position
abbrev pub out : Desk → List ℕ
out d = d.sent ++ take d.copier.writer.offset d.buf

-- the chunks that have no verdict yet, the first as it was before some of it was read
abbrev pub whole : List ℕ → List (List ℕ) → List (List ℕ)
whole begun [] = []
whole begun (c ∷ cs) = (begun ++ c) ∷ cs

-- The chunks cs were to be handed on, behind reserved bytes.
pub record Stands (reserved : List ℕ) (cs : List (List ℕ)) (d : Desk) : Type 0 where
  -- the chunks that ended; what was read of the next one
  pub done : List (List ℕ)
  pub begun : List ℕ
  pub chunks : cs ≡ done ++ whole begun d.chunks
  -- the bytes that were read, and those behind an offending byte, which never are
  pub read : List ℕ
  pub unread : List ℕ
  pub handed : join done ++ begun ≡ read ++ unread
  pub live : (state_of d.copier.reader ≡ broke → ⊥) → unread ≡ []
  pub count : d.read ≡ length read
  -- what is out, with what is owed, is the bytes of the events so far
  pub keeps : Keeps base reserved read (out d) (copy_of d.copier)
  pub settled : d.chunks ≡ [] → (begun ≡ []) × (rest (copy_of d.copier).owed ≡ [])
  -- each chunk's verdict is the layout's for the bytes so far; 2 at the layout's byte, and ever after
  pub heard : d.heard ≡ heard_all (verdicts_of base [] done)
  pub sound : sound_copier d.copier (length d.buf) ≡ true

-- ---- calling on

-- How many feeds of a schedule go on: not those after "full" with no drain between, which find the buffer as full as it was.
abbrev pub goes_on : Act → Desk → ℕ
goes_on feed d = pick d.full 0 1
goes_on drain d = 0
goes_on (change b) d = 0
goes_on (stray x) d = 0

unfoldable pub goings : List Act → Desk → ℕ
goings [] d = 0
goings (a ∷ as') d = goes_on a d + goings as' (act a d)

-- so many are enough: two for each chunk, and two for each byte of the copy
abbrev pub enough : List (List ℕ) → ℕ
enough cs = 2 * (length cs + length (encode_events 0 (events_of base (join cs))))

-- feed and drain in turn
unfoldable pub turns : ℕ → List Act
turns zero = []
turns (suc n) = feed ∷ drain ∷ turns n
