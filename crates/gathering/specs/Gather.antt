-- What the gatherer's calls answer, and the state and the buffer that they leave, sentence by sentence of 01.
-- a is the state, b the lent buffer; a piece is handed as the payload's length `total`, its own `offset` in it, and the chunk that holds it.
use Rattle.std.specs.Prelude.{ℕ, ◌+◌, ◌-◌, min, Bool, true, false, cond, ◌&&◌, List, [], length, take, eqb, leb, ltb}
use Rattle.std.proofs.Math.Seq.{paste}

-- The gatherer's state: how much of the current payload the lent buffer holds, and whether that payload was already whole.
pub record Gatherer : Type 0 where
  pub len : ℕ
  pub complete : Bool

-- What `feed` says, in 01's words: "nothing yet"; whole, as the first so many bytes of the chunk or of the buffer; or a refusal's number.
pub data Said : Type 0 where
  nothing : Said
  in_chunk : ℕ → Said
  in_buffer : ℕ → Said
  number : ℕ → Said

-- What a call of `feed` says and leaves: the state, and the lent buffer.
pub record Gathered : Type 0 where
  pub said : Said
  pub acc : Gatherer
  pub buf : List ℕ

-- "Gatherer: length held at most the lent buffer's."
abbrev pub sound : Gatherer → List ℕ → Bool
sound a b = leb a.len (length b)

abbrev pub fresh : Gatherer
fresh = record { len = 0; complete = false }

-- "Offset 0 forgets the last payload."
abbrev pub begun : Gatherer → ℕ → Gatherer
begun a offset = cond (eqb offset 0) fresh a

-- The answer of a call that leaves the buffer as it is.
abbrev pub untouched : Said → Gatherer → List ℕ → Gathered
untouched w a b = record { said = w; acc = a; buf = b }

-- "The bytes still owed", of so many given: none where "`total` shrinks below the length held".
abbrev pub owed : ℕ → ℕ → ℕ → ℕ
owed held total given = min (total - held) given

-- "The bytes still owed are copied, none beyond them, and, once all are there, the answer is that part of the buffer."
unfoldable pub copied : Gatherer → List ℕ → ℕ → List ℕ → Gathered
copied a b total chunk =
    let n = owed a.len total (length chunk) in
    let whole = leb total (a.len + n) in
    record {
      said = cond whole (in_buffer total) nothing;
      acc = record { len = a.len + n; complete = whole };
      buf = paste b a.len chunk n;
    }

-- "If the first chunk holds the whole"
abbrev pub holds_whole : ℕ → ℕ → ℕ → Bool
holds_whole total offset given = eqb offset 0 && leb total given

-- A state that is sound and has forgotten what it had to: one after completion says "nothing yet"; then comes number 4; then "the answer is that
-- part of the chunk and the buffer is untouched"; "a chunk at any other offset than the length held" has "nothing yet".
unfoldable pub accepted : Gatherer → List ℕ → ℕ → ℕ → List ℕ → Gathered
unfolding copied
accepted a b total offset chunk =
    cond a.complete (untouched nothing a b)
    (cond (ltb (length b) total) (untouched (number 4) a b)
    (cond (holds_whole total offset (length chunk)) (untouched (in_chunk total) (record { len = 0; complete = true }) b)
    (cond (eqb offset a.len) (copied a b total chunk)
    (untouched nothing a b))))

-- A call of `feed`. "Number 3: the gatherer state isn't sound; state and buffer return unaltered."
unfoldable pub gathered : Gatherer → List ℕ → ℕ → ℕ → List ℕ → Gathered
unfolding accepted
gathered a b total offset chunk =
    cond (sound a b) (accepted (begun a offset) b total offset chunk) (untouched (number 3) a b)

-- The first n bytes, or none where there are fewer.
abbrev pub first_of : List ℕ → ℕ → List ℕ
first_of l n = cond (leb n (length l)) (take n l) []

-- The part that an answer names, of the buffer or of the chunk.
abbrev pub named : Said → List ℕ → List ℕ → List ℕ
named nothing b chunk = []
named (in_chunk n) b chunk = first_of chunk n
named (in_buffer n) b chunk = first_of b n
named (number k) b chunk = []

-- A call of `payload`. "It returns an empty part where that answer isn't whole, the state isn't sound or the slice lent is too short."
abbrev pub part_of : Said → Gatherer → List ℕ → List ℕ → List ℕ
part_of w a b chunk = cond (sound a b) (named w b chunk) []
