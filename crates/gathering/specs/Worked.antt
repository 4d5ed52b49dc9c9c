-- Worked calls of the gatherer over a buffer of four bytes: one table, and the theorem that each row holds.
use Rattle.std.specs.Prelude.{ℕ, ◌≡◌, refl, true, false, List, [], ◌∷◌}
use Rattle.gathering.specs.Gather.{Gatherer, nothing, in_chunk, in_buffer, number, Gathered, fresh, untouched, copied, accepted, gathered, part_of}

-- a row: the state, the payload's length, the piece's offset and the chunk; what the first call says and leaves, and the second's part
pub record Row : Type 0 where
  pub held : Gatherer
  pub total : ℕ
  pub offset : ℕ
  pub chunk : List ℕ
  pub left : Gathered
  pub part : List ℕ

abbrev buffer : List ℕ
buffer = 10 ∷ 20 ∷ 30 ∷ 40 ∷ []

abbrev said : Row → Row
said r =
    let g = gathered r.held buffer r.total r.offset r.chunk in
    record { held = r.held; total = r.total; offset = r.offset; chunk = r.chunk; left = g; part = part_of g.said g.acc g.buf r.chunk }

abbrev said_all : List Row → List Row
said_all [] = []
said_all (r ∷ rs) = said r ∷ said_all rs

-- two bytes held of a payload; the same once it is whole; and more held than the buffer has
abbrev two : Gatherer
two = record { len = 2; complete = false }

abbrev over : Gatherer
over = record { len = 2; complete = true }

abbrev wild : Gatherer
wild = record { len = 5; complete = true }

abbrev pub table : List Row
table =
    -- the first chunk holds the whole
    record { held = two; total = 2; offset = 0; chunk = 1 ∷ 2 ∷ 3 ∷ []; left = untouched (in_chunk 2) (record { len = 0; complete = true }) buffer; part = 1 ∷ 2 ∷ [] }
    -- the last of two pieces, with bytes behind it; a piece at another offset
    ∷ record {
      held = two;
      total = 3;
      offset = 2;
      chunk = 1 ∷ 2 ∷ 3 ∷ [];
      left = record { said = in_buffer 3; acc = record { len = 3; complete = true }; buf = 10 ∷ 20 ∷ 1 ∷ 40 ∷ [] };
      part = 10 ∷ 20 ∷ 1 ∷ [];
    }
    ∷ record { held = two; total = 3; offset = 1; chunk = 1 ∷ []; left = untouched nothing two buffer; part = [] }
    -- number 4, at offset 0 and later, and not after completion
    ∷ record { held = two; total = 5; offset = 0; chunk = 1 ∷ []; left = untouched (number 4) fresh buffer; part = [] }
    ∷ record { held = two; total = 5; offset = 2; chunk = 1 ∷ []; left = untouched (number 4) two buffer; part = [] }
    ∷ record { held = over; total = 5; offset = 2; chunk = 1 ∷ []; left = untouched nothing over buffer; part = [] }
    -- number 3
    ∷ record { held = wild; total = 1; offset = 0; chunk = 1 ∷ []; left = untouched (number 3) wild buffer; part = [] }
    ∷ []

pub worked : said_all table ≡ table
unfolding gathered accepted copied
worked = refl

-- the second call alone, of a state that is not sound
pub unsound-part : part_of (in_chunk 1) wild buffer (1 ∷ []) ≡ []
unsound-part = refl
