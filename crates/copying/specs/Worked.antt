-- Worked calls: tickets copied through buffers of one to three bytes, and the theorem that each row holds.
use Rattle.std.specs.Prelude.{ℕ, zero, suc, ◌≡◌, refl, List, [], ◌∷◌, take, drop, replicate}
use Rattle.layout.specs.Limits.{base}
use Rattle.layout.specs.Varint.{push, shortest_in, shortest}
use Rattle.layout.specs.Field.{low_bytes}
use Rattle.layout.specs.Message.{complete, incomplete}
use Rattle.laws.specs.Events.{event_bytes}
use Rattle.machine.specs.Machine.{at_header, at_word, at_unsigned_count, at_signed_count, at_float_count, at_array_word, at_unsigned, at_signed, within, at_float, at_byte, step, ending, verdict_after}
use Rattle.machine.specs.Calls.{fresh, scanned, scan, call}
use Rattle.putting.specs.Put.{over, put, reached}
use Rattle.copying.specs.Owed.{Owed, nothing, owes, rest, further, depth_by, depth_once, due_in}
use Rattle.copying.specs.Copy.{Copy, Said, full, verdict, invalid, unfinished, Copied, handed, stuck, heard, copies, copy}

-- what a call says: the bytes used, the answer, the bytes that then stand below the position, the place reached in the event still owed
-- (0 where nothing is owed)
pub record Told : Type 0 where
  pub used : ℕ
  pub answer : Said
  pub out : List ℕ
  pub place : ℕ

-- a row: the buffer's length, the chunks, and what each call says; at "full" comes a drain and the chunk's rest
pub record Row : Type 0 where
  pub size : ℕ
  pub chunks : List (List ℕ)
  pub calls : List Told

abbrev place_in : Owed → ℕ
place_in nothing = 0
place_in (owes due e place) = place

abbrev told : Copied → Told
told r = record { used = r.used; answer = r.answer; out = take r.copy.pos r.buf; place = place_in r.copy.owed }

-- "lends the buffer anew at offset 0"
abbrev drained : Copy → Copy
drained k = record { reader = k.reader; depth = k.depth; pos = 0; owed = k.owed }

-- at most n calls, the first with chunk c
unfoldable pub tells : ℕ → Copy → List ℕ → List (List ℕ) → List ℕ → List Told
tells zero k c cs b = []
tells (suc n) k c [] b =
    let r = copy base k c b in
    told r ∷ elim r.answer [ full ↦ tells n (drained r.copy) (drop r.used c) [] r.buf | verdict v ↦ [] | invalid ↦ [] | unfinished ↦ [] ]
tells (suc n) k c (d ∷ ds) b =
    let r = copy base k c b in
    told r
    ∷ elim r.answer [
      | full ↦ tells n (drained r.copy) (drop r.used c) (d ∷ ds) r.buf
      | verdict v ↦ tells n r.copy d ds r.buf
      | invalid ↦ tells n r.copy d ds r.buf
      | unfinished ↦ []
    ]

-- a fresh copier over a buffer of EE
abbrev opened : Copy
opened = record { reader = fresh; depth = 0; pos = 0; owed = nothing }

abbrev run : ℕ → List (List ℕ) → List Told
run size [] = []
run size (c ∷ cs) = tells 20 opened c cs (replicate size 0xEE)

unfoldable pub said_all : List Row → List Row
said_all [] = []
said_all (r ∷ rs) = record { size = r.size; chunks = r.chunks; calls = run r.size r.chunks } ∷ said_all rs

abbrev said : ℕ → Said → List ℕ → ℕ → Told
said used a out place = record { used = used; answer = a; out = out; place = place }

abbrev pub table : List Row
table =
    -- "88 00 AC 82 00 copies to 08 AC 02": all is read at once, and goes out byte by byte
    record {
      size = 1;
      chunks = (0x88 ∷ 0x00 ∷ 0xAC ∷ 0x82 ∷ 0x00 ∷ []) ∷ [];
      calls = said 5 full (0x08 ∷ []) 1 ∷ said 0 full (0xAC ∷ []) 2 ∷ said 0 (verdict complete) (0x02 ∷ []) 0 ∷ [];
    }
    -- "36 0F to 36 07", with room for it and byte by byte: a full buffer is no reason to stop before a byte is owed
    ∷ record { size = 2; chunks = (0x36 ∷ 0x0F ∷ []) ∷ []; calls = said 2 (verdict complete) (0x36 ∷ 0x07 ∷ []) 0 ∷ [] }
    ∷ record { size = 1; chunks = (0x36 ∷ 0x0F ∷ []) ∷ []; calls = said 2 full (0x36 ∷ []) 0 ∷ said 0 (verdict complete) (0x07 ∷ []) 0 ∷ [] }
    -- a spent chunk with a full buffer gives its verdict, an empty one too; a broken byte with a full buffer is number 2
    ∷ record {
      size = 1;
      chunks = (0x36 ∷ []) ∷ [] ∷ (0x1A ∷ 0x04 ∷ 0x00 ∷ []) ∷ (0x07 ∷ []) ∷ [];
      calls = said 1 (verdict incomplete) (0x36 ∷ []) 0 ∷ said 0 (verdict incomplete) (0x36 ∷ []) 0 ∷ said 2 invalid (0x36 ∷ []) 0 ∷ said 0 invalid (0x36 ∷ []) 0 ∷ [];
    }
    -- an empty blob's announcement is owed while its piece is due: the empty rest brings both
    ∷ record { size = 1; chunks = (0x1A ∷ 0x03 ∷ []) ∷ []; calls = said 2 full (0x1A ∷ []) 1 ∷ said 0 (verdict complete) (0x03 ∷ []) 0 ∷ [] }
    -- "a payload piece counts as read only as far as it is out"
    ∷ record {
      size = 3;
      chunks = (0x1A ∷ 0x12 ∷ 0x48 ∷ 0x69 ∷ []) ∷ [];
      calls = said 3 full (0x1A ∷ 0x12 ∷ 0x48 ∷ []) 0 ∷ said 1 (verdict complete) (0x69 ∷ []) 0 ∷ [];
    }
    ∷ record {
      size = 1;
      chunks = (0x1A ∷ 0x12 ∷ 0x48 ∷ []) ∷ (0x69 ∷ []) ∷ [];
      calls =
          said 2 full (0x1A ∷ []) 1 ∷ said 0 full (0x12 ∷ []) 0 ∷ said 1 (verdict incomplete) (0x48 ∷ []) 0
          ∷ said 0 full (0x48 ∷ []) 0 ∷ said 1 (verdict complete) (0x69 ∷ []) 0 ∷ [];
    }
    -- elements go out bare; a float goes out bare, its header with its announcement
    ∷ record {
      size = 2;
      chunks = (0x2B ∷ 0x02 ∷ 0x01 ∷ 0x82 ∷ 0x00 ∷ []) ∷ [];
      calls = said 3 full (0x2B ∷ 0x02 ∷ []) 0 ∷ said 2 (verdict complete) (0x01 ∷ 0x02 ∷ []) 0 ∷ [];
    }
    ∷ record {
      size = 3;
      chunks = (0x22 ∷ 0x20 ∷ 0x00 ∷ []) ∷ (0x00 ∷ 0x80 ∷ 0x3F ∷ []) ∷ [];
      calls = said 3 (verdict incomplete) (0x22 ∷ 0x20 ∷ []) 0 ∷ said 3 full (0x22 ∷ 0x20 ∷ 0x00 ∷ []) 1 ∷ said 0 (verdict complete) (0x00 ∷ 0x80 ∷ 0x3F ∷ []) 0 ∷ [];
    }
    -- a float array is announced at its word
    ∷ record { size = 2; chunks = (0x2D ∷ 0x00 ∷ 0x41 ∷ []) ∷ []; calls = said 3 full (0x2D ∷ 0x00 ∷ []) 2 ∷ said 0 (verdict complete) (0x41 ∷ []) 0 ∷ [] }
    -- empty input
    ∷ record { size = 1; chunks = [] ∷ []; calls = said 0 (verdict complete) [] 0 ∷ [] }
    ∷ []

pub worked : said_all table ≡ table
unfolding said_all tells copy copies heard handed stuck rest further depth_by depth_once due_in event_bytes over put reached call scan scanned step within at_header at_word at_unsigned_count at_signed_count at_float_count at_array_word at_unsigned at_signed at_float at_byte ending verdict_after push shortest shortest_in low_bytes
worked = refl
