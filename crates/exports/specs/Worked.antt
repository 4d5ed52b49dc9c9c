-- Worked answers of the exports: a table for the first three, one for the drains, and the theorems that each row holds.
use Rattle.std.specs.Prelude.{ℕ, ◌≡◌, refl, List, [], ◌∷◌, ◌++◌, ℤ, pos, negsuc, length}
use Rattle.layout.specs.Message.{Verdict, complete, incomplete, broken_at}
use Rattle.drains.specs.Drains.{rounded_up}
use Rattle.exports.specs.Exports.{number, refused, Copied, result_of, filled, copied, measured, drained}

-- a row: the verdict, the plain copy and the output before; then the verdict's number, what the copy answers and leaves, and the length
pub record Row : Type 0 where
  pub verdict : Verdict
  pub copy : List ℕ
  pub before : List ℕ
  pub number : ℤ
  pub result : Copied
  pub length : ℤ

-- what the exports are held to in a row
unfoldable pub said : Row → Row
said r =
    record {
      verdict = r.verdict;
      copy = r.copy;
      before = r.before;
      number = number r.verdict;
      result = copied r.verdict r.copy r.before;
      length = measured r.verdict (length r.copy);
    }

unfoldable pub said_all : List Row → List Row
unfolding said
said_all [] = []
said_all (r ∷ rs) = said r ∷ said_all rs

-- unsigned, id 1, 300; outputs of 55
abbrev three : List ℕ
three = 0x08 ∷ 0xAC ∷ 0x02 ∷ []

abbrev two : List ℕ
two = 0x55 ∷ 0x55 ∷ []

abbrev pub table : List Row
table =
    -- room for more, for just the copy, for less, for nothing
    record { verdict = complete; copy = three; before = 0x55 ∷ 0x55 ∷ two; number = pos 0; result = result_of (pos 3) (three ++ (0x55 ∷ [])); length = pos 3 }
    ∷ record { verdict = complete; copy = three; before = 0x55 ∷ two; number = pos 0; result = result_of (pos 3) three; length = pos 3 }
    ∷ record { verdict = complete; copy = three; before = two; number = pos 0; result = result_of (negsuc 100) (0x08 ∷ 0xAC ∷ []); length = pos 3 }
    ∷ record { verdict = complete; copy = three; before = []; number = pos 0; result = result_of (negsuc 100) []; length = pos 3 }
    -- the copy of an empty message
    ∷ record { verdict = complete; copy = []; before = []; number = pos 0; result = result_of (pos 0) []; length = pos 0 }
    -- nothing is written of any other message, however long the output is
    ∷ record { verdict = incomplete; copy = three; before = two; number = pos 1; result = result_of (negsuc 99) two; length = negsuc 99 }
    ∷ record { verdict = broken_at 2; copy = three; before = two; number = negsuc 1; result = result_of (negsuc 1) two; length = negsuc 1 }
    ∷ []

pub worked : said_all table ≡ table
unfolding number refused filled copied measured said said_all
worked = refl

-- ---- the drains

-- a row: the buffer's length, the verdict, the plain copy's length; then the answer
pub record Asked : Type 0 where
  pub buffer : ℕ
  pub verdict : Verdict
  pub bytes : ℕ
  pub answer : ℤ

abbrev asked : ℕ → Verdict → ℕ → ℤ → Asked
asked b v n r = record { buffer = b; verdict = v; bytes = n; answer = r }

unfoldable pub answered : List Asked → List Asked
answered [] = []
answered (r ∷ rs) = asked r.buffer r.verdict r.bytes (drained r.buffer r.verdict r.bytes) ∷ answered rs

-- buffers of one byte, of two and of all; no bytes; and 18 first, whatever the message is
abbrev pub buffers : List Asked
buffers =
    asked 1 complete 3 (pos 3)
    ∷ asked 2 complete 3 (pos 2)
    ∷ asked 3 complete 3 (pos 1)
    ∷ asked 2 complete 0 (pos 0)
    ∷ asked 2 incomplete 3 (negsuc 99)
    ∷ asked 2 (broken_at 2) 3 (negsuc 1)
    ∷ asked 0 complete 3 (negsuc 17)
    ∷ asked 0 incomplete 3 (negsuc 17)
    ∷ asked 0 (broken_at 2) 3 (negsuc 17)
    ∷ []

pub worked_drains : answered buffers ≡ buffers
unfolding refused measured drained rounded_up answered
worked_drains = refl
