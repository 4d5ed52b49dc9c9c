-- Worked numbers: bytes, buffer, drains.
use Rattle.std.specs.Prelude.{ℕ, ◌≡◌, refl, List, [], ◌∷◌}
use Rattle.drains.specs.Drains.{rounded_up}

pub record Row : Type 0 where
  pub bytes : ℕ
  pub buffer : ℕ
  pub drains : ℕ

abbrev row : ℕ → ℕ → ℕ → Row
row n b k = record { bytes = n; buffer = b; drains = k }

unfoldable pub said_all : List Row → List Row
said_all [] = []
said_all (r ∷ rs) = row r.bytes r.buffer (rounded_up r.bytes r.buffer) ∷ said_all rs

-- none for no bytes; a byte each; less than the buffer; just the buffer, and one byte more; three times, and one byte less
abbrev pub table : List Row
table = row 0 1 0 ∷ row 0 5 0 ∷ row 3 1 3 ∷ row 4 5 1 ∷ row 5 5 1 ∷ row 6 5 2 ∷ row 15 5 3 ∷ row 14 5 3 ∷ []

pub worked : said_all table ≡ table
unfolding said_all rounded_up
worked = refl
