-- Worked lengths: one table of bytes with the answer on them, and the theorem that each row holds.
use Rattle.std.specs.Prelude.{ℕ, ◌≡◌, Result, Ok, Err, refl, List, [], ◌∷◌, ◌++◌, replicate}
use Rattle.layout.specs.Varint.{push, varint_from, shortest_in, shortest}
use Rattle.layout.specs.Field.{low_bytes, each}
use Rattle.layout.specs.Reading.{given, follow, low_from}
use Rattle.layout.specs.Message.{checked, unzigzagged, elements, payload_from, payload_of, fixlen, float_array_of, body, field, depth_after, fields_from, message}
use Rattle.layout.specs.Message.{whole_of, fields_of, verdict_by, verdict_of}
use Rattle.layout.specs.Copy.{field_bytes, encode, plain_copy}
use Rattle.passing.specs.declared.Stop.{Stop}
use Rattle.passing.specs.declared.Stop.TheVariants.{Short, Broken}
use Rattle.copy_len.specs.CopyLen.{length_of}

pub record Row : Type 0 where
  pub bytes : List ℕ
  pub length : Result ℕ (Stop ℕ)

abbrev row : List ℕ → Result ℕ (Stop ℕ) → Row
row bs l = record { bytes = bs; length = l }

unfoldable pub said_all : List Row → List Row
said_all [] = []
said_all (r ∷ rs) = row r.bytes (length_of r.bytes) ∷ said_all rs

abbrev pub table : List Row
table =
    -- no message; 0, which has one byte, in one and in ten
    row [] (Ok 0)
    ∷ row (0x08 ∷ 0x00 ∷ []) (Ok 2)
    ∷ row (0x08 ∷ (replicate 9 0x80 ++ (0x00 ∷ []))) (Ok 2)
    -- 300 under id 1, header and value in a byte more than they need
    ∷ row (0x88 ∷ 0x00 ∷ 0xAC ∷ 0x82 ∷ 0x00 ∷ []) (Ok 3)
    -- an open and a close with an id of two bytes, which the plain copy's close doesn't have
    ∷ row (0x36 ∷ 0xEF ∷ 0x04 ∷ []) (Ok 2)
    -- elements 1 and 128, the count and the first of them longer than needed; signed elements 0 and -64
    ∷ row (0x4B ∷ 0x82 ∷ 0x00 ∷ 0x81 ∷ 0x00 ∷ 0x80 ∷ 0x01 ∷ []) (Ok 5)
    ∷ row (0x4C ∷ 0x02 ∷ 0x00 ∷ 0x7F ∷ []) (Ok 4)
    -- a word in three bytes, and a float array of none
    ∷ row (0x1A ∷ 0x8A ∷ 0x80 ∷ 0x00 ∷ 0x48 ∷ []) (Ok 3)
    ∷ row (0x2D ∷ 0x00 ∷ 0x20 ∷ []) (Ok 3)
    -- within a varint, within a sequence, and broken at the third byte: a second close
    ∷ row (0x36 ∷ 0x88 ∷ 0x00 ∷ 0xAC ∷ []) (Err Short)
    ∷ row (0x36 ∷ []) (Err Short)
    ∷ row (0x36 ∷ 0x07 ∷ 0x07 ∷ 0xFF ∷ []) (Err (Broken 3))
    ∷ []

pub worked : said_all table ≡ table
unfolding said_all fields_of verdict_of plain_copy message whole_of verdict_by encode each field_bytes shortest shortest_in low_bytes fields_from depth_after field body fixlen float_array_of payload_of payload_from elements unzigzagged checked given follow low_from varint_from push
worked = refl
