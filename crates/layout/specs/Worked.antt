-- "Bytes worked out": one table of the worked bytes that these definitions can decide, and the theorem that each row holds.
use Rattle.std.specs.Prelude.{ℕ, ◌≡◌, refl, List, [], ◌∷◌, ◌++◌, replicate, pos, negsuc}
use Rattle.layout.specs.Limits.{base}
use Rattle.layout.specs.Varint.{push, varint_from, shortest_in, shortest}
use Rattle.layout.specs.Field.{Field, fp32, fp64, string, blob, float, raw, unsigneds, signeds, floats, low_bytes, each}
use Rattle.layout.specs.Field.{unsigned, signed, payload, unsigned_array, signed_array, float_array, begin, end}
use Rattle.layout.specs.Event.{Event, Unsigned, Signed, Float, Piece, Fixlen, Array, Begin, End, part_of, goes_on, join_two, join_to, joined}
use Rattle.layout.specs.Reading.{given, follow, low_from}
use Rattle.layout.specs.Message.{Verdict, complete, incomplete, broken_at}
use Rattle.layout.specs.Message.{checked, unzigzagged, elements, payload_from, payload_of, fixlen, float_array_of, body, field, depth_after, fields_from, message}
use Rattle.layout.specs.Message.{events_of, whole_of, fields_of, verdict_by, verdict_of}
use Rattle.layout.specs.Copy.{field_bytes, encode, plain_copy}

-- a row: the bytes; the fields that they are, where they are whole fields; their events, verdict and plain copy
pub record Row : Type 0 where
  pub bytes : List ℕ
  pub fields : List Field
  pub events : List Event
  pub verdict : Verdict
  pub copy : List ℕ

-- what the layout says of a row's bytes
unfoldable pub said : Row → Row
said r =
    record {
      bytes = r.bytes;
      fields = fields_of base r.bytes;
      events = events_of base r.bytes;
      verdict = verdict_of base r.bytes;
      copy = plain_copy base r.bytes;
    }

unfoldable pub said_all : List Row → List Row
unfolding said
said_all [] = []
said_all (r ∷ rs) = said r ∷ said_all rs

-- a row whose bytes are their own plain copy
abbrev good : List ℕ → List Field → List Event → Row
good bs fs es = record { bytes = bs; fields = fs; events = es; verdict = complete; copy = bs }

-- a complete row with another plain copy
abbrev longer : List ℕ → List Field → List Event → List ℕ → Row
longer bs fs es cs = record { bytes = bs; fields = fs; events = es; verdict = complete; copy = cs }

-- a row that is broken at its nth byte
abbrev bad : List ℕ → List Event → ℕ → Row
bad bs es n = record { bytes = bs; fields = []; events = es; verdict = broken_at n; copy = [] }

-- a row that ends within a field
abbrev part : List ℕ → List Event → Row
part bs es = record { bytes = bs; fields = []; events = es; verdict = incomplete; copy = [] }

-- signed, id 2: the lowest signed value but for its varint's tenth byte
abbrev nine : ℕ → List ℕ
nine b = 0x11 ∷ (replicate 9 0xFF ++ (b ∷ []))

abbrev pub table : List Row
table =
    -- "unsigned, id 1, 300: 08 AC 02"; "signed, id 2, -1: 11 01"
    good (0x08 ∷ 0xAC ∷ 0x02 ∷ []) (unsigned 1 300 ∷ []) (Unsigned 1 300 ∷ [])
    ∷ good (0x11 ∷ 0x01 ∷ []) (signed 2 (negsuc 0) ∷ []) (Signed 2 (negsuc 0) ∷ [])
    -- "lowest signed value: nine FF, then 01 after its header. With 02 or 81 as tenth byte: broken."
    ∷ good (nine 0x01) (signed 2 (negsuc 0x7FFFFFFFFFFFFFFF) ∷ []) (Signed 2 (negsuc 0x7FFFFFFFFFFFFFFF) ∷ [])
    ∷ bad (nine 0x02) [] 11
    ∷ bad (nine 0x81) [] 11
    -- "string "Hi", id 3: 1A 12 48 69"; "empty blob: 1A 03"; "1A 04: broken"
    ∷ good (0x1A ∷ 0x12 ∷ 0x48 ∷ 0x69 ∷ []) (payload 3 string (0x48 ∷ 0x69 ∷ []) ∷ [])
    (Fixlen 3 (raw string) 2 ∷ Piece 3 string 2 0 (0x48 ∷ []) ∷ Piece 3 string 2 1 (0x69 ∷ []) ∷ [])
    ∷ good (0x1A ∷ 0x03 ∷ []) (payload 3 blob [] ∷ []) (Fixlen 3 (raw blob) 0 ∷ Piece 3 blob 0 0 [] ∷ [])
    ∷ bad (0x1A ∷ 0x04 ∷ []) [] 2
    -- "fp32 1.0, id 4: 22 20 00 00 80 3F"; "22 18: broken at its second byte"
    ∷ good (0x22 ∷ 0x20 ∷ 0x00 ∷ 0x00 ∷ 0x80 ∷ 0x3F ∷ []) (float 4 fp32 0x3F800000 ∷ []) (Fixlen 4 (float fp32) 4 ∷ Float 4 fp32 0x3F800000 ∷ [])
    ∷ bad (0x22 ∷ 0x18 ∷ []) [] 2
    -- "unsigned array 1, 2, id 5: 2B 02 01 02"; "empty fp64 array: 2D 00 41; empty fp32: 2D 00 20"
    ∷ good (0x2B ∷ 0x02 ∷ 0x01 ∷ 0x02 ∷ []) (unsigned_array 5 (1 ∷ 2 ∷ []) ∷ []) (Array 5 unsigneds 2 ∷ Unsigned 5 1 ∷ Unsigned 5 2 ∷ [])
    ∷ good (0x2D ∷ 0x00 ∷ 0x41 ∷ []) (float_array 5 fp64 [] ∷ []) (Array 5 (floats fp64) 0 ∷ [])
    ∷ good (0x2D ∷ 0x00 ∷ 0x20 ∷ []) (float_array 5 fp32 [] ∷ []) (Array 5 (floats fp32) 0 ∷ [])
    -- "header F8 FF FF FF 3F has the highest id" (here with the value 0); "80 80 80 80 40 is broken"
    ∷ good (0xF8 ∷ 0xFF ∷ 0xFF ∷ 0xFF ∷ 0x3F ∷ 0x00 ∷ []) (unsigned 2147483647 0 ∷ []) (Unsigned 2147483647 0 ∷ [])
    ∷ bad (0x80 ∷ 0x80 ∷ 0x80 ∷ 0x80 ∷ 0x40 ∷ []) [] 5
    -- "Count FF FF FF FF 07 is announced; 80 80 80 80 08 is broken."
    ∷ record {
      bytes = 0x2B ∷ 0xFF ∷ 0xFF ∷ 0xFF ∷ 0xFF ∷ 0x07 ∷ [];
      fields = [];
      events = Array 5 unsigneds 2147483647 ∷ [];
      verdict = incomplete;
      copy = [];
    }
    ∷ bad (0x2B ∷ 0x80 ∷ 0x80 ∷ 0x80 ∷ 0x80 ∷ 0x08 ∷ []) [] 6
    -- "88 00 AC 82 00 copies to 08 AC 02; 36 0F to 36 07"; "07 alone: broken"
    ∷ longer (0x88 ∷ 0x00 ∷ 0xAC ∷ 0x82 ∷ 0x00 ∷ []) (unsigned 1 300 ∷ []) (Unsigned 1 300 ∷ []) (0x08 ∷ 0xAC ∷ 0x02 ∷ [])
    ∷ longer (0x36 ∷ 0x0F ∷ []) (begin 6 ∷ end 1 ∷ []) (Begin 6 ∷ End ∷ []) (0x36 ∷ 0x07 ∷ [])
    ∷ bad (0x07 ∷ []) [] 1
    -- the bytes of "nine plain opens, ids 1 to 9, then nine plain closes"; and empty input
    ∷ good (0x0E ∷ 0x16 ∷ 0x1E ∷ 0x26 ∷ 0x2E ∷ 0x36 ∷ 0x3E ∷ 0x46 ∷ 0x4E ∷ replicate 9 0x07)
    (begin 1 ∷ begin 2 ∷ begin 3 ∷ begin 4 ∷ begin 5 ∷ begin 6 ∷ begin 7 ∷ begin 8 ∷ begin 9 ∷ replicate 9 (end 0))
    (Begin 1 ∷ Begin 2 ∷ Begin 3 ∷ Begin 4 ∷ Begin 5 ∷ Begin 6 ∷ Begin 7 ∷ Begin 8 ∷ Begin 9 ∷ replicate 9 End)
    ∷ good [] [] []
    -- the example of "the program that lists events": 36 08 AC 02 07
    ∷ good (0x36 ∷ 0x08 ∷ 0xAC ∷ 0x02 ∷ 0x07 ∷ []) (begin 6 ∷ unsigned 1 300 ∷ end 0 ∷ []) (Begin 6 ∷ Unsigned 1 300 ∷ End ∷ [])
    -- broken: "length or count above 2,147,483,647"; "a string or blob word in an array", with count 0 and length 4 too; subtype 4 there; "an open at depth 255"
    ∷ part (0x1A ∷ 0xFA ∷ 0xFF ∷ 0xFF ∷ 0xFF ∷ 0x3F ∷ []) (Fixlen 3 (raw string) 2147483647 ∷ [])
    ∷ bad (0x1A ∷ 0x82 ∷ 0x80 ∷ 0x80 ∷ 0x80 ∷ 0x40 ∷ []) [] 6
    ∷ bad (0x2D ∷ 0x00 ∷ 0x22 ∷ []) [] 3
    ∷ bad (0x2D ∷ 0x00 ∷ 0x24 ∷ []) [] 3
    ∷ good (replicate 255 0x06 ++ replicate 255 0x07) (replicate 255 (begin 0) ++ replicate 255 (end 0)) (replicate 255 (Begin 0) ++ replicate 255 End)
    ∷ bad (replicate 256 0x06) (replicate 255 (Begin 0)) 256
    -- ended within a field: what was raised before; after the count of a float array nothing; an element and a broken one
    ∷ part (0x1A ∷ 0x12 ∷ 0x48 ∷ []) (Fixlen 3 (raw string) 2 ∷ Piece 3 string 2 0 (0x48 ∷ []) ∷ [])
    ∷ part (0x2D ∷ 0x00 ∷ []) []
    ∷ part (0x2D ∷ 0x02 ∷ 0x20 ∷ 0x00 ∷ 0x00 ∷ 0x80 ∷ 0x3F ∷ 0x00 ∷ []) (Array 5 (floats fp32) 2 ∷ Float 5 fp32 0x3F800000 ∷ [])
    ∷ bad (0x2B ∷ 0x02 ∷ 0x01 ∷ replicate 9 0xFF ++ (0x02 ∷ [])) (Array 5 unsigneds 2 ∷ Unsigned 5 1 ∷ []) 13
    -- an open alone: whole fields, and incomplete
    ∷ record { bytes = 0x36 ∷ []; fields = begin 6 ∷ []; events = Begin 6 ∷ []; verdict = incomplete; copy = 0x36 ∷ [] }
    -- signed array -1, 1; fp64 array of a NaN with a payload; fp32 -0
    ∷ good (0x2C ∷ 0x02 ∷ 0x01 ∷ 0x02 ∷ []) (signed_array 5 (negsuc 0 ∷ pos 1 ∷ []) ∷ []) (Array 5 signeds 2 ∷ Signed 5 (negsuc 0) ∷ Signed 5 (pos 1) ∷ [])
    ∷ good (0x2D ∷ 0x01 ∷ 0x41 ∷ 0x01 ∷ 0x00 ∷ 0x00 ∷ 0x00 ∷ 0x00 ∷ 0x00 ∷ 0xF0 ∷ 0x7F ∷ []) (float_array 5 fp64 (0x7FF0000000000001 ∷ []) ∷ []) (Array 5 (floats fp64) 1 ∷ Float 5 fp64 0x7FF0000000000001 ∷ [])
    ∷ good (0x22 ∷ 0x20 ∷ 0x00 ∷ 0x00 ∷ 0x00 ∷ 0x80 ∷ []) (float 4 fp32 0x80000000 ∷ []) (Fixlen 4 (float fp32) 4 ∷ Float 4 fp32 0x80000000 ∷ [])
    -- "Longer varints than needed are accepted within 64 bits": nine 80 and then 00, as header and as value; a tenth byte 00, and 80
    ∷ longer (replicate 9 0x80 ++ (0x00 ∷ 0x05 ∷ [])) (unsigned 0 5 ∷ []) (Unsigned 0 5 ∷ []) (0x00 ∷ 0x05 ∷ [])
    ∷ longer (0x08 ∷ replicate 9 0x80 ++ (0x00 ∷ [])) (unsigned 1 0 ∷ []) (Unsigned 1 0 ∷ []) (0x08 ∷ 0x00 ∷ [])
    ∷ longer (0x08 ∷ replicate 9 0xFF ++ (0x00 ∷ [])) (unsigned 1 9223372036854775807 ∷ []) (Unsigned 1 9223372036854775807 ∷ []) (0x08 ∷ replicate 8 0xFF ++ (0x7F ∷ []))
    ∷ bad (0x08 ∷ replicate 10 0x80) [] 11
    -- fp64 1.0, id 4; subtypes 5 to 7
    ∷ good (0x22 ∷ 0x41 ∷ 0x00 ∷ 0x00 ∷ 0x00 ∷ 0x00 ∷ 0x00 ∷ 0x00 ∷ 0xF0 ∷ 0x3F ∷ []) (float 4 fp64 0x3FF0000000000000 ∷ []) (Fixlen 4 (float fp64) 8 ∷ Float 4 fp64 0x3FF0000000000000 ∷ [])
    ∷ bad (0x1A ∷ 0x05 ∷ []) [] 2
    ∷ bad (0x1A ∷ 0x06 ∷ []) [] 2
    ∷ bad (0x1A ∷ 0x07 ∷ []) [] 2
    -- "A close may carry any legal id, which is ignored": the highest, and one above it; an open at depth 255 is broken at its header's last byte
    ∷ longer (0x36 ∷ 0xFF ∷ 0xFF ∷ 0xFF ∷ 0xFF ∷ 0x3F ∷ []) (begin 6 ∷ end 2147483647 ∷ []) (Begin 6 ∷ End ∷ []) (0x36 ∷ 0x07 ∷ [])
    ∷ bad (0x36 ∷ 0x87 ∷ 0x80 ∷ 0x80 ∷ 0x80 ∷ 0x40 ∷ []) (Begin 6 ∷ []) 6
    ∷ bad (replicate 255 0x06 ++ (0xFE ∷ 0xFF ∷ 0xFF ∷ 0xFF ∷ 0x3F ∷ [])) (replicate 255 (Begin 0)) 260
    ∷ []

pub worked : said_all table ≡ table
unfolding said_all fields_of events_of verdict_of plain_copy message whole_of verdict_by encode each field_bytes shortest shortest_in low_bytes fields_from depth_after field body fixlen float_array_of payload_of payload_from elements unzigzagged checked given follow low_from varint_from push
worked = refl

-- "Each payload's pieces joined": the string "Hi", two empty blobs, and a string of one byte after the same one, all with id 3
pub worked-joined : joined
    (events_of base (0x1A ∷ 0x12 ∷ 0x48 ∷ 0x69 ∷ 0x1A ∷ 0x03 ∷ 0x1A ∷ 0x03 ∷ 0x1A ∷ 0x0A ∷ 0x48 ∷ 0x1A ∷ 0x0A ∷ 0x48 ∷ []))
    ≡ Fixlen 3 (raw string) 2 ∷ Piece 3 string 2 0 (0x48 ∷ 0x69 ∷ [])
    ∷ Fixlen 3 (raw blob) 0 ∷ Piece 3 blob 0 0 []
    ∷ Fixlen 3 (raw blob) 0 ∷ Piece 3 blob 0 0 []
    ∷ Fixlen 3 (raw string) 1 ∷ Piece 3 string 1 0 (0x48 ∷ [])
    ∷ Fixlen 3 (raw string) 1 ∷ Piece 3 string 1 0 (0x48 ∷ []) ∷ []
unfolding joined join_to join_two goes_on part_of events_of message fields_from depth_after field body fixlen payload_of payload_from checked given follow varint_from push
worked-joined = refl
