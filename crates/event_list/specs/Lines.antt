-- The event list, 01's lines as bytes: what the program that lists events prints.
use Rattle.std.specs.Prelude.{ℕ, zero, suc, ◌/◌, ◌%◌, List, [], ◌∷◌, ◌++◌, ltb, ℤ, pos, negsuc}
use Rattle.io.specs.Digits.{hex_digit_ascii, last_digits}
use Rattle.layout.specs.Limits.{Limits, pick}
use Rattle.layout.specs.Field.{fp32, fp64, subtype_number, kind_number, each}
use Rattle.layout.specs.Event.{Event, Unsigned, Signed, Float, Piece, Fixlen, Array, Begin, End}
use Rattle.layout.specs.Message.{Verdict, complete, incomplete, broken_at, events_of, verdict_of}

-- A number in decimal digits, the first not 0 unless the number is; at most k of them. Twenty hold every number of 64 bits. (`hex_digit_ascii`
-- of the kit is a digit in ASCII, `last_digits b k n` the last k digits of n in base b, the most significant first.)
unfoldable pub decimal_in : ℕ → ℕ → List ℕ
decimal_in zero n = []
decimal_in (suc k) n = pick (ltb n 10) (hex_digit_ascii n ∷ []) (decimal_in k (n / 10) ++ (hex_digit_ascii (n % 10) ∷ []))

unfoldable pub decimal : ℕ → List ℕ
decimal n = decimal_in 20 n

-- a minus sign stands before a number below 0
abbrev pub signed : ℤ → List ℕ
signed (pos n) = decimal n
signed (negsuc n) = 45 ∷ decimal (suc n)

-- "bits in 8 or 16 lower-case hexadecimal digits"
unfoldable pub hexadecimal : ℕ → ℕ → List ℕ
hexadecimal k n = last_digits 16 k n

-- "Parts stand one space apart, and each line ends with 0A."
abbrev pub parts : List (List ℕ) → List ℕ
parts [] = 10 ∷ []
parts (p ∷ ps) = 32 ∷ (p ++ parts ps)

abbrev pub line : ℕ → List (List ℕ) → List ℕ
line letter ps = letter ∷ parts ps

-- the letters in ASCII
abbrev pub U : ℕ
U = 85

abbrev pub S : ℕ
S = 83

abbrev pub F : ℕ
F = 70

abbrev pub D : ℕ
D = 68

abbrev pub A : ℕ
A = 65

abbrev pub P : ℕ
P = 80

abbrev pub Y : ℕ
Y = 89

abbrev pub B : ℕ
B = 66

abbrev pub E : ℕ
E = 69

-- "Y and a payload byte's value"
unfoldable pub byte_line : ℕ → List ℕ
byte_line b = line Y (decimal b ∷ [])

-- "U or S, id, value; F or D (fp32, fp64), id, bits in 8 or 16 lower-case hexadecimal digits; A, id, array kind 0 to 3, count; P, id,
-- subtype, total; Y and a payload byte's value; B and id; E"
abbrev pub lines_of : Event → List ℕ
lines_of (Unsigned id n) = line U (decimal id ∷ decimal n ∷ [])
lines_of (Signed id z) = line S (decimal id ∷ signed z ∷ [])
lines_of (Float id fp32 n) = line F (decimal id ∷ hexadecimal 8 n ∷ [])
lines_of (Float id fp64 n) = line D (decimal id ∷ hexadecimal 16 n ∷ [])
lines_of (Array id k n) = line A (decimal id ∷ decimal (kind_number k) ∷ decimal n ∷ [])
lines_of (Fixlen id s n) = line P (decimal id ∷ decimal (subtype_number s) ∷ decimal n ∷ [])
lines_of (Piece id r total o bs) = each byte_line bs
lines_of (Begin id) = line B (decimal id ∷ [])
lines_of End = line E []

-- "last `complete`, `incomplete` or `invalid`"
abbrev pub last_line : Verdict → List ℕ
last_line complete = 99 ∷ 111 ∷ 109 ∷ 112 ∷ 108 ∷ 101 ∷ 116 ∷ 101 ∷ 10 ∷ []
last_line incomplete = 105 ∷ 110 ∷ 99 ∷ 111 ∷ 109 ∷ 112 ∷ 108 ∷ 101 ∷ 116 ∷ 101 ∷ 10 ∷ []
last_line (broken_at n) = 105 ∷ 110 ∷ 118 ∷ 97 ∷ 108 ∷ 105 ∷ 100 ∷ 10 ∷ []

-- the event list of a message
unfoldable pub listing : Limits → List ℕ → List ℕ
listing L bs = each lines_of (events_of L bs) ++ last_line (verdict_of L bs)
