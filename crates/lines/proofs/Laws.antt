-- What callers cite: a payload's lines don't depend on where it was cut, and no line is cut off where there is room for the longest.
use mathlib.Core.Path.{◌≡◌, refl, ap, ◌∙◌}
use mathlib.Core.Bool.{Bool, true, false}
use mathlib.Core.List.{List, [], ◌∷◌, ◌++◌}
use Prim.Native.Nat.{ℕ, zero, suc, ◌+◌, ◌-◌, ◌*◌, ◌/◌, ◌^◌, ◌≤◌, ◌<◌, min}
use native.Mathlib.Omega.{arith}
use lib.Dec.{leb, lit≤}
use lib.IntN.{ℤ, pos, negsuc}
use lib.ListN.{length, length-append}
use lib.Seq.{take_all}
use borrow.Author.Tests.{leb-true, leb-false}
use Rattle.io.specs.Digits.{last_digits}
use Rattle.layout.specs.Field.{Raw, fp32, fp64, kind_number, subtype_number, each}
use Rattle.layout.specs.Event.{Event, Unsigned, Signed, Float, Piece, Fixlen, Array, Begin, End}
use Rattle.layout.specs.Message.{All, Bytes}
use Rattle.putting.specs.Put.{over, Puts}
use Rattle.putting.proofs.Writes.{put_is, reached_is}
use Rattle.emit.proofs.Elements.{each_append}
use Rattle.event_list.specs.Lines.{decimal_in, decimal, signed, hexadecimal, parts, byte_line, lines_of}
use Rattle.lines.proofs.Numbers.{one_digit, more_digits}

pub lines_of_cuts : (id : ℕ) (r : Raw) (total o o' : ℕ) (s t : List ℕ) → lines_of (Piece id r total o (s ++ t)) ≡ lines_of (Piece id r total o s) ++ lines_of (Piece id r total o' t)
lines_of_cuts id r total o o' s t = each_append byte_line s t

-- ---- how long a line is

-- a number below 10 to the suc k has at most suc k digits
none_yet : (n : ℕ) → length (decimal_in 0 n) ≡ 0
unfolding decimal_in
none_yet n = refl

few_digits : (k f n : ℕ) → n < 10 ^ suc k → length (decimal_in f n) ≤ suc k
few_digits k zero n h = let e = none_yet n in omega arith
few_digits k (suc f) n h = go (leb 10 n) refl k h (λ (m : ℕ). few_digits m f (n / 10))
  where
    go : (b : Bool) → leb 10 n ≡ b → (k : ℕ) → n < 10 ^ suc k → ((m : ℕ) → n / 10 < 10 ^ suc m → length (decimal_in f (n / 10)) ≤ suc m) → length (decimal_in (suc f) n) ≤ suc k
    go false e k g r = let d : length (decimal_in (suc f) n) ≡ 1 = ap length (one_digit f n (leb-false 10 n e)) in omega arith
    go true e zero g r = let t : 10 ≤ n = leb-true 10 n e in absurd (omega arith)
    go true e (suc k) g r =
        let t : 10 ≤ n = leb-true 10 n e in
        let q : n / 10 < 10 ^ suc k = omega arith in
        let i : length (decimal_in f (n / 10)) ≤ suc k = r k q in
        let d : length (decimal_in (suc f) n) ≡ length (decimal_in f (n / 10)) + 1 = ap length (more_digits f n t) ∙ length-append (decimal_in f (n / 10)) _ in
        omega arith

-- a number has at most twenty, as the definition has it
most_digits : (f n : ℕ) → length (decimal_in f n) ≤ f
most_digits zero n = let e = none_yet n in omega arith
most_digits (suc f) n = go (leb 10 n) refl (most_digits f (n / 10))
  where
    go : (b : Bool) → leb 10 n ≡ b → length (decimal_in f (n / 10)) ≤ f → length (decimal_in (suc f) n) ≤ suc f
    go false e i = let d : length (decimal_in (suc f) n) ≡ 1 = ap length (one_digit f n (leb-false 10 n e)) in omega arith
    go true e i =
        let t : 10 ≤ n = leb-true 10 n e in
        let d : length (decimal_in (suc f) n) ≡ length (decimal_in f (n / 10)) + 1 = ap length (more_digits f n t) ∙ length-append (decimal_in f (n / 10)) _ in
        omega arith

decimal_short : (n : ℕ) → length (decimal n) ≤ 20
unfolding decimal
decimal_short n = most_digits 20 n

byte_short : (b : ℕ) → b < 256 → length (decimal b) ≤ 3
unfolding decimal
byte_short b h = few_digits 2 20 b (omega arith)

signed_short : (z : ℤ) → length (signed z) ≤ 21
signed_short (pos n) = let d = decimal_short n in omega arith
signed_short (negsuc n) = let d = decimal_short (suc n) in omega arith

digits_length : (k n : ℕ) → length (last_digits 16 k n) ≡ k
digits_length zero n = refl
digits_length (suc k) n = let i = digits_length k (n / 16) in length-append (last_digits 16 k (n / 16)) _ ∙ omega arith

hexadecimal-length : (k n : ℕ) → length (hexadecimal k n) ≡ k
unfolding hexadecimal
hexadecimal-length k n = digits_length k n

-- a line's parts, none longer than a number with its sign
parts_short : (ps : List (List ℕ)) → All (λ p. length p ≤ 21) ps → length (parts ps) ≤ 22 * length ps + 1
parts_short [] h = lit≤ tt
parts_short (p ∷ ps) (h, g) =
    let i = parts_short ps g in
    let e : length (p ++ parts ps) ≡ length p + length (parts ps) = length-append p (parts ps) in
    omega arith

up : (n : ℕ) → length (decimal n) ≤ 21
up n = let d = decimal_short n in omega arith

hex8 : (n : ℕ) → length (hexadecimal 8 n) ≤ 21
hex8 n = let d = hexadecimal-length 8 n in omega arith

hex16 : (n : ℕ) → length (hexadecimal 16 n) ≤ 21
hex16 n = let d = hexadecimal-length 16 n in omega arith

-- the payload bytes that an event brings
abbrev pub bytes_in : Event → List ℕ
bytes_in (Unsigned id n) = []
bytes_in (Signed id z) = []
bytes_in (Float id w n) = []
bytes_in (Piece id r total o bs) = bs
bytes_in (Fixlen id s n) = []
bytes_in (Array id k n) = []
bytes_in (Begin id) = []
bytes_in End = []

byte_lines_short : (bs : List ℕ) → Bytes bs → length (each byte_line bs) ≤ 6 * length bs
unfolding each byte_line
byte_lines_short [] h = lit≤ tt
byte_lines_short (b ∷ bs) (h, g) =
    let i = byte_lines_short bs g in
    let d = byte_short b h in
    let e : length (decimal b ++ (10 ∷ [])) ≡ length (decimal b) + 1 = length-append (decimal b) (10 ∷ []) in
    let a : length (byte_line b ++ each byte_line bs) ≡ length (byte_line b) + length (each byte_line bs) = length-append (byte_line b) (each byte_line bs) in
    omega arith

pub lines_short : (e : Event) → Bytes (bytes_in e) → length (lines_of e) ≤ 80 + 6 * length (bytes_in e)
lines_short (Unsigned id n) h = let l = parts_short (decimal id ∷ decimal n ∷ []) (up id, (up n, tt)) in omega arith
lines_short (Signed id z) h = let l = parts_short (decimal id ∷ signed z ∷ []) (up id, (signed_short z, tt)) in omega arith
lines_short (Float id fp32 n) h = let l = parts_short (decimal id ∷ hexadecimal 8 n ∷ []) (up id, (hex8 n, tt)) in omega arith
lines_short (Float id fp64 n) h = let l = parts_short (decimal id ∷ hexadecimal 16 n ∷ []) (up id, (hex16 n, tt)) in omega arith
lines_short (Piece id r total o bs) h = let l = byte_lines_short bs h in omega arith
lines_short (Fixlen id s n) h = let l = parts_short (decimal id ∷ decimal (subtype_number s) ∷ decimal n ∷ []) (up id, (up (subtype_number s), (up n, tt))) in omega arith
lines_short (Array id k n) h = let l = parts_short (decimal id ∷ decimal (kind_number k) ∷ decimal n ∷ []) (up id, (up (kind_number k), (up n, tt))) in omega arith
lines_short (Begin id) h = let l = parts_short (decimal id ∷ []) (up id, tt) in omega arith
lines_short End h = lit≤ tt

-- where there is room for the longest line and those of the bytes, the event's lines stand there whole
pub whole_lines : (b : List ℕ) (at : ℕ) (e : Event) (b' : List ℕ) (r : ℕ) → Bytes (bytes_in e) → at + (80 + 6 * length (bytes_in e)) ≤ length b → Puts b at (lines_of e) b' r
    → (r ≡ at + length (lines_of e)) × (b' ≡ over b at (lines_of e))
whole_lines b at e b' r h g p =
    let l = lines_short e h in
    let m : min (length (lines_of e)) (length b - at) ≡ length (lines_of e) = omega arith in
    let f : length (lines_of e) ≤ length b - at = omega arith in
    (p.0 ∙ reached_is b at (lines_of e) ∙ ap (λ (k : ℕ). at + k) m, p.1 ∙ put_is b at (lines_of e) ∙ ap (over b at) (take_all (length b - at) (lines_of e) f))
