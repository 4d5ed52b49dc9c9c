-- A number's low bytes, low byte first, the first of them, and those from a place on.
use mathlib.Core.Path.{◌≡◌, refl, sym, ap, ◌∙◌}
use mathlib.Core.List.{List, ◌∷◌, ◌++◌}
use Prim.Native.Nat.{ℕ, zero, suc, ◌-◌, ◌*◌, ◌/◌, ◌%◌, ◌^◌, ◌≤◌}
use native.Mathlib.Nat.{suc-mul, div-one, div-div-eq-div-mul, not-suc-le-zero, add_comm}
use native.Mathlib.Omega.{arith}
use lib.ListN.{length, take, drop}
use lib.Pow.{pow-add}
use mir.Syntax.{w32, w64}
use Rattle.std.specs.Int.{to_le_bytes}
use Rattle.layout.specs.Field.{low_bytes}

pub length_low : (n x : ℕ) → length (low_bytes n x) ≡ n
unfolding low_bytes
length_low zero x = refl
length_low (suc n) x = ap suc (length_low n (x / 256))

pub low_fits : (n x : ℕ) → length (low_bytes n x) ≤ n
low_fits n x = omega (arith, length_low n x)

-- the library's bytes of a number
pub le_four : (x : ℕ) → to_le_bytes w32 x ≡ low_bytes 4 x
unfolding low_bytes
le_four x =
    let c : x / 65536 ≡ x / 256 / 256 = omega arith in
    let d : x / 16777216 ≡ x / 256 / 256 / 256 = omega arith in
    cc

pub le_eight : (x : ℕ) → to_le_bytes w64 x ≡ low_bytes 8 x
unfolding low_bytes
le_eight x =
    let c : x / 65536 ≡ x / 256 / 256 = omega arith in
    let d : x / 16777216 ≡ x / 256 / 256 / 256 = omega arith in
    let e : x / 4294967296 ≡ x / 256 / 256 / 256 / 256 = omega arith in
    let f : x / 1099511627776 ≡ x / 256 / 256 / 256 / 256 / 256 = omega arith in
    let g : x / 281474976710656 ≡ x / 256 / 256 / 256 / 256 / 256 / 256 = omega arith in
    let h : x / 72057594037927936 ≡ x / 256 / 256 / 256 / 256 / 256 / 256 / 256 = omega arith in
    cc

pub take_low : (n m x : ℕ) → n ≤ m → take n (low_bytes m x) ≡ low_bytes n x
unfolding low_bytes
take_low zero m x h = refl
take_low (suc n) zero x h = absurd (omega arith)
take_low (suc n) (suc m) x h = ap (λ (l : List ℕ). (x % 256) ∷ l) (take_low n m (x / 256) (omega arith))

-- those of a number of eight bytes at most, as the library has them
pub first_low : (n x : ℕ) (l : List ℕ) → n ≤ 8 → l ≡ to_le_bytes w64 x → take n l ≡ low_bytes n x
first_low n x l h e = ap (take n) (e ∙ le_eight x) ∙ take_low n 8 x h

-- the bytes from place k on are those of the number shifted down by k of them
shifted : (x k : ℕ) → x / 256 / 2 ^ (k * 8) ≡ x / 2 ^ (suc k * 8)
shifted x k =
    div-div-eq-div-mul x (2 ^ 8) (2 ^ (k * 8))
    ∙ ap (λ (d : ℕ). x / d) (sym (pow-add 2 8 (k * 8)) ∙ ap (λ (e : ℕ). 2 ^ e) (add_comm 8 (k * 8) ∙ sym (suc-mul k 8)))

pub drop_low : (k n x : ℕ) → k ≤ n → drop k (low_bytes n x) ≡ low_bytes (n - k) (x / 2 ^ (k * 8))
unfolding low_bytes
drop_low zero n x h = let e : n ≡ n - 0 = omega arith in ap (λ (m : ℕ). low_bytes m x) e ∙ ap (low_bytes (n - 0)) (sym (div-one x))
drop_low (suc k) zero x h = absurd (not-suc-le-zero h)
drop_low (suc k) (suc n) x h =
    let e : n - k ≡ suc n - suc k = omega arith in
    drop_low k n (x / 256) (omega arith) ∙ ap (λ (m : ℕ). low_bytes m (x / 256 / 2 ^ (k * 8))) e ∙ ap (low_bytes (suc n - suc k)) (shifted x k)

-- eight are four and four
pub eight_low : (x : ℕ) → low_bytes 4 x ++ low_bytes 4 (x / 4294967296) ≡ low_bytes 8 x
unfolding low_bytes
eight_low x = let e : x / 4294967296 ≡ x / 256 / 256 / 256 / 256 = omega arith in ap (λ (y : ℕ). low_bytes 4 x ++ low_bytes 4 y) e
