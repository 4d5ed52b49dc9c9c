-- How many bytes the shortest varint of a number has, by the leading zeros of the number with its lowest bit set.
use Rattle.std.proofs.Common.{◌≡◌, ℕ, zero, suc, ◌+◌, ◌-◌, ◌*◌, ◌/◌, ◌%◌, ◌^◌, ◌<◌, ◌≤◌, max, length, sym, ap, ◌∙◌, subst, le_trans, lt_of_lt_of_le, pow-suc, arith, lit<, pow_mono}
use lib.Bits.{bit_or, or_step, or_zero_r, or_lt}
use lib.Count.{count_leading_zeros, leading_top}
use Rattle.layout.specs.Varint.{shortest}
use Rattle.varint.proofs.Digits.{pow128}
use Rattle.varint.proofs.Shortest.{length_some, length-at_most, length_above}

or_one : (v : ℕ) → bit_or v 1 ≡ v / 2 * 2 + 1
or_one v =
    let m : max (v % 2) 1 ≡ 1 = omega arith in
    or_step v 1 ∙ ap (λ (x : ℕ). x * 2 + max (v % 2) 1) (or_zero_r (v / 2)) ∙ ap (λ (x : ℕ). v / 2 * 2 + x) m

-- more than g bytes: a power of 128 that is at most v | 1 is at most v, being even, but for 1
longer : (v g : ℕ) → 128 ^ g ≤ bit_or v 1 → g < length (shortest v)
longer v zero h = length_some v
longer v (suc g) h =
    let e : 128 ^ suc g ≡ 128 ^ g * 128 = pow-suc 128 g in
    let o : bit_or v 1 ≡ v / 2 * 2 + 1 = or_one v in
    length_above (suc g) v (omega arith)

-- of every value of a width of n bits
pub width_is : (n v : ℕ) → 1 ≤ n → v < 2 ^ n → (n + 6 - count_leading_zeros n (bit_or v 1)) / 7 ≡ length (shortest v)
width_is n v k h =
    let o : bit_or v 1 ≡ v / 2 * 2 + 1 = or_one v in
    let one : 1 < 2 ^ n = lt_of_lt_of_le {m = 2 ^ 1} (lit< tt) (pow_mono k) in
    let t = leading_top n (bit_or v 1) (omega arith) (or_lt n v 1 h one) in
    let j : ℕ = t.0 in
    let z : count_leading_zeros n (bit_or v 1) + suc j ≡ n = t.1 in
    let up : bit_or v 1 < 128 ^ suc (j / 7) = subst (λ (x : ℕ). bit_or v 1 < x) (sym (pow128 (suc (j / 7)))) (lt_of_lt_of_le t.3 (pow_mono (omega arith))) in
    let lo : 128 ^ (j / 7) ≤ bit_or v 1 = subst (λ (x : ℕ). x ≤ bit_or v 1) (sym (pow128 (j / 7))) (le_trans (pow_mono (omega arith)) t.2) in
    let most : length (shortest v) ≤ suc (j / 7) = length-at_most (suc (j / 7)) v (omega arith) (omega arith) in
    let least : j / 7 < length (shortest v) = longer v (j / 7) lo in
    omega arith
