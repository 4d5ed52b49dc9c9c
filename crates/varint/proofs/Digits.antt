-- Seven bits at a time: powers of 128, and a shift and an `or` as a product and a sum.
use Rattle.std.proofs.Common.{◌≡◌, ℕ, zero, suc, ◌+◌, ◌*◌, ◌/◌, ◌%◌, ◌^◌, ◌<◌, ◌≤◌, Bool, true, false, eqb, ltb, sym, refl, ap, ◌∙◌, subst, mod-lt, mod-eq_of_lt, suc-mul, div-lt_iff_lt-mul, add_comm, one-mul, pow-suc, arith, lit<, pow_pos, pow-add, shl_exact, ltb-false, ltb-true, eq-eqb, ne_eqb}
use native.Mathlib.Nat.{div-eq_of_lt}
use lib.Bits.{bit_and, bit_or, and_mask, or_shifted_r}
use Rattle.layout.specs.Varint.{digit}

pub pow128 : (k : ℕ) → 128 ^ k ≡ 2 ^ (k * 7)
pow128 zero = refl
pow128 (suc k) = pow-suc 128 k ∙ ap (λ (x : ℕ). x * 128) (pow128 k) ∙ sym (pow-add 2 (k * 7) 7) ∙ ap (λ (x : ℕ). 2 ^ x) (sym (suc-mul k 7))

pub pow128_pos : (k : ℕ) → 0 < 128 ^ k
pow128_pos k = subst (λ (x : ℕ). 0 < x) (sym (pow128 k)) (pow_pos (k * 7))

-- seven bits shifted up by k groups, at 64 bits
pub shifted : (b k : ℕ) → k ≤ 8 → bit_and b 127 * 2 ^ (k * 7) % 2 ^ 64 ≡ digit k b
shifted b k h =
    ap (λ (x : ℕ). x * 2 ^ (k * 7) % 2 ^ 64) (and_mask b 7)
    ∙ shl_exact {a = b % 128} 7 (k * 7) 64 (mod-lt b (lit< tt)) (omega arith)
    ∙ ap (λ (x : ℕ). b % 128 * x) (sym (pow128 k))

-- an `or` with what lies above it is a sum
pub joined : (v b k : ℕ) → v < 128 ^ k → bit_or v (digit k b) ≡ v + digit k b
joined v b k h =
    subst (λ (p : ℕ). bit_or v (b % 128 * p) ≡ v + b % 128 * p) (sym (pow128 k))
    (or_shifted_r (b % 128) (k * 7) v (subst (λ (p : ℕ). v < p) (pow128 k) h) ∙ add_comm (b % 128 * 2 ^ (k * 7)) v)

-- the tenth byte, 0 or 1
pub last_digit : (b : ℕ) → b ≤ 1 → b * 2 ^ 63 % 2 ^ 64 ≡ digit 9 b
last_digit b h = mod-eq_of_lt (omega arith) ∙ ap (λ (x : ℕ). x * 2 ^ 63) (sym (mod-eq_of_lt (omega arith)))

-- nothing is left above the first k groups exactly where the number is below 128 ^ k
pub below : (v k : ℕ) → eqb (v / 2 ^ (k * 7)) 0 ≡ ltb v (128 ^ k)
below v k = go (ltb v (128 ^ k)) refl
  where
    go : (b : Bool) → ltb v (128 ^ k) ≡ b → eqb (v / 2 ^ (k * 7)) 0 ≡ ltb v (128 ^ k)
    go true q = eq-eqb _ _ (div-eq_of_lt (subst (λ (p : ℕ). v < p) (pow128 k) (ltb-true _ _ q))) ∙ sym q
    go false q = ne_eqb _ _ (λ z. no z (ltb-false _ _ q)) ∙ sym q
      where
        no : v / 2 ^ (k * 7) ≡ 0 → 128 ^ k ≤ v → ⊥
        no z h =
            let l : v / 2 ^ (k * 7) < 1 = omega arith in
            let m : v < 1 * 2 ^ (k * 7) = (div-lt_iff_lt-mul (pow_pos (k * 7))).0 l in
            let e : 128 ^ k ≡ 2 ^ (k * 7) = pow128 k in
            omega (arith, one-mul (2 ^ (k * 7)))
