-- Rounded up: enough buffers hold all bytes, one fewer doesn't; and what full buffers, with a rest or without, come to.
use Prim.Native.Nat.{ℕ, suc, ◌+◌, ◌*◌, ◌/◌, ◌%◌, ◌≤◌, ◌<◌, min}
use native.Mathlib.Nat.{div-add-mod', mod-lt, suc-mul, lt_of_mul-lt-mul_right, mul-le-mul_left, mul-one}
use native.Mathlib.Omega.{arith}
use mathlib.Core.Path.{◌≡◌, refl, subst}
use mathlib.Core.Bool.{Bool, true, false}
use lib.Dec.{eqb, ltb}
use borrow.Author.Tests.{eqb-true, eqb-false, ltb-true, ltb-false}
use Rattle.layout.specs.Limits.{pick}
use Rattle.drains.specs.Drains.{rounded_up}

some : (x : ℕ) → (x ≡ 0 → ⊥) → 1 ≤ x
some x e = omega arith

times : (x b : ℕ) → 1 ≤ b → x ≤ x * b
times x b h = subst (λ (y : ℕ). y ≤ x * b) (mul-one x) (mul-le-mul_left x h)

-- by whether a remainder is left
by_rest : (n b : ℕ) (P : ℕ → Type 0) → (n % b ≡ 0 → P (n / b)) → ((n % b ≡ 0 → ⊥) → P (suc (n / b))) → P (rounded_up n b)
unfolding rounded_up
by_rest n b P even over = go (eqb (n % b) 0) refl
  where
    go : (t : Bool) → eqb (n % b) 0 ≡ t → P (n / b + pick t 0 1)
    go true e = subst P (zero_more (n / b)) (even (eqb-true (n % b) 0 e))
      where
        zero_more : (x : ℕ) → x ≡ x + 0
        zero_more x = omega arith
    go false e = subst P (one_more (n / b)) (over (eqb-false (n % b) 0 e))
      where
        one_more : (x : ℕ) → suc x ≡ x + 1
        one_more x = omega arith

-- as the library's `div_ceil` says it
pub rounded_ceil : (n b : ℕ) → n / b + min 1 (n % b) ≡ rounded_up n b
rounded_ceil n b = by_rest n b (λ k. n / b + min 1 (n % b) ≡ k) (λ e. omega (arith, e)) (λ e. omega (arith, some (n % b) e))

-- so many buffers hold all bytes
pub rounded_enough : (n b : ℕ) → 1 ≤ b → n ≤ rounded_up n b * b
rounded_enough n b h =
    by_rest n b (λ k. n ≤ k * b) (λ e. omega (arith, div-add-mod' n b, e))
    (λ e. omega (arith, div-add-mod' n b, mod-lt n h, suc-mul (n / b) b))

-- and one fewer doesn't
pub rounded_near : (n b : ℕ) → 1 ≤ b → rounded_up n b * b < n + b
rounded_near n b h =
    by_rest n b (λ k. k * b < n + b) (λ e. omega (arith, div-add-mod' n b, e))
    (λ e. omega (arith, div-add-mod' n b, some (n % b) e, suc-mul (n / b) b))

fewer : (n b j k : ℕ) → j * b < n + b → n ≤ k * b → j ≤ k
fewer n b j k u v = let l : j * b < suc k * b = omega (arith, suc-mul k b) in let m : j < suc k = lt_of_mul-lt-mul_right b l in omega arith

-- no fewer do
pub rounded_least : (n b k : ℕ) → 1 ≤ b → n ≤ k * b → rounded_up n b ≤ k
rounded_least n b k h v = fewer n b (rounded_up n b) k (rounded_near n b h) v

-- each sends a byte at least
pub rounded_most : (n b : ℕ) → 1 ≤ b → rounded_up n b ≤ n
rounded_most n b h = rounded_least n b n h (times n b h)

-- the one number of buffers that is enough where one fewer isn't
rounded_is : (n b k : ℕ) → 1 ≤ b → n ≤ k * b → k * b < n + b → rounded_up n b ≡ k
rounded_is n b k h u v =
    let x : rounded_up n b ≤ k = rounded_least n b k h u in
    let y : k ≤ rounded_up n b = fewer n b k (rounded_up n b) v (rounded_enough n b h) in
    omega arith

-- "zero bytes cost none"
pub rounded_none : (b : ℕ) → 1 ≤ b → rounded_up 0 b ≡ 0
rounded_none b h = omega (arith, rounded_most 0 b h)

-- k full buffers, and one more to its p-th byte if bytes remain
pub rounded_parts : (k b p : ℕ) → 1 ≤ b → p ≤ b → k + pick (ltb 0 p) 1 0 ≡ rounded_up (k * b + p) b
rounded_parts k b p h l = go (ltb 0 p) refl
  where
    go : (t : Bool) → ltb 0 p ≡ t → k + pick t 1 0 ≡ rounded_up (k * b + p) b
    go true e =
        let m = ltb-true 0 p e in
        omega (arith, rounded_is (k * b + p) b (suc k) h (omega (arith, suc-mul k b)) (omega (arith, suc-mul k b, m)))
    go false e = omega (arith, rounded_is (k * b + p) b k h (omega (arith, ltb-false 0 p e)) (omega arith))
