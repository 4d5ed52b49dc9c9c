-- The kit's digits of a number, the fewest that hold it, are the definition's.
use mathlib.Core.Path.{◌≡◌, refl, sym, ap, ◌∙◌, subst}
use mathlib.Core.Bool.{Bool, true, false}
use mathlib.Core.List.{List, [], ◌∷◌, ◌++◌}
use Prim.Native.Nat.{ℕ, zero, suc, ◌-◌, ◌/◌, ◌%◌, ◌^◌, ◌≤◌, ◌<◌}
use native.Mathlib.Nat.{one-le-pow, pow-le-pow_right}
use native.Mathlib.Omega.{arith}
use lib.Dec.{ltb, leb, lit≤}
use borrow.Author.Tests.{leb-true, leb-false, lt-ltb, le-ltb}
use Rattle.layout.specs.Limits.{pick}
use Rattle.io.specs.Digits.{hex_digit_ascii, last_digits, IsDigitCount}
use Rattle.event_list.specs.Lines.{decimal_in, decimal, hexadecimal}

next-digit : (k n : ℕ) → decimal_in (suc k) n ≡ pick (ltb n 10) (hex_digit_ascii n ∷ []) (decimal_in k (n / 10) ++ (hex_digit_ascii (n % 10) ∷ []))
unfolding decimal_in
next-digit k n = refl

pub one_digit : (k n : ℕ) → n < 10 → decimal_in (suc k) n ≡ hex_digit_ascii n ∷ []
one_digit k n h = next-digit k n ∙ ap (λ (b : Bool). pick b (hex_digit_ascii n ∷ []) (decimal_in k (n / 10) ++ (hex_digit_ascii (n % 10) ∷ []))) (lt-ltb n 10 h)

pub more_digits : (k n : ℕ) → 10 ≤ n → decimal_in (suc k) n ≡ decimal_in k (n / 10) ++ (hex_digit_ascii (n % 10) ∷ [])
more_digits k n h = next-digit k n ∙ ap (λ (b : Bool). pick b (hex_digit_ascii n ∷ []) (decimal_in k (n / 10) ++ (hex_digit_ascii (n % 10) ∷ []))) (le-ltb n 10 h)

-- k digits, the fewest, where f hold the number too
fewest : (k f n : ℕ) → n < 10 ^ suc k → (0 < k → 10 ^ k ≤ n) → n < 10 ^ suc f → last_digits 10 (suc k) n ≡ decimal_in (suc f) n
fewest zero f n hn hm hf =
    let h : n < 10 = omega arith in
    let e : n % 10 ≡ n = omega arith in
    ap (λ (d : ℕ). hex_digit_ascii d ∷ []) e ∙ sym (one_digit f n h)
fewest (suc k) zero n hn hm hf =
    let g : 10 ^ suc k ≤ n = hm (omega arith) in
    let p : 1 ≤ 10 ^ k = one-le-pow k 10 (lit≤ tt) in
    absurd (omega arith)
fewest (suc k) (suc f) n hn hm hf =
    let g : 10 ^ suc k ≤ n = hm (omega arith) in
    let p : 1 ≤ 10 ^ k = one-le-pow k 10 (lit≤ tt) in
    let t : 10 ≤ n = omega arith in
    let u : n / 10 < 10 ^ suc k = omega arith in
    let v : 10 ^ k ≤ n / 10 = omega arith in
    let w : n / 10 < 10 ^ suc f = omega arith in
    ap (λ (l : List ℕ). l ++ (hex_digit_ascii (n % 10) ∷ [])) (fewest k f (n / 10) u (λ (_ : 0 < k). v) w) ∙ sym (more_digits (suc f) n t)

pub decimal_is : (k n : ℕ) → IsDigitCount 10 1 n k → n < 2 ^ 64 → last_digits 10 k n ≡ decimal n
unfolding decimal
decimal_is zero n f h = absurd (omega (arith, f.0))
decimal_is (suc k) n f h = fewest k 19 n f.1 (λ (g : 0 < k). more g) (omega arith)
  where
    more : 0 < k → 10 ^ k ≤ n
    more g = let e : suc k - 1 ≡ k = omega arith in subst (λ (j : ℕ). 10 ^ j ≤ n) e (f.2 (omega arith))

-- a number that w digits hold has that many, where w are asked for
pub hexadecimal_is : (w k n : ℕ) → 0 < w → IsDigitCount 16 w n k → n < 16 ^ w → last_digits 16 k n ≡ hexadecimal w n
unfolding hexadecimal
hexadecimal_is w k n h f g = ap (λ (j : ℕ). last_digits 16 j n) (same (leb k w) refl)
  where
    same : (b : Bool) → leb k w ≡ b → k ≡ w
    same true e = let a : k ≤ w = leb-true k w e in omega (arith, f.0)
    same false e =
        let a : w < k = leb-false k w e in
        let l : 16 ^ w ≤ 16 ^ (k - 1) = pow-le-pow_right {n = 16} (lit≤ tt) {i = w} {j = k - 1} (omega arith) in
        absurd (omega (arith, f.2 a))
