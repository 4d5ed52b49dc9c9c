-- The layout's step, over any width: its four cases, and what a byte that goes on and one that ends leave.
use Rattle.std.proofs.Common.{◌≡◌, ℕ, ◌+◌, ◌-◌, ◌*◌, ◌%◌, ◌^◌, ◌<◌, ◌≤◌, Bool, true, false, ltb, leb, sym, refl, ap, ◌∙◌, subst, lt_of_lt_of_le, lt_of_le_of_lt, mod-lt, mul_comm, pow-suc, add-one, arith, lit<, pow_mono, pow-add, ltb-false, ltb-true, le-ltb, lt-ltb, le-leb, leb-false, leb-true}
use native.Mathlib.Nat.{mod-le}
use borrow.Author.Tests.{lt-leb}
use lib.Arith.{digits_lt}
use Rattle.layout.specs.Limits.{Limits, last_byte, last_bound}
use Rattle.layout.specs.Varint.{more, value, overrun, digit, push}
use Rattle.varint.proofs.Digits.{pow128}

-- the last byte's bound leaves no bit 7
pub bound_le : (L : Limits) → last_bound L ≤ 128
bound_le L = pow_mono {j = 7} (omega arith)

module _ (L : Limits) (k v b : ℕ) where
  -- the cases of the step
  pub overruns : last_byte L ≤ k → last_bound L ≤ b → push L k v b ≡ overrun
  unfolding push
  overruns h g = simp (le-leb _ _ h, le-leb _ _ g)

  pub ends : k < last_byte L → b < 128 → push L k v b ≡ value (v + digit k b)
  unfolding push
  ends h g = simp (lt-leb _ _ h, lt-ltb _ _ g)

  pub goes_on : k < last_byte L → 128 ≤ b → push L k v b ≡ more (k + 1) (v + digit k b)
  unfolding push
  goes_on h g = simp (lt-leb _ _ h, le-ltb _ _ g)

  pub ends_last : last_byte L ≤ k → b < last_bound L → push L k v b ≡ value (v + digit k b)
  unfolding push
  ends_last h g = simp (le-leb _ _ h, lt-leb _ _ g, lt-ltb b 128 (lt_of_lt_of_le g (bound_le L)))

-- k groups and one more
pub grown : (k v b : ℕ) → v < 128 ^ k → v + digit k b < 128 ^ (k + 1)
grown k v b h =
    let d : b % 128 * 128 ^ k + v < 128 * 128 ^ k = digits_lt (mod-lt b (lit< tt)) h in
    let e : 128 ^ (k + 1) ≡ 128 * 128 ^ k = ap (λ (j : ℕ). 128 ^ j) (add-one k) ∙ pow-suc 128 k ∙ mul_comm (128 ^ k) 128 in
    omega arith

-- all the bytes before the last place, and the last within its bound, stay within the width
pub within : (L : Limits) (k v b : ℕ) → v < 128 ^ k → k < last_byte L → v + digit k b < 2 ^ L.bits
within L k v b h g = lt_of_lt_of_le (subst (λ (x : ℕ). v + digit k b < x) (pow128 (k + 1)) (grown k v b h)) (pow_mono (omega arith))

pub within_last : (L : Limits) (k v b : ℕ) → v < 128 ^ k → k ≡ last_byte L → b < last_bound L → v + digit k b < 2 ^ L.bits
within_last L k v b h g l =
    let m : b % 128 < last_bound L = lt_of_le_of_lt (mod-le b 128) l in
    let d : b % 128 * 128 ^ k + v < last_bound L * 128 ^ k = digits_lt m h in
    let n : L.bits - 7 * last_byte L + k * 7 ≡ L.bits = omega arith in
    let e : last_bound L * 128 ^ k ≡ 2 ^ L.bits = ap (λ (x : ℕ). last_bound L * x) (pow128 k) ∙ sym (pow-add 2 (L.bits - 7 * last_byte L) (k * 7)) ∙ ap (λ (x : ℕ). 2 ^ x) n in
    omega arith

-- a byte that goes on: one more is taken, the value has seven bits more, and the last byte is not passed
pub record OneMore (L : Limits) (k k' v' : ℕ) : Type 0 where
  pub next : k' ≡ k + 1
  pub small : v' < 128 ^ k'
  pub few : k' ≤ last_byte L

-- the step by its tests
module _ (L : Limits) (k v b : ℕ) where
  pub data Step : Type 0 where
    over : push L k v b ≡ overrun → Step
    inner : k < last_byte L → push L k v b ≡ value (v + digit k b) → Step
    final : last_byte L ≤ k → b < last_bound L → push L k v b ≡ value (v + digit k b) → Step
    one_more : k < last_byte L → 128 ≤ b → push L k v b ≡ more (k + 1) (v + digit k b) → Step

  pub step : Step
  step = go (leb (last_byte L) k) refl (leb (last_bound L) b) refl (ltb b 128) refl
    where
      go : (x : Bool) → leb (last_byte L) k ≡ x → (y : Bool) → leb (last_bound L) b ≡ y → (z : Bool) → ltb b 128 ≡ z → Step
      go true p true q z r = over (overruns L k v b (leb-true _ _ p) (leb-true _ _ q))
      go true p false q z r = final (leb-true _ _ p) (leb-false _ _ q) (ends_last L k v b (leb-true _ _ p) (leb-false _ _ q))
      go false p y q true r = inner (leb-false _ _ p) (ends L k v b (leb-false _ _ p) (ltb-true _ _ r))
      go false p y q false r = one_more (leb-false _ _ p) (ltb-false _ _ r) (goes_on L k v b (leb-false _ _ p) (ltb-false _ _ r))

pub step-more : (L : Limits) (k v b k' v' : ℕ) → v < 128 ^ k → push L k v b ≡ more k' v' → OneMore L k k' v'
step-more L k v b k' v' h e = go (step L k v b)
  where
    go : Step L k v b → OneMore L k k' v'
    go (over f) = let z : ◌≡◌ {A = ℕ} 0 1 = cc in absurd (omega arith)
    go (inner p f) = let z : ◌≡◌ {A = ℕ} 0 1 = cc in absurd (omega arith)
    go (final p q f) = let z : ◌≡◌ {A = ℕ} 0 1 = cc in absurd (omega arith)
    go (one_more p q f) =
        let x : k' ≡ k + 1 = cc in
        let y : v + digit k b ≡ v' = cc in
        record { next = x; small = subst (λ (j : ℕ). v' < 128 ^ j) (sym x) (subst (λ (w : ℕ). w < 128 ^ (k + 1)) y (grown k v b h)); few = omega arith }

-- a byte that ends: the value fits the width
pub step_value : (L : Limits) (k v b n : ℕ) → v < 128 ^ k → k ≤ last_byte L → push L k v b ≡ value n → n < 2 ^ L.bits
step_value L k v b n h l e = go (step L k v b)
  where
    go : Step L k v b → n < 2 ^ L.bits
    go (over f) = let z : ◌≡◌ {A = ℕ} 0 1 = cc in absurd (omega arith)
    go (inner p f) = let y : v + digit k b ≡ n = cc in subst (λ (w : ℕ). w < 2 ^ L.bits) y (within L k v b h p)
    go (final p q f) =
        let y : v + digit k b ≡ n = cc in
        let i : k ≡ last_byte L = omega arith in
        subst (λ (w : ℕ). w < 2 ^ L.bits) y (within_last L k v b h i q)
    go (one_more p q f) = let z : ◌≡◌ {A = ℕ} 0 1 = cc in absurd (omega arith)
