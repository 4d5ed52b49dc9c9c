-- The layout's shortest varint, as a list: its two cases, its length between powers of 128, its bytes and what stands at a place.
use Rattle.std.proofs.Common.{◌≡◌, ℕ, zero, suc, ◌+◌, ◌*◌, ◌/◌, ◌%◌, ◌^◌, ◌<◌, ◌≤◌, Bool, true, false, ltb, List, [], ◌∷◌, length, get_or, drop, sym, refl, ap, ◌∙◌, subst, lt_of_lt_of_le, not-suc-le-zero, div-lt_iff_lt-mul, pow-suc, le-div_iff_mul-le, div-one, arith, lit<, pow_mono, ltb-false, ltb-true, le-ltb, lt-ltb}
use native.Mathlib.Nat.{pow-succ', div-div-eq-div-mul}
use lib.Pow.{are_bytes}
use Rattle.layout.specs.Limits.{Limits, longest}
use Rattle.layout.specs.Varint.{shortest_in, shortest}
use Rattle.varint.proofs.Digits.{pow128, pow128_pos}

-- ---- the two cases

-- below 128, or not
pub by_size : {P : Type 0} (n : ℕ) → (n < 128 → P) → (128 ≤ n → P) → P
by_size {P} n one more = go (ltb n 128) refl
  where
    go : (b : Bool) → ltb n 128 ≡ b → P
    go true t = one (ltb-true _ _ t)
    go false t = more (ltb-false _ _ t)

pub one_in : (f n : ℕ) → n < 128 → shortest_in f n ≡ n ∷ []
unfolding shortest_in
one_in zero n h = refl
one_in (suc f) n h = simp (lt-ltb n 128 h, shortest_in)

pub more_in : (f n : ℕ) → 128 ≤ n → shortest_in (suc f) n ≡ (n % 128 + 128) ∷ shortest_in f (n / 128)
unfolding shortest_in
more_in f n h = simp (le-ltb n 128 h, shortest_in)

-- more fuel than enough changes nothing
same : (f g n : ℕ) → n ≤ f → n ≤ g → shortest_in f n ≡ shortest_in g n
same zero g n p q = one_in zero n (omega arith) ∙ sym (one_in g n (omega arith))
same (suc f) zero n p q = one_in (suc f) n (omega arith) ∙ sym (one_in zero n (omega arith))
same (suc f) (suc g) n p q =
    by_size n
    (λ h. one_in (suc f) n h ∙ sym (one_in (suc g) n h))
    (λ h. more_in f n h ∙ ap (λ (l : List ℕ). (n % 128 + 128) ∷ l) (same f g (n / 128) (omega arith) (omega arith)) ∙ sym (more_in g n h))

pub shortest_one : (n : ℕ) → n < 128 → shortest n ≡ n ∷ []
unfolding shortest
shortest_one n h = one_in n n h

pub shortest-more : (n : ℕ) → 128 ≤ n → shortest n ≡ (n % 128 + 128) ∷ shortest (n / 128)
unfolding shortest
shortest-more zero h = absurd (not-suc-le-zero h)
shortest-more (suc m) h =
    more_in m (suc m) h ∙ ap (λ (l : List ℕ). (suc m % 128 + 128) ∷ l) (same m (suc m / 128) (suc m / 128) (omega arith) (omega arith))

-- induction by groups of seven bits
groups_in : (P : ℕ → Type 0) → ((n : ℕ) → n < 128 → P n) → ((n : ℕ) → 128 ≤ n → P (n / 128) → P n) → (f n : ℕ) → n ≤ f → P n
groups_in P one more zero n h = one n (omega arith)
groups_in P one more (suc f) n h = by_size n (one n) (λ k. more n k (groups_in P one more f (n / 128) (omega arith)))

pub by_groups : (P : ℕ → Type 0) → ((n : ℕ) → n < 128 → P n) → ((n : ℕ) → 128 ≤ n → P (n / 128) → P n) → (n : ℕ) → P n
by_groups P one more n = groups_in P one more n n (omega arith)

-- ---- length

pub length_one : (n : ℕ) → n < 128 → length (shortest n) ≡ 1
length_one n h = ap length (shortest_one n h)

pub length_more : (n : ℕ) → 128 ≤ n → length (shortest n) ≡ suc (length (shortest (n / 128)))
length_more n h = ap length (shortest-more n h)

pub length_some : (n : ℕ) → 1 ≤ length (shortest n)
length_some = by_groups (λ (n : ℕ). 1 ≤ length (shortest n)) (λ n h. let e = length_one n h in omega arith) (λ n h i. let e = length_more n h in omega arith)

above_div : (m n : ℕ) → n < 128 ^ suc m → n / 128 < 128 ^ m
above_div m n l = (div-lt_iff_lt-mul (lit< tt)).1 (subst (λ (x : ℕ). n < x) (pow-suc 128 m) l)

above_one : (m n : ℕ) → 128 ≤ n → n / 128 < 128 ^ m → 1 ≤ m
above_one zero n k d = omega arith
above_one (suc m) n k d = omega arith

-- at most m bytes below 128 ^ m, and more than m from there on
pub length-at_most : (m n : ℕ) → 1 ≤ m → n < 128 ^ m → length (shortest n) ≤ m
length-at_most zero n h l = absurd (not-suc-le-zero h)
length-at_most (suc m) n h l =
    by_size n
    (λ k. let e = length_one n k in omega arith)
    (λ k. let e = length_more n k in let d : n / 128 < 128 ^ m = above_div m n l in let j : length (shortest (n / 128)) ≤ m = length-at_most m (n / 128) (above_one m n k d) d in omega arith)

pub length_above : (m n : ℕ) → 128 ^ m ≤ n → m < length (shortest n)
length_above zero n h = length_some n
length_above (suc m) n h =
    let s : 128 ^ suc m ≡ 128 ^ m * 128 = pow-suc 128 m in
    let p : 0 < 128 ^ m = pow128_pos m in
    let k : 128 ≤ n = omega arith in
    let e = length_more n k in
    let i : m < length (shortest (n / 128)) = length_above m (n / 128) ((le-div_iff_mul-le (lit< tt)).1 (subst (λ (x : ℕ). x ≤ n) s h)) in
    omega arith

-- no value of the width takes more than the longest varint has
pub length-longest : (L : Limits) (n : ℕ) → n < 2 ^ L.bits → length (shortest n) ≤ longest L
length-longest L n h =
    length-at_most (longest L) n (omega arith)
    (subst (λ (p : ℕ). n < p) (sym (pow128 (longest L))) (lt_of_lt_of_le h (pow_mono {i = L.bits} {j = longest L * 7} (omega arith))))

-- ---- bytes

-- from a place on, it is the shortest varint of what is left above that place
pub drop-shortest : (k n : ℕ) → k < length (shortest n) → drop k (shortest n) ≡ shortest (n / 128 ^ k)
drop-shortest zero n h = ap shortest (sym (div-one n))
drop-shortest (suc k) n h =
    by_size n
    (λ g. let e = length_one n g in absurd (omega arith))
    (λ g.
    let e = length_more n g in
    ap (drop (suc k)) (shortest-more n g)
    ∙ drop-shortest k (n / 128) (omega arith)
    ∙ ap shortest (div-div-eq-div-mul n 128 (128 ^ k) ∙ ap (λ (x : ℕ). n / x) (sym (pow-succ' 128 k))))

first : (n : ℕ) → (n < 128 → get_or (shortest n) 0 0 ≡ n) × (128 ≤ n → get_or (shortest n) 0 0 ≡ n % 128 + 128)
first n = (λ h. ap (λ (l : List ℕ). get_or l 0 0) (shortest_one n h), λ h. ap (λ (l : List ℕ). get_or l 0 0) (shortest-more n h))

-- as a test of the whole list, and place by place
pub shortest_bytes : (n : ℕ) → are_bytes (shortest n) ≡ true
shortest_bytes = by_groups (λ (n : ℕ). are_bytes (shortest n) ≡ true) one more
  where
    one : (n : ℕ) → n < 128 → are_bytes (shortest n) ≡ true
    one n h = ap are_bytes (shortest_one n h) ∙ simp (lt-ltb n 256 (omega arith))

    more : (n : ℕ) → 128 ≤ n → are_bytes (shortest (n / 128)) ≡ true → are_bytes (shortest n) ≡ true
    more n h e = ap are_bytes (shortest-more n h) ∙ simp (lt-ltb (n % 128 + 128) 256 (omega arith)) e

pub byte_below : (n i : ℕ) → get_or (shortest n) i 0 < 256
byte_below = by_groups (λ (n : ℕ). (i : ℕ) → get_or (shortest n) i 0 < 256) one more
  where
    one : (n : ℕ) → n < 128 → (i : ℕ) → get_or (shortest n) i 0 < 256
    one n h zero = let e = (first n).0 h in omega arith
    one n h (suc i) = let e : get_or (shortest n) (suc i) 0 ≡ 0 = ap (λ (l : List ℕ). get_or l (suc i) 0) (shortest_one n h) in omega arith

    more : (n : ℕ) → 128 ≤ n → ((i : ℕ) → get_or (shortest (n / 128)) i 0 < 256) → (i : ℕ) → get_or (shortest n) i 0 < 256
    more n h f zero = let e = (first n).1 h in omega arith
    more n h f (suc i) =
        let e : get_or (shortest n) (suc i) 0 ≡ get_or (shortest (n / 128)) i 0 = ap (λ (l : List ℕ). get_or l (suc i) 0) (shortest-more n h) in
        let g = f i in
        omega arith
