-- "Longer varints than needed are accepted within 64 bits": which bytes are a varint of a value, all of them.
use Prim.Native.Nat.{ℕ, zero, suc, ◌+◌, ◌-◌, ◌*◌, ◌/◌, ◌%◌, ◌^◌, ◌<◌, ◌≤◌}
use mathlib.Core.Path.{◌≡◌, refl, sym, ap, ◌∙◌, subst}
use mathlib.Core.Bool.{Bool, true, false}
use mathlib.Core.List.{List, [], ◌∷◌, ◌++◌}
use native.Mathlib.Nat.{pow-suc, pow-le-pow_right}
use native.Mathlib.Omega.{arith}
use lib.ListN.{length}
use lib.Dec.{ltb, lit<}
use borrow.Author.Tests.{ltb-true, ltb-false, lt-leb}
use Rattle.layout.specs.Limits.{Limits, last_byte}
use Rattle.layout.specs.Varint.{whole, varint_from, varint, digit, shortest}
use Rattle.varint.proofs.Shortest.{by_groups, shortest_one, shortest-more, length_one, length_more}
use Rattle.layout.specs.Message.{Bytes}
use Rattle.laws.specs.Longer.{in_bytes}
use Rattle.laws.proofs.Varint.{over, not_over, push_last, push-more, push-over, step_value, step-more, step-over, regroup, byte_left, next_power, varint_parses}

-- ---- every one is accepted

small_next : (r m : ℕ) → r < 128 ^ suc (suc m) → r / 128 < 128 ^ suc m
small_next r m h = let p : 128 ^ suc (suc m) ≡ 128 ^ suc m * 128 = pow-suc 128 (suc m) in omega arith

read_in : (L : Limits) (m k v r : ℕ) (rest : List ℕ) → k + m ≤ last_byte L → r < 128 ^ suc m → r * 128 ^ k < 2 ^ L.bits → varint_from L k v (in_bytes m r ++ rest) ≡ whole (v + r * 128 ^ k) rest
unfolding in_bytes
read_in L zero k v r rest l h s =
    let b : r < 128 = omega (arith, pow-suc 128 0) in
    step_value L k v r _ rest (push_last L k v r (not_over L k r (omega arith) s) b)
read_in L (suc m) k v r rest l h s =
    let t : over L k (r % 128 + 128) ≡ false = simp (lt-leb (last_byte L) k (omega arith)) in
    let p : 128 ^ (k + 1) ≡ 128 ^ k * 128 = next_power k in
    let q : v + digit k (r % 128 + 128) + r / 128 * 128 ^ (k + 1) ≡ v + r * 128 ^ k = rw p (regroup v r (128 ^ k)) in
    step-more L k v (r % 128 + 128) (k + 1) _ _ (push-more L k v (r % 128 + 128) t (omega arith))
    ∙ read_in L m (k + 1) (v + digit k (r % 128 + 128)) (r / 128) rest (omega arith) (small_next r m h) (omega arith)
    ∙ ap (λ n. whole n rest) q

-- EVERY LONGER VARINT IS ACCEPTED: for every value within the width and every number of bytes that holds it, up to the last that the width
-- has (ten of 64 bits), these bytes are read as the value, whatever follows.
pub longer-accepted : (L : Limits) (m n : ℕ) (rest : List ℕ) → m ≤ last_byte L → n < 128 ^ suc m → n < 2 ^ L.bits → varint L (in_bytes m n ++ rest) ≡ whole n rest
longer-accepted L m n rest l h s =
    let e : 0 + n * 1 ≡ n = omega arith in
    read_in L m 0 0 n rest (omega arith) h (omega arith) ∙ ap (λ (x : ℕ). whole x rest) e

-- The shortest is one of them,
abbrev pub Shortest : ℕ → Type 0
Shortest n = (m : ℕ) × (length (shortest n) ≡ suc m) × (shortest n ≡ in_bytes m n) × (n < 128 ^ suc m)

pub shortest_in_lem : (n : ℕ) → Shortest n
unfolding in_bytes
shortest_in_lem = by_groups Shortest one more
  where
    one : (n : ℕ) → n < 128 → Shortest n
    one n h = (0, length_one n h, shortest_one n h, omega (arith, pow-suc 128 0))

    more : (n : ℕ) → 128 ≤ n → Shortest (n / 128) → Shortest n
    more n h i =
        let p : 128 ^ suc (suc i.0) ≡ 128 ^ suc i.0 * 128 = pow-suc 128 (suc i.0) in
        (suc i.0, length_more n h ∙ ap suc i.1, shortest-more n h ∙ ap (λ (l : List ℕ). (n % 128 + 128) ∷ l) i.2, omega (arith, i.3))

-- and any number of bytes may be added to it, up to the last that the width has.
pub added_accepted : (L : Limits) (k n : ℕ) (rest : List ℕ) → n < 2 ^ L.bits → length (shortest n) + k ≤ suc (last_byte L) → varint L (in_bytes (length (shortest n) - 1 + k) n ++ rest) ≡ whole n rest
added_accepted L k n rest s l =
    let i = shortest_in_lem n in
    let m : length (shortest n) - 1 + k ≡ i.0 + k = omega (arith, i.1) in
    let w : 128 ^ suc i.0 ≤ 128 ^ suc (i.0 + k) = pow-le-pow_right {n = 128} (lit< tt) {i = suc i.0} {j = suc (i.0 + k)} (omega arith) in
    ap (λ (x : ℕ). varint L (in_bytes x n ++ rest)) m ∙ longer-accepted L (i.0 + k) n rest (omega (arith, i.1)) (omega (arith, i.3)) s

-- ---- and nothing else

-- bytes from number k on, where those before came to v: the varint of some digits in some bytes
record In (L : Limits) (k v : ℕ) (bs : List ℕ) (n : ℕ) (rest : List ℕ) : Type 0 where
  more : ℕ
  digits : ℕ
  place : k + more ≤ last_byte L
  few : digits < 128 ^ suc more
  is : n ≡ v + digits * 128 ^ k
  bytes : bs ≡ in_bytes more digits ++ rest

in_next : (L : Limits) (k v b n : ℕ) (bs rest : List ℕ) → 128 ≤ b → b < 256 → In L (k + 1) (v + digit k b) bs n rest → In L k v (b ∷ bs) n rest
unfolding in_bytes
in_next L k v b n bs rest l h m =
    let d : ℕ = b % 128 + m.digits * 128 in
    let q : (b % 128 + m.digits * 128) / 128 ≡ m.digits = omega arith in
    let r : (b % 128 + m.digits * 128) % 128 + 128 ≡ b = omega arith in
    let p : 128 ^ suc (suc m.more) ≡ 128 ^ suc m.more * 128 = pow-suc 128 (suc m.more) in
    record {
      more = suc m.more;
      digits = b % 128 + m.digits * 128;
      place = omega (arith, m.place);
      few = omega (arith, m.few);
      is = omega (arith, rw (next_power k) at m.is);
      bytes =
          ap (λ (l : List ℕ). b ∷ l) m.bytes
          ∙ ap (λ (x : ℕ). x ∷ (in_bytes m.more m.digits ++ rest)) (sym r)
          ∙ ap (λ (x : ℕ). ((b % 128 + m.digits * 128) % 128 + 128) ∷ (in_bytes m.more x ++ rest)) (sym q);
    }

read_only : (L : Limits) (bs : List ℕ) (k v n : ℕ) (rest : List ℕ) → k ≤ last_byte L → Bytes bs → varint_from L k v bs ≡ whole n rest → In L k v bs n rest
unfolding varint_from in_bytes
read_only L [] k v n rest l a e = absurd (let z : ◌≡◌ {A = ℕ} 0 1 = cc in omega arith)
read_only L (b ∷ bs) k v n rest l a e = go (over L k b) refl (ltb b 128) refl (read_only L bs (k + 1) (v + digit k b) n rest)
  where
    go : (t : Bool) → over L k b ≡ t → (u : Bool) → ltb b 128 ≡ u →
        (k + 1 ≤ last_byte L → Bytes bs → varint_from L (k + 1) (v + digit k b) bs ≡ whole n rest → In L (k + 1) (v + digit k b) bs n rest) →
        In L k v (b ∷ bs) n rest
    go true t u s ih = absurd (let q = step-over L k v b bs (push-over L k v b t) in let z : ◌≡◌ {A = ℕ} 0 1 = cc in omega arith)
    go false t true s ih =
        let q = step_value L k v b _ bs (push_last L k v b t (ltb-true _ _ s)) in
        let n≡ : v + b * 128 ^ k ≡ n = cc in
        let r≡ : bs ≡ rest = cc in
        record { more = 0; digits = b; place = omega arith; few = omega (arith, pow-suc 128 0, ltb-true b 128 s); is = sym n≡; bytes = ap (λ (l : List ℕ). b ∷ l) r≡ }
    go false t false s ih =
        let h = ltb-false _ _ s in
        in_next L k v b n bs rest h a.0 (ih (byte_left L k b l t h) a.1 (sym (step-more L k v b _ _ bs (push-more L k v b t h)) ∙ e))

-- AND NOTHING ELSE IS: bytes that are read as a value are its varint in some number of bytes, no more than the width has.
pub accepted_only : (L : Limits) (bs : List ℕ) (n : ℕ) (rest : List ℕ) → Bytes bs → varint L bs ≡ whole n rest
    → (m : ℕ) × (m ≤ last_byte L) × (n < 128 ^ suc m) × (n < 2 ^ L.bits) × (bs ≡ in_bytes m n ++ rest)
accepted_only L bs n rest a e =
    let i = read_only L bs 0 0 n rest (omega arith) a e in
    let d : i.digits ≡ n = omega (arith, i.is) in
    (i.more, omega (arith, i.place), subst (λ (x : ℕ). x < 128 ^ suc i.more) d i.few, ((varint_parses L).back bs n rest a e).legal, i.bytes ∙ ap (λ (x : ℕ). in_bytes i.more x ++ rest) d)
