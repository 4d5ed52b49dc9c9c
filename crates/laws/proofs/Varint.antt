-- Varints: the shortest bytes of a value are read back as it, and no bytes of it are fewer.
use Prim.Native.Nat.{ℕ, zero, suc, ◌+◌, ◌-◌, ◌*◌, ◌/◌, ◌%◌, ◌^◌, ◌<◌, ◌≤◌}
use mathlib.Core.Path.{◌≡◌, refl, sym, ap, ◌∙◌, subst}
use mathlib.Core.Bool.{Bool, true, false, ◌&&◌}
use mathlib.Core.List.{List, [], ◌∷◌, ◌++◌}
use native.Mathlib.Nat.{lt_of_mul-lt-mul_right, mul-le-mul_right, mod-eq_of_lt, div-add-mod, pow-suc, pow-le-pow_right}
use native.Mathlib.Numerals.{add-one}
use native.Mathlib.Omega.{arith}
use lib.ListN.{length}
use lib.Dec.{ltb, leb, lit<}
use lib.Pow.{pow_pos}
use borrow.Author.Tests.{ltb-true, ltb-false, leb-true, leb-false, lt-ltb, le-ltb, lt-leb}
use Rattle.layout.specs.Limits.{Limits, last_byte, last_bound}
use Rattle.layout.specs.Varint.{whole, broken, push, varint_from, varint, shortest_in, shortest, digit, more, value, overrun}
use Rattle.varint.proofs.Shortest.{one_in, more_in, shortest_one, shortest-more}
use Rattle.layout.specs.Message.{Bytes}
use Rattle.laws.proofs.Numbers.{last_small, last_whole}
use Rattle.laws.proofs.Parser.{Got, Parses}

-- ---- the shortest bytes

-- seven bits more are at most a byte more
longer : (c m : ℕ) → c < 128 → length (shortest (c + m * 128)) ≤ suc (length (shortest m))
longer c m h = go (ltb (c + m * 128) 128) refl
  where
    go : (t : Bool) → ltb (c + m * 128) 128 ≡ t → length (shortest (c + m * 128)) ≤ suc (length (shortest m))
    go true e = rw (shortest_one (c + m * 128) (ltb-true _ _ e)) (omega arith)
    go false e =
        let q : (c + m * 128) / 128 ≡ m = omega arith in
        rw (shortest-more (c + m * 128) (ltb-false _ _ e), q) (omega arith)

-- ---- one byte

-- the byte overruns the width
abbrev pub over : Limits → ℕ → ℕ → Bool
over L k b = leb (last_byte L) k && leb (last_bound L) b

room : (L : Limits) (k r : ℕ) → k ≤ last_byte L → r * 128 ^ k < 2 ^ L.bits → leb (last_byte L) k ≡ true → r < last_bound L
room L k r h s t =
    let e : k ≡ last_byte L = omega (arith, leb-true) in
    lt_of_mul-lt-mul_right (128 ^ last_byte L) (subst (λ x. r * 128 ^ last_byte L < x) (sym (last_whole L)) (subst (λ x. r * 128 ^ x < 2 ^ L.bits) e s))

pub not_over : (L : Limits) (k r : ℕ) → k ≤ last_byte L → r * 128 ^ k < 2 ^ L.bits → over L k r ≡ false
not_over L k r h s = go (leb (last_byte L) k) refl
  where
    go : (t : Bool) → leb (last_byte L) k ≡ t → over L k r ≡ false
    go true e = simp (e, lt-leb _ _ (room L k r h s e))
    go false e = simp e

pub push_last : (L : Limits) (k v b : ℕ) → over L k b ≡ false → b < 128 → push L k v b ≡ value (v + b * 128 ^ k)
unfolding push
push_last L k v b t h = simp (t, lt-ltb b 128 h, mod-eq_of_lt h)

pub push-more : (L : Limits) (k v b : ℕ) → over L k b ≡ false → 128 ≤ b → push L k v b ≡ more (k + 1) (v + digit k b)
unfolding push
push-more L k v b t h = simp (t, le-ltb b 128 h)

pub push-over : (L : Limits) (k v b : ℕ) → over L k b ≡ true → push L k v b ≡ overrun
unfolding push
push-over L k v b t = simp t

pub step_value : (L : Limits) (k v b n : ℕ) (bs : List ℕ) → push L k v b ≡ value n → varint_from L k v (b ∷ bs) ≡ whole n bs
unfolding varint_from
step_value L k v b n bs e = rw (e, varint_from)

pub step-more : (L : Limits) (k v b k' v' : ℕ) (bs : List ℕ) → push L k v b ≡ more k' v' → varint_from L k v (b ∷ bs) ≡ varint_from L k' v' bs
unfolding varint_from
step-more L k v b k' v' bs e = rw (e, varint_from)

pub step-over : (L : Limits) (k v b : ℕ) (bs : List ℕ) → push L k v b ≡ overrun → varint_from L k v (b ∷ bs) ≡ broken bs
unfolding varint_from
step-over L k v b bs e = rw (e, varint_from)

-- ---- written and read back

-- a value that goes on after byte number k has a byte for that
goes_on : (L : Limits) (k r : ℕ) → k ≤ last_byte L → r * 128 ^ k < 2 ^ L.bits → 128 ≤ r → k < last_byte L
goes_on L k r l s b = go (leb (last_byte L) k) refl
  where
    go : (t : Bool) → leb (last_byte L) k ≡ t → k < last_byte L
    go true e = absurd (omega (arith, room L k r l s e, last_small L))
    go false e = leb-false _ _ e

pub regroup : (v r p : ℕ) → v + (r % 128 + 128) % 128 * p + r / 128 * (p * 128) ≡ v + r * p
regroup v r p =
    let e : (r % 128 + 128) % 128 ≡ r % 128 = omega arith in
    let q : (128 * (r / 128) + r % 128) * p ≡ r * p = ap (λ (x : ℕ). x * p) (div-add-mod r 128) in
    rw e (omega arith)

read_back : (L : Limits) (f k v r : ℕ) (rest : List ℕ) → r ≤ f → k ≤ last_byte L → r * 128 ^ k < 2 ^ L.bits → varint_from L k v (shortest_in f r ++ rest) ≡ whole (v + r * 128 ^ k) rest
read_back L zero k v r rest h l s =
    let b : r < 128 = omega arith in
    rw (one_in zero r b) (step_value L k v r _ rest (push_last L k v r (not_over L k r l s) b))
read_back L (suc f) k v r rest h l s = go (ltb r 128) refl (read_back L f (k + 1) (v + digit k (r % 128 + 128)) (r / 128) rest)
  where
    go : (t : Bool) → ltb r 128 ≡ t →
        (r / 128 ≤ f → k + 1 ≤ last_byte L → r / 128 * 128 ^ (k + 1) < 2 ^ L.bits →
        varint_from L (k + 1) (v + digit k (r % 128 + 128)) (shortest_in f (r / 128) ++ rest) ≡ whole (v + digit k (r % 128 + 128) + r / 128 * 128 ^ (k + 1)) rest) →
        varint_from L k v (shortest_in (suc f) r ++ rest) ≡ whole (v + r * 128 ^ k) rest
    go true e ih =
        let b : r < 128 = ltb-true _ _ e in
        rw (one_in (suc f) r b) (step_value L k v r _ rest (push_last L k v r (not_over L k r l s) b))
    go false e ih =
        let b : 128 ≤ r = ltb-false _ _ e in
        let l' : k < last_byte L = goes_on L k r l s b in
        let t : over L k (r % 128 + 128) ≡ false = simp (lt-leb (last_byte L) k l') in
        let p : 128 ^ (k + 1) ≡ 128 ^ k * 128 = simp (add-one, pow-suc) in
        let q : v + digit k (r % 128 + 128) + r / 128 * 128 ^ (k + 1) ≡ v + r * 128 ^ k = rw p (regroup v r (128 ^ k)) in
        rw (more_in f r b)
        (step-more L k v (r % 128 + 128) (k + 1) _ _ (push-more L k v (r % 128 + 128) t (omega arith))
        ∙ ih (omega arith) (omega arith) (omega arith)
        ∙ ap (λ n. whole n rest) q)

-- ---- read

-- what is known of a value n that was read from byte number k on, where the bytes before came to v: its digits m from there on
record From (L : Limits) (k v : ℕ) (bs : List ℕ) (n : ℕ) (rest : List ℕ) : Type 0 where
  digits : ℕ
  is : n ≡ v + digits * 128 ^ k
  fits : n < 2 ^ L.bits
  shorter : length (shortest digits) + length rest ≤ length bs
  bytes : Bytes rest

-- a last byte that does not overrun keeps the value within the width
in_width : (L : Limits) (k v b : ℕ) → k ≤ last_byte L → v < 128 ^ k → over L k b ≡ false → b < 128 → v + b * 128 ^ k < 2 ^ L.bits
in_width L k v b l h t s = go (leb (last_byte L) k) refl
  where
    go : (u : Bool) → leb (last_byte L) k ≡ u → v + b * 128 ^ k < 2 ^ L.bits
    go true e =
        let q : leb (last_bound L) b ≡ false = simp e at t in
        let k≡ : k ≡ last_byte L = omega (arith, leb-true) in
        let w : last_bound L * 128 ^ k ≡ 2 ^ L.bits = subst (λ x. last_bound L * 128 ^ x ≡ 2 ^ L.bits) (sym k≡) (last_whole L) in
        omega (arith, mul-le-mul_right {m = suc b} (128 ^ k) (leb-false _ _ q))
    go false e =
        omega (arith, mul-le-mul_right {m = suc b} (128 ^ k) s, pow-suc 128 k, pow-le-pow_right {n = 128} (lit< tt) {i = suc k} {j = last_byte L} (leb-false _ _ e), last_whole L, mul-le-mul_right {m = 1} (128 ^ last_byte L) (pow_pos (L.bits - 7 * last_byte L)))

-- a byte that says that another follows, and does not overrun, has a byte after it
pub byte_left : (L : Limits) (k b : ℕ) → k ≤ last_byte L → over L k b ≡ false → 128 ≤ b → k + 1 ≤ last_byte L
byte_left L k b l t h = go (leb (last_byte L) k) refl
  where
    go : (u : Bool) → leb (last_byte L) k ≡ u → k + 1 ≤ last_byte L
    go true e =
        let q : leb (last_bound L) b ≡ false = simp e at t in
        absurd (omega (arith, leb-false (last_bound L) b q, last_small L))
    go false e = omega (arith, leb-false)

pub next_power : (k : ℕ) → 128 ^ (k + 1) ≡ 128 ^ k * 128
next_power k = simp (add-one, pow-suc)

from_next : (L : Limits) (k v b n : ℕ) (bs rest : List ℕ) → From L (k + 1) (v + digit k b) bs n rest → From L k v (b ∷ bs) n rest
from_next L k v b n bs rest m =
    record {
      digits = b % 128 + m.digits * 128;
      is = omega (arith, rw (next_power k) at m.is);
      fits = m.fits;
      shorter = omega (arith, longer (b % 128) m.digits (omega arith));
      bytes = m.bytes;
    }

read : (L : Limits) (bs : List ℕ) (k v n : ℕ) (rest : List ℕ) → k ≤ last_byte L → v < 128 ^ k → Bytes bs → varint_from L k v bs ≡ whole n rest → From L k v bs n rest
unfolding varint_from
read L [] k v n rest l h a e = absurd (let z : ◌≡◌ {A = ℕ} 0 1 = cc in omega arith)
read L (b ∷ bs) k v n rest l h a e = go (over L k b) refl (ltb b 128) refl (read L bs (k + 1) (v + digit k b) n rest)
  where
    v< : v + digit k b < 128 ^ (k + 1)
    v< = rw (next_power k) (omega (arith, mul-le-mul_right {m = suc (b % 128)} {n = 128} (128 ^ k) (omega arith)))

    go : (t : Bool) → over L k b ≡ t → (u : Bool) → ltb b 128 ≡ u →
        (k + 1 ≤ last_byte L → v + digit k b < 128 ^ (k + 1) → Bytes bs → varint_from L (k + 1) (v + digit k b) bs ≡ whole n rest → From L (k + 1) (v + digit k b) bs n rest) →
        From L k v (b ∷ bs) n rest
    go true t u s ih = absurd (let q = step-over L k v b bs (push-over L k v b t) in let z : ◌≡◌ {A = ℕ} 0 1 = cc in omega arith)
    go false t true s ih =
        let q = step_value L k v b _ bs (push_last L k v b t (ltb-true _ _ s)) in
        let n≡ : v + b * 128 ^ k ≡ n = cc in
        let r≡ : bs ≡ rest = cc in
        record {
          digits = b;
          is = sym n≡;
          fits = rw (← n≡) (in_width L k v b l h t (ltb-true _ _ s));
          shorter = rw (← r≡, shortest_one b (ltb-true _ _ s)) (omega arith);
          bytes = subst Bytes r≡ a.1;
        }
    go false t false s ih =
        let h = ltb-false _ _ s in
        from_next L k v b n bs rest (ih (byte_left L k b l t h) v< a.1 (sym (step-more L k v b _ _ bs (push-more L k v b t h)) ∙ e))

pub varint_parses : (L : Limits) → Parses (varint L) (λ n. n < 2 ^ L.bits) shortest
unfolding shortest
varint_parses L = record { forth = forth; back = back }
  where
    forth : (n : ℕ) (rest : List ℕ) → n < 2 ^ L.bits → varint L (shortest n ++ rest) ≡ whole n rest
    forth n rest h =
        let e : 0 + n * 1 ≡ n = omega arith in
        read_back L n 0 0 n rest (omega arith) (omega arith) (omega arith) ∙ ap (λ m. whole m rest) e

    back : (bs : List ℕ) (n : ℕ) (rest : List ℕ) → Bytes bs → varint L bs ≡ whole n rest → Got (λ n. n < 2 ^ L.bits) shortest bs n rest
    back bs n rest a e =
        let m = read L bs 0 0 n rest (omega arith) (omega arith) a e in
        let d : m.digits ≡ n = omega arith in
        record { legal = m.fits; shorter = subst (λ x. length (shortest x) + length rest ≤ length bs) d m.shorter; bytes = m.bytes }
