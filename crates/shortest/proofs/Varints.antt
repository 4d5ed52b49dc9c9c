-- A varint in its shortest form, byte by byte: one byte below 128, or bytes from 128 up and a last one that is not 0.
use Prim.Native.Nat.{ℕ, ◌+◌, ◌*◌, ◌/◌, ◌%◌, ◌^◌, ◌≤◌, ◌<◌}
use mathlib.Core.Path.{◌≡◌, refl, sym, ap, ◌∙◌}
use mathlib.Core.List.{List, [], ◌∷◌, ◌++◌, append_assoc}
use native.Mathlib.Nat.{mod-eq_of_lt}
use native.Mathlib.Numerals.{add-one}
use native.Mathlib.Omega.{arith}
use lib.Dec.{lit<}
use lib.ListN.{length, drop, get_or}
use lib.Seq.{drop-cons}
use Rattle.layout.specs.Limits.{base, last_byte}
use Rattle.layout.specs.Varint.{digit, shortest}
use Rattle.varint.proofs.Shortest.{shortest_one, shortest-more}
use Rattle.varint.proofs.Step.{grown, within, within_last}
use Rattle.laws.proofs.Varint.{next_power}
use Rattle.shortest.specs.Own.{Number, Ends}
use Rattle.shortest.proofs.Spans.{ends_as}

-- ---- one byte, and two

pub one : (b : ℕ) (r : List ℕ) → b < 128 → Ends (b ∷ r) (λ bs. bs ≡ shortest b) r
one b r l = record { bytes = b ∷ []; split = refl; good = sym (shortest_one b l) }

-- a byte that goes on, and the varint after it
goes_on : (b w : ℕ) → 128 ≤ b → b < 256 → 0 < w → b ∷ shortest w ≡ shortest (b % 128 + w * 128)
goes_on b w l h p =
    let q : (b % 128 + w * 128) / 128 ≡ w = omega arith in
    let r : (b % 128 + w * 128) % 128 + 128 ≡ b = omega arith in
    sym (shortest-more (b % 128 + w * 128) (omega arith) ∙ ap (λ (x : ℕ). x ∷ shortest ((b % 128 + w * 128) / 128)) r ∙ ap (λ (x : ℕ). b ∷ shortest x) q)

pub two : (b c : ℕ) (r : List ℕ) → 128 ≤ b → b < 256 → 0 < c → c < 128 → Ends (b ∷ c ∷ r) (λ bs. bs ≡ shortest (b % 128 + c * 128)) r
two b c r l h g k =
    record {
      bytes = b ∷ c ∷ [];
      split = refl;
      good = ap (λ (x : List ℕ). b ∷ x) (sym (shortest_one c k)) ∙ goes_on b c l h g;
    }

-- ---- more than one: k bytes came to v, and the varint of any number above 0 may follow

pub record Under (t : List ℕ) (k v : ℕ) : Type 0 where
  pub few : k ≤ last_byte base
  pub small : v < 128 ^ k
  pub bytes : List ℕ
  pub split : t ≡ bytes ++ drop k t
  pub on : (w : ℕ) → 0 < w → bytes ++ shortest w ≡ shortest (v + w * 128 ^ k)

pub under_start : (t : List ℕ) → Under t 0 0
under_start t =
    record {
      few = omega arith;
      small = lit< tt;
      bytes = [];
      split = refl;
      on = λ w h. let e : w ≡ 0 + w * 1 = omega arith in ap shortest e;
    }

spread : (v d w p : ℕ) → v + (d + w * 128) * p ≡ v + d * p + w * (p * 128)
spread v d w p = omega arith

module _ {t : List ℕ} {k v : ℕ} (u : Under t k v) (h : k < length t) where
  longer : t ≡ (u.bytes ++ (get_or t k 0 ∷ [])) ++ drop (k + 1) t
  longer =
      u.split
      ∙ ap (λ (l : List ℕ). u.bytes ++ l) (drop-cons t k 0 h ∙ ap (λ (j : ℕ). get_or t k 0 ∷ drop j t) (sym (add-one k)))
      ∙ sym (append_assoc u.bytes (get_or t k 0 ∷ []) (drop (k + 1) t))

  pub under_more : k < last_byte base → 128 ≤ get_or t k 0 → get_or t k 0 < 256 → Under t (k + 1) (v + digit k (get_or t k 0))
  under_more f l g =
      record {
        few = omega arith;
        small = grown k v (get_or t k 0) u.small;
        bytes = u.bytes ++ (get_or t k 0 ∷ []);
        split = longer;
        on = on_next;
      }
    where
      on_next : (w : ℕ) → 0 < w → (u.bytes ++ (get_or t k 0 ∷ [])) ++ shortest w ≡ shortest (v + digit k (get_or t k 0) + w * 128 ^ (k + 1))
      on_next w p =
          append_assoc u.bytes (get_or t k 0 ∷ []) (shortest w)
          ∙ ap (λ (l : List ℕ). u.bytes ++ l) (goes_on (get_or t k 0) w l g p)
          ∙ u.on (get_or t k 0 % 128 + w * 128) (omega arith)
          ∙ ap shortest (spread v (get_or t k 0 % 128) w (128 ^ k) ∙ ap (λ (x : ℕ). v + digit k (get_or t k 0) + w * x) (sym (next_power k)))

  -- a last byte
  pub under_value : get_or t k 0 < 128 → 0 < get_or t k 0 → Ends t (λ bs. bs ≡ shortest (v + digit k (get_or t k 0))) (drop (k + 1) t)
  under_value l g =
      record {
        bytes = u.bytes ++ (get_or t k 0 ∷ []);
        split = longer;
        good =
            ap (λ (l : List ℕ). u.bytes ++ l) (sym (shortest_one (get_or t k 0) l))
            ∙ u.on (get_or t k 0) g
            ∙ ap (λ (x : ℕ). shortest (v + x * 128 ^ k)) (sym (mod-eq_of_lt l));
      }

  -- the first byte is the last
  pub under_one : k ≡ 0 → get_or t k 0 < 128 → Ends t (λ bs. bs ≡ shortest (get_or t k 0)) (drop (k + 1) t)
  under_one e l =
      record {
        bytes = get_or t k 0 ∷ [];
        split =
            ap (λ (j : ℕ). drop j t) (sym e)
            ∙ drop-cons t k 0 h
            ∙ ap (λ (j : ℕ). get_or t k 0 ∷ drop j t) (sym (add-one k));
        good = sym (shortest_one (get_or t k 0) l);
      }

-- ---- the value not asked for

pub record Going (t : List ℕ) (k : ℕ) : Type 0 where
  pub value : ℕ
  pub under : Under t k value

pub going_start : (t : List ℕ) → Going t 0
going_start t = record { value = 0; under = under_start t }

module _ {t : List ℕ} {k : ℕ} (s : Going t k) (h : k < length t) where
  pub going_more : 128 ≤ get_or t k 0 → get_or t k 0 < 256 → (k ≡ last_byte base → ⊥) → Going t (k + 1)
  going_more l g f = record { value = s.value + digit k (get_or t k 0); under = under_more s.under h (omega (arith, s.under.few)) l g }

  ending : get_or t k 0 < 128 → 0 < get_or t k 0 → s.value + digit k (get_or t k 0) < 2 ^ base.bits → Ends t Number (drop (k + 1) t)
  ending l g w = ends_as (under_value s.under h l g) (λ bs q. (s.value + digit k (get_or t k 0), w, q))

  -- 0 is the last byte of nothing but the varint of 0
  pub going_ends : get_or t k 0 < 128 → (k ≡ last_byte base → ⊥) → (get_or t k 0 ≡ 0 → ⊥) → Ends t Number (drop (k + 1) t)
  going_ends l f g = ending l (omega arith) (within base k s.value (get_or t k 0) s.under.small (omega (arith, s.under.few)))

  pub going_one : get_or t k 0 < 128 → k ≡ 0 → Ends t Number (drop (k + 1) t)
  going_one l e = ends_as (under_one s.under h e l) (λ bs q. (get_or t k 0, omega arith, q))

  pub going_last : get_or t k 0 ≡ 1 → k ≡ last_byte base → Ends t Number (drop (k + 1) t)
  going_last e f = ending (omega arith) (omega arith) (within_last base k s.value (get_or t k 0) s.under.small f (omega arith))
