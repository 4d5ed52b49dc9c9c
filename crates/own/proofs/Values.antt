-- A varint in its shortest form, its value asked for: what a byte came to says which byte it was.
use Prim.Native.Nat.{ℕ, ◌+◌, ◌^◌, ◌≤◌, ◌<◌}
use mathlib.Core.Path.{◌≡◌, refl, sym, ap, ◌∙◌, subst}
use mathlib.Core.Bool.{Bool, true, false}
use mathlib.Core.List.{List}
use native.Mathlib.Nat.{mod-eq_of_lt}
use native.Mathlib.Omega.{arith}
use lib.Bits.{bit_or}
use lib.Dec.{ltb}
use lib.ListN.{length, drop, get_or}
use borrow.Author.Tests.{ltb-true, ltb-false}
use Rattle.layout.specs.Limits.{base, last_byte, last_bound}
use Rattle.layout.specs.Varint.{digit, shortest}
use Rattle.varint.specs.declared.Acc.{Acc}
use Rattle.varint.specs.declared.Push.TheVariants.{More, Value}
use Rattle.varint.specs.Varint.{pushed}
use Rattle.varint.proofs.Digits.{joined}
use Rattle.varint.proofs.Laws.{pushed-ends, pushed_on, pushed_last, pushed-over}
use Rattle.shortest.specs.Own.{Ends}
use Rattle.shortest.proofs.Spans.{ends_as}
use Rattle.shortest.proofs.Varints.{Under, under_start, under_more, under_value, under_one}

record Last (a : Acc) (b v : ℕ) : Type 0 where
  below : b < 128
  is : v ≡ a.value + digit a.taken b

record More-of (a : Acc) (b : ℕ) (n : Acc) : Type 0 where
  few : a.taken < last_byte base
  above : 128 ≤ b
  taken : n.taken ≡ a.taken + 1
  is : n.value ≡ a.value + digit a.taken b

module _ (a : Acc) (b : ℕ) (k : a.taken ≤ last_byte base) (s : a.value < 128 ^ a.taken) where
  sum : bit_or a.value (digit a.taken b) ≡ a.value + digit a.taken b
  sum = joined a.value b a.taken s

  was_last : (v : ℕ) → pushed base a b ≡ Value v → Last a b v
  was_last v e = go (ltb a.taken (last_byte base)) refl (ltb b 128) refl (ltb b (last_bound base)) refl
    where
      go : (x : Bool) → ltb a.taken (last_byte base) ≡ x → (y : Bool) → ltb b 128 ≡ y → (z : Bool) → ltb b (last_bound base) ≡ z → Last a b v
      go true p true q z r =
          let f = pushed-ends base a b (ltb-true _ _ p) (ltb-true _ _ q) ∙ e in
          let g : bit_or a.value (digit a.taken b) ≡ v = cc in
          record { below = ltb-true _ _ q; is = sym g ∙ sum }
      go true p false q z r = absurd (let f = pushed_on base a b (ltb-true _ _ p) (ltb-false _ _ q) ∙ e in let z : ◌≡◌ {A = ℕ} 0 1 = cc in omega arith)
      go false p y q true r =
          let f = pushed_last base a b (ltb-false _ _ p) (ltb-true _ _ r) ∙ e in
          let g : bit_or a.value (digit (last_byte base) b) ≡ v = cc in
          let i : a.taken ≡ last_byte base = omega (arith, ltb-false a.taken (last_byte base) p) in
          record { below = omega (arith, ltb-true b (last_bound base) r); is = sym g ∙ ap (λ (j : ℕ). bit_or a.value (digit j b)) (sym i) ∙ sum }
      go false p y q false r = absurd (let f = pushed-over base a b (ltb-false _ _ p) (ltb-false _ _ r) ∙ e in let z : ◌≡◌ {A = ℕ} 0 1 = cc in omega arith)

  was_more : (n : Acc) → pushed base a b ≡ More n → More-of a b n
  was_more n e = go (ltb a.taken (last_byte base)) refl (ltb b 128) refl (ltb b (last_bound base)) refl
    where
      go : (x : Bool) → ltb a.taken (last_byte base) ≡ x → (y : Bool) → ltb b 128 ≡ y → (z : Bool) → ltb b (last_bound base) ≡ z → More-of a b n
      go true p true q z r = absurd (let f = pushed-ends base a b (ltb-true _ _ p) (ltb-true _ _ q) ∙ e in let z : ◌≡◌ {A = ℕ} 0 1 = cc in omega arith)
      go true p false q z r =
          let f = pushed_on base a b (ltb-true _ _ p) (ltb-false _ _ q) ∙ e in
          let m : record { value = bit_or a.value (digit a.taken b); taken = a.taken + 1 } ≡ n = cc in
          record { few = ltb-true _ _ p; above = ltb-false _ _ q; taken = sym (ap (λ (x : Acc). x.taken) m); is = sym (ap (λ (x : Acc). x.value) m) ∙ sum }
      go false p y q true r = absurd (let f = pushed_last base a b (ltb-false _ _ p) (ltb-true _ _ r) ∙ e in let z : ◌≡◌ {A = ℕ} 0 1 = cc in omega arith)
      go false p y q false r = absurd (let f = pushed-over base a b (ltb-false _ _ p) (ltb-false _ _ r) ∙ e in let z : ◌≡◌ {A = ℕ} 0 1 = cc in omega arith)

-- k bytes came to this state, and the varint of any number above 0 may follow
abbrev pub Coming : List ℕ → ℕ → Acc → Type 0
Coming t k a = (a.taken ≡ k) × Under t k a.value

pub coming_start : (t : List ℕ) (a : Acc) → a ≡ record { value = 0; taken = 0 } → Coming t 0 a
coming_start t a e = subst (Coming t 0) (sym e) (refl, under_start t)

module _ {t : List ℕ} {k : ℕ} {a : Acc} (c : Coming t k a) (h : k < length t) where
  few : a.taken ≤ last_byte base
  few = omega (arith, c.0, c.1.few)

  small : a.value < 128 ^ a.taken
  small = subst (λ (j : ℕ). a.value < 128 ^ j) (sym c.0) c.1.small

  came : (v : ℕ) → v ≡ a.value + digit a.taken (get_or t k 0) → a.value + digit k (get_or t k 0) ≡ v
  came v e = sym (e ∙ ap (λ (j : ℕ). a.value + digit j (get_or t k 0)) c.0)

  pub coming_more : (n : Acc) → get_or t k 0 < 256 → pushed base a (get_or t k 0) ≡ More n → Coming t (k + 1) n
  coming_more n g e =
      let m = was_more a (get_or t k 0) few small n e in
      (omega (arith, m.taken, c.0), subst (Under t (k + 1)) (came n.value m.is) (under_more c.1 h (omega (arith, m.few, c.0)) m.above g))

  pub coming_value : (v : ℕ) → pushed base a (get_or t k 0) ≡ Value v → 0 < get_or t k 0 → Ends t (λ bs. bs ≡ shortest v) (drop (k + 1) t)
  coming_value v e g =
      let m = was_last a (get_or t k 0) few small v e in
      ends_as (under_value c.1 h m.below g) (λ bs q. q ∙ ap shortest (came v m.is))

  pub coming_one : (v : ℕ) → pushed base a (get_or t k 0) ≡ Value v → k ≡ 0 → Ends t (λ bs. bs ≡ shortest v) (drop (k + 1) t)
  coming_one v e g =
      let m = was_last a (get_or t k 0) few small v e in
      let s : a.value < 128 ^ 0 = subst (λ (j : ℕ). a.value < 128 ^ j) g c.1.small in
      let d : digit k (get_or t k 0) ≡ digit 0 (get_or t k 0) = ap (λ (j : ℕ). digit j (get_or t k 0)) g in
      let f : get_or t k 0 ≡ v = omega (arith, came v m.is, mod-eq_of_lt m.below) in
      ends_as (under_one c.1 h g m.below) (λ bs q. q ∙ ap shortest f)
