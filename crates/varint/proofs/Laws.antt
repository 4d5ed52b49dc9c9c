-- What a caller of the step may know: the test of a state and the state agree, a byte that goes on keeps it sound, and the step is the
-- layout's.
use Rattle.std.proofs.Common.{◌≡◌, ℕ, ◌+◌, ◌*◌, ◌/◌, ◌^◌, ◌<◌, ◌≤◌, Bool, true, false, ◌&&◌, eqb, ltb, leb, sym, refl, ap, ◌∙◌, arith, lit<, ltb-false, ltb-true, le-ltb, lt-ltb, le-leb, leb-true}
use borrow.Author.Tests.{lt-leb}
use lib.Bits.{bit_or}
use Rattle.layout.specs.Limits.{Limits, last_byte, last_bound}
use Rattle.layout.specs.Varint as layout
use Rattle.varint.specs.declared.Acc.{Acc}
use Rattle.varint.specs.declared.Push.TheVariants.{More, Value, Overlong}
use Rattle.varint.specs.Varint.{Sound, sound_acc, start, unanswer, pushed}
use Rattle.varint.proofs.Digits.{below, joined}
use Rattle.varint.proofs.Step.{overruns, ends, ends_last, goes_on, step-more}

-- ---- the state

pub is_sound : (L : Limits) (a : Acc) → sound_acc L a ≡ true → Sound L a
unfolding sound_acc
is_sound L a e = go (leb a.taken (last_byte L)) refl (ltb a.value (128 ^ a.taken)) refl e
  where
    go : (x : Bool) → leb a.taken (last_byte L) ≡ x → (y : Bool) → ltb a.value (128 ^ a.taken) ≡ y → (x && y) ≡ true → Sound L a
    go true p true q e = record { few = leb-true _ _ p; small = ltb-true _ _ q }
    go true p false q e = let z : ◌≡◌ {A = ℕ} 0 1 = cc in absurd (omega arith)
    go false p y q e = let z : ◌≡◌ {A = ℕ} 0 1 = cc in absurd (omega arith)

pub sound_is : (L : Limits) (a : Acc) → Sound L a → sound_acc L a ≡ true
unfolding sound_acc
sound_is L a s = simp (le-leb _ _ s.few, lt-ltb _ _ s.small)

pub sound-start : (L : Limits) → Sound L start
sound-start L = record { few = omega arith; small = lit< tt }

-- the test as the code makes it
pub many : (L : Limits) (a : Acc) → last_byte L < a.taken → false ≡ sound_acc L a
unfolding sound_acc
many L a h = simp (lt-leb _ _ h)

pub few : (L : Limits) (a : Acc) → a.taken ≤ last_byte L → eqb (a.value / 2 ^ (a.taken * 7)) 0 ≡ sound_acc L a
unfolding sound_acc
few L a h = simp (le-leb _ _ h) (below a.value a.taken)

-- ---- the step

-- its four cases, of every state
module _ (L : Limits) (a : Acc) (b : ℕ) where
  pub pushed-ends : a.taken < last_byte L → b < 128 → Value (bit_or a.value (layout.digit a.taken b)) ≡ pushed L a b
  unfolding pushed
  pushed-ends h g = simp (lt-ltb _ _ h, lt-ltb _ _ g)

  pub pushed_on : a.taken < last_byte L → 128 ≤ b → More (record { value = bit_or a.value (layout.digit a.taken b); taken = a.taken + 1 }) ≡ pushed L a b
  unfolding pushed
  pushed_on h g = simp (lt-ltb _ _ h, le-ltb _ _ g)

  pub pushed_last : last_byte L ≤ a.taken → b < last_bound L → Value (bit_or a.value (layout.digit (last_byte L) b)) ≡ pushed L a b
  unfolding pushed
  pushed_last h g = simp (le-ltb _ _ h, lt-ltb _ _ g)

  pub pushed-over : last_byte L ≤ a.taken → last_bound L ≤ b → Overlong ≡ pushed L a b
  unfolding pushed
  pushed-over h g = simp (le-ltb _ _ h, le-ltb _ _ g)

-- of a state that can be, it is the layout's step
pub layout_step : (L : Limits) (a : Acc) (b : ℕ) → Sound L a → layout.push L a.taken a.value b ≡ unanswer (pushed L a b)
layout_step L a b s = go (ltb a.taken (last_byte L)) refl (ltb b 128) refl (ltb b (last_bound L)) refl
  where
    sum : bit_or a.value (layout.digit a.taken b) ≡ a.value + layout.digit a.taken b
    sum = joined a.value b a.taken s.small

    go : (x : Bool) → ltb a.taken (last_byte L) ≡ x → (y : Bool) → ltb b 128 ≡ y → (z : Bool) → ltb b (last_bound L) ≡ z → layout.push L a.taken a.value b ≡ unanswer (pushed L a b)
    go true p true q z r = ends L a.taken a.value b (ltb-true _ _ p) (ltb-true _ _ q) ∙ ap layout.value (sym sum) ∙ ap unanswer (pushed-ends L a b (ltb-true _ _ p) (ltb-true _ _ q))
    go true p false q z r = goes_on L a.taken a.value b (ltb-true _ _ p) (ltb-false _ _ q) ∙ ap (layout.more (a.taken + 1)) (sym sum) ∙ ap unanswer (pushed_on L a b (ltb-true _ _ p) (ltb-false _ _ q))
    go false p y q true r =
        let l : last_byte L ≤ a.taken = ltb-false a.taken (last_byte L) p in
        let k : a.taken ≡ last_byte L = omega (arith, s.few, l) in
        ends_last L a.taken a.value b (ltb-false _ _ p) (ltb-true _ _ r)
        ∙ ap layout.value (sym sum ∙ ap (λ (j : ℕ). bit_or a.value (layout.digit j b)) k)
        ∙ ap unanswer (pushed_last L a b (ltb-false _ _ p) (ltb-true _ _ r))
    go false p y q false r = overruns L a.taken a.value b (ltb-false _ _ p) (ltb-false _ _ r) ∙ ap unanswer (pushed-over L a b (ltb-false _ _ p) (ltb-false _ _ r))

pub sound_more : (L : Limits) (a : Acc) (b : ℕ) (n : Acc) → Sound L a → pushed L a b ≡ More n → Sound L n
sound_more L a b n s e =
    let o = step-more L a.taken a.value b n.taken n.value s.small (layout_step L a b s ∙ ap unanswer e) in
    record { few = o.few; small = o.small }
