-- One varint, byte by byte.
use Prim.Native.Nat.{ℕ, ◌+◌, ◌-◌, ◌*◌, ◌%◌, ◌<◌, ◌≤◌}
use mathlib.Core.Path.{◌≡◌, refl, sym, ap, ◌∙◌}
use mathlib.Core.List.{List, [], ◌∷◌}
use native.Mathlib.Nat.{mod-eq_of_lt}
use native.Mathlib.Omega.{arith}
use lib.Dec.{lit<}
use lib.ListN.{length, take, drop, get_or, length-drop}
use lib.Seq.{take_all}
use Rattle.layout.specs.Limits.{base, last_byte}
use Rattle.layout.specs.Varint.{Outcome, whole, short, broken, Push, more, value, overrun, push, digit, varint_from, varint}
use Rattle.varint.specs.declared.Acc.{Acc}
use Rattle.varint.specs.declared.Push.TheVariants.{More, Value, Overlong}
use Rattle.varint.specs.Varint.{Sound, unanswer, pushed}
use Rattle.varint.proofs.Laws.{sound_more, layout_step}
use Rattle.varint.proofs.Step as steps
use Rattle.passing.specs.Passing.{ends}

-- what a byte's answer leaves
unfoldable after : List ℕ → Push → Outcome ℕ
after bs (more k v) = varint_from base k v bs
after bs (value n) = whole n bs
after bs overrun = broken bs

first_byte : (bs : List ℕ) (q : Push) → elim q [ more k' v' ↦ varint_from base k' v' bs | value n ↦ whole n bs | overrun ↦ broken bs ] ≡ after bs q
unfolding after
first_byte bs (more k v) = refl
first_byte bs (value n) = refl
first_byte bs overrun = refl

step : (b : ℕ) (bs : List ℕ) (k v : ℕ) (q : Push) → push base k v b ≡ q → varint_from base k v (b ∷ bs) ≡ after bs q
unfolding varint_from
step b bs k v q e = first_byte bs (push base k v b) ∙ ap (after bs) e

-- what is left after n bytes, as the code has it
abbrev pub tail : ℕ → List ℕ → List ℕ
tail n bs = take (length bs - n) (drop n bs)

pub tail_is : (n : ℕ) (bs : List ℕ) → tail n bs ≡ drop n bs
tail_is n bs = take_all (length bs - n) (drop n bs) (omega (arith, length-drop n bs))

-- the first byte goes on, ends or overruns, or there is none
turn : (bs : List ℕ) (k v : ℕ) (q : Push) → 1 ≤ length bs → push base k v (get_or bs 0 0) ≡ q → varint_from base k v bs ≡ after (tail 1 bs) q
turn [] k v q h e = absurd (omega arith)
turn (b ∷ bs) k v q h e = step b bs k v q e ∙ ap (λ (l : List ℕ). after l q) (sym (tail_is 1 (b ∷ bs)))

module _ (bs : List ℕ) (k v : ℕ) (h : 1 ≤ length bs) where
  pub on : (k' v' : ℕ) → push base k v (get_or bs 0 0) ≡ more k' v' → varint_from base k v bs ≡ varint_from base k' v' (tail 1 bs)
  unfolding after
  on k' v' e = turn bs k v (more k' v') h e

  pub done : (n : ℕ) → push base k v (get_or bs 0 0) ≡ value n → varint_from base k v bs ≡ whole n (tail 1 bs)
  unfolding after
  done n e = turn bs k v (value n) h e

  pub over : push base k v (get_or bs 0 0) ≡ overrun → varint_from base k v bs ≡ broken (tail 1 bs)
  unfolding after
  over e = turn bs k v overrun h e

pub out : (bs : List ℕ) (k v : ℕ) → length bs < 1 → varint_from base k v bs ≡ short
unfolding varint_from
out [] k v h = refl
out (b ∷ bs) k v h = absurd (omega arith)

-- the value of one byte
pub one : (bs : List ℕ) → 1 ≤ length bs → get_or bs 0 0 < 128 → varint base bs ≡ whole (get_or bs 0 0) (tail 1 bs)
one bs h l =
    let e : 0 + digit 0 (get_or bs 0 0) ≡ get_or bs 0 0 = omega (arith, mod-eq_of_lt l) in
    done bs 0 0 h (get_or bs 0 0) (steps.ends base 0 0 (get_or bs 0 0) (lit< tt) l ∙ ap value e)

-- and of two
pub two : (bs : List ℕ) → 128 ≤ get_or bs 0 0 → 2 ≤ length bs → get_or bs 1 0 < 128 → varint base bs ≡ whole (get_or bs 0 0 % 128 + get_or bs 1 0 * 128) (tail 2 bs)
unfolding after
two [] g h l = absurd (omega arith)
two (b ∷ []) g h l = absurd (omega arith)
two (b ∷ c ∷ bs) g h l =
    let e : 0 + digit 0 b + digit 1 c ≡ b % 128 + c * 128 = omega (arith, mod-eq_of_lt l) in
    step b (c ∷ bs) 0 0 (more 1 (0 + digit 0 b)) (steps.goes_on base 0 0 b (lit< tt) g)
    ∙ step c bs 1 (0 + digit 0 b) (value (b % 128 + c * 128)) (steps.ends base 1 (0 + digit 0 b) c (lit< tt) l ∙ ap value e)
    ∙ ap (whole (b % 128 + c * 128)) (sym (tail_is 2 (b ∷ c ∷ bs)))

-- and of three
pub three : (bs : List ℕ) → 128 ≤ get_or bs 0 0 → 128 ≤ get_or bs 1 0 → 3 ≤ length bs → get_or bs 2 0 < 128 →
    varint base bs ≡ whole (get_or bs 0 0 % 128 + get_or bs 1 0 % 128 * 128 + get_or bs 2 0 * 16384) (tail 3 bs)
unfolding after
three [] g f h l = absurd (omega arith)
three (b ∷ []) g f h l = absurd (omega arith)
three (b ∷ c ∷ []) g f h l = absurd (omega arith)
three (b ∷ c ∷ d ∷ bs) g f h l =
    let e : 0 + digit 0 b + digit 1 c + digit 2 d ≡ b % 128 + c % 128 * 128 + d * 16384 = omega (arith, mod-eq_of_lt l) in
    step b (c ∷ d ∷ bs) 0 0 (more 1 (0 + digit 0 b)) (steps.goes_on base 0 0 b (lit< tt) g)
    ∙ step c (d ∷ bs) 1 (0 + digit 0 b) (more 2 (0 + digit 0 b + digit 1 c)) (steps.goes_on base 1 (0 + digit 0 b) c (lit< tt) f)
    ∙ step d bs 2 (0 + digit 0 b + digit 1 c) (value (b % 128 + c % 128 * 128 + d * 16384)) (steps.ends base 2 (0 + digit 0 b + digit 1 c) d (lit< tt) l ∙ ap value e)
    ∙ ap (whole (b % 128 + c % 128 * 128 + d * 16384)) (sym (tail_is 3 (b ∷ c ∷ d ∷ bs)))

-- their ends
module _ (d : ℕ) (bs : List ℕ) where
  pub one_ends : 1 ≤ length bs → get_or bs 0 0 < 128 → ends d (varint base bs) ≡ whole d (tail 1 bs)
  unfolding ends
  one_ends h l = ap (ends d) (one bs h l)

  pub two_ends : 128 ≤ get_or bs 0 0 → 2 ≤ length bs → get_or bs 1 0 < 128 → ends d (varint base bs) ≡ whole d (tail 2 bs)
  unfolding ends
  two_ends g h l = ap (ends d) (two bs g h l)

-- ---- a varint under way: some of its bytes came to a state, and the rest is read from there on

pub record Under (bs rest : List ℕ) (a : Acc) : Type 0 where
  pub sound : Sound base a
  pub same : varint base bs ≡ varint_from base a.taken a.value rest

module _ {bs rest : List ℕ} {a : Acc} (u : Under bs rest a) where
  pub under_more : (n : Acc) → 1 ≤ length rest → pushed base a (get_or rest 0 0) ≡ More n → Under bs (tail 1 rest) n
  under_more n h e =
      record {
        sound = sound_more base a (get_or rest 0 0) n u.sound e;
        same = u.same ∙ on rest a.taken a.value h n.taken n.value (layout_step base a (get_or rest 0 0) u.sound ∙ ap unanswer e);
      }

  pub under_value : (v : ℕ) → 1 ≤ length rest → pushed base a (get_or rest 0 0) ≡ Value v → varint base bs ≡ whole v (tail 1 rest)
  under_value v h e = u.same ∙ done rest a.taken a.value h v (layout_step base a (get_or rest 0 0) u.sound ∙ ap unanswer e)

  pub under_over : 1 ≤ length rest → pushed base a (get_or rest 0 0) ≡ Overlong → varint base bs ≡ broken (tail 1 rest)
  under_over h e = u.same ∙ over rest a.taken a.value h (layout_step base a (get_or rest 0 0) u.sound ∙ ap unanswer e)

  pub under_end : length rest < 1 → varint base bs ≡ short
  under_end h = u.same ∙ out rest a.taken a.value h

-- within a varint whose value is not asked for, after k bytes
pub record Skipping (bs rest : List ℕ) (k : ℕ) : Type 0 where
  pub few : k ≤ last_byte base
  pub value : ℕ
  pub same : varint base bs ≡ varint_from base k value rest

module _ {bs rest : List ℕ} {k : ℕ} (s : Skipping bs rest k) where
  pub skipping_short : length rest < 1 → (d : ℕ) → ends d (varint base bs) ≡ short
  unfolding ends
  skipping_short h d = ap (ends d) (s.same ∙ out rest k s.value h)

  module _ (h : 1 ≤ length rest) where
    -- this byte goes on
    pub skipping_more : k < last_byte base → 128 ≤ get_or rest 0 0 → Skipping bs (tail 1 rest) (k + 1)
    skipping_more l g =
        let b = get_or rest 0 0 in
        record {
          few = omega arith;
          value = s.value + digit k b;
          same = s.same ∙ on rest k s.value h (k + 1) (s.value + digit k b) (steps.goes_on base k s.value b l g);
        }

    -- it ends it
    ending : (n : ℕ) → push base k s.value (get_or rest 0 0) ≡ value n → (d : ℕ) → ends d (varint base bs) ≡ whole d (tail 1 rest)
    unfolding ends
    ending n e d = ap (ends d) (s.same ∙ done rest k s.value h n e)

    pub skipping_ends : k < last_byte base → get_or rest 0 0 < 128 → (d : ℕ) → ends d (varint base bs) ≡ whole d (tail 1 rest)
    skipping_ends l g = ending _ (steps.ends base k s.value (get_or rest 0 0) l g)

    pub skipping_last : last_byte base ≤ k → get_or rest 0 0 ≤ 1 → (d : ℕ) → ends d (varint base bs) ≡ whole d (tail 1 rest)
    skipping_last l g = ending _ (steps.ends_last base k s.value (get_or rest 0 0) l (omega arith))

    -- or is one too many
    pub skipping_over : last_byte base ≤ k → 1 < get_or rest 0 0 → (d : ℕ) → ends d (varint base bs) ≡ broken (tail 1 rest)
    unfolding ends
    skipping_over l g d = ap (ends d) (s.same ∙ over rest k s.value h (steps.overruns base k s.value (get_or rest 0 0) l g))
