-- What an answer leaves is a rest of the bytes that came in, and where a varint was passed, it is at least a byte shorter. So passing goes
-- on, and not beyond the end. The contracts say what is left as the layout's reader has it (`Reaches`, `Passes`). The laws here say what
-- that is: `varint_left` to `hop_left` for the reader, and `reaches_left` and `passes_left` for an answer that a contract is about.
use Prim.Native.Nat.{ℕ, zero, suc, ◌+◌, ◌/◌, ◌≤◌}
use mathlib.Core.Path.{◌≡◌, refl, ap, ◌∙◌, subst}
use mathlib.Core.Bool.{Bool, true, false}
use mathlib.Core.List.{List, [], ◌∷◌}
use native.Mathlib.Omega.{arith}
use lib.Dec.{leb}
use lib.ListN.{length, drop, length-drop}
use borrow.Author.Tests.{leb-true}
use Rattle.std.proofs.lemmas.List.{drop-drop}
use Rattle.std.specs.Prelude.{Result, Ok, Err}
use Rattle.layout.specs.Limits.{Limits, pick}
use Rattle.layout.specs.Varint.{Outcome, whole, short, broken, Push, more, value, overrun, push, varint_from, varint}
use Rattle.layout.specs.Message.{checked, header_of, count_of}
use Rattle.passing.specs.declared.Stop.{Stop}
use Rattle.passing.specs.declared.Stop.TheVariants.{Short, Broken}
use Rattle.passing.specs.Passing.{Rest, outcome_in, Reaches, Passes, ends, followed, skips, hop}

-- r is what is left of bs after some bytes, of which there are at least `least`
pub record LeftOf (bs r : List ℕ) (least : ℕ) : Type 0 where
  pub passed : ℕ
  pub enough : least ≤ passed
  pub within : passed ≤ length bs
  pub rest : r ≡ drop passed bs

abbrev pub outcome_left : {A : Type 0} → ℕ → List ℕ → Outcome A → Type 0
outcome_left least bs (whole a r) = LeftOf bs r least
outcome_left least bs short = Unit {0}
outcome_left least bs (broken r) = LeftOf bs r least

-- ---- rests of rests

pub all_left : (bs : List ℕ) → LeftOf bs bs 0
all_left bs = record { passed = 0; enough = omega arith; within = omega arith; rest = refl }

-- a byte before what came in
byte_before : (b : ℕ) {bs r : List ℕ} {least : ℕ} → LeftOf bs r least → LeftOf (b ∷ bs) r 1
byte_before b l = record { passed = suc l.passed; enough = omega arith; within = omega (arith, l.within); rest = l.rest }

-- a rest of a rest
left_again : {bs r s : List ℕ} {m n : ℕ} → LeftOf bs r m → LeftOf r s n → LeftOf bs s m
left_again {bs} {r} k l = record {
  passed = k.passed + l.passed;
  enough = omega (arith, k.enough);
  within = omega (arith, k.within, l.within, ap length k.rest, length-drop k.passed bs);
  rest = l.rest ∙ ap (drop l.passed) k.rest ∙ drop-drop l.passed k.passed bs;
}

-- fewer asked for
fewer : {bs r : List ℕ} {m n : ℕ} → n ≤ m → LeftOf bs r m → LeftOf bs r n
fewer h l = record { passed = l.passed; enough = omega (arith, h, l.enough); within = l.within; rest = l.rest }

-- the same for outcomes
pub outcome_before : {A : Type 0} (b : ℕ) (bs : List ℕ) (least : ℕ) (o : Outcome A) → outcome_left least bs o → outcome_left 1 (b ∷ bs) o
outcome_before b bs least (whole a r) l = byte_before b l
outcome_before b bs least short l = tt
outcome_before b bs least (broken r) l = byte_before b l

pub outcome_again : {A : Type 0} {bs r : List ℕ} {m : ℕ} (n : ℕ) → LeftOf bs r m → (o : Outcome A) → outcome_left n r o → outcome_left m bs o
outcome_again n k (whole a s) l = left_again k l
outcome_again n k short l = tt
outcome_again n k (broken s) l = left_again k l

pub outcome_fewer : {A : Type 0} (bs : List ℕ) {m n : ℕ} → n ≤ m → (o : Outcome A) → outcome_left m bs o → outcome_left n bs o
outcome_fewer bs h (whole a r) l = fewer h l
outcome_fewer bs h short l = tt
outcome_fewer bs h (broken r) l = fewer h l

-- ---- one varint

-- by what its first byte comes to
by_push : (L : Limits) (b : ℕ) (bs : List ℕ) → ((k v : ℕ) → outcome_left 1 bs (varint_from L k v bs)) → (q : Push)
    → outcome_left 1 (b ∷ bs) (elim q [ more k v ↦ varint_from L k v bs | value n ↦ whole n bs | overrun ↦ broken bs ])
by_push L b bs later (more k v) = outcome_before b bs 1 (varint_from L k v bs) (later k v)
by_push L b bs later (value n) = byte_before b (all_left bs)
by_push L b bs later overrun = byte_before b (all_left bs)

pub varint_from_left : (L : Limits) (bs : List ℕ) (k v : ℕ) → outcome_left 1 bs (varint_from L k v bs)
unfolding varint_from
varint_from_left L [] k v = tt
varint_from_left L (b ∷ bs) k v = by_push L b bs (varint_from_left L bs) (push L k v b)

pub varint_left : (L : Limits) (bs : List ℕ) → outcome_left 1 bs (varint L bs)
varint_left L bs = varint_from_left L bs 0 0

-- a test takes no byte
by_test : {A : Type 0} (a : A) {bs r : List ℕ} {least : ℕ}
    → LeftOf bs r least → (t : Bool) → outcome_left least bs (pick t (whole a r) (broken r))
by_test a l true = l
by_test a l false = l

checked_left : {A : Type 0} (ok : A → Bool) (bs : List ℕ) (least : ℕ) (o : Outcome A) → outcome_left least bs o
    → outcome_left least bs (checked ok o)
unfolding checked
checked_left ok bs least (whole a r) l = by_test a l (ok a)
checked_left ok bs least short l = tt
checked_left ok bs least (broken r) l = l

pub header_left : (L : Limits) (bs : List ℕ) → outcome_left 1 bs (header_of L bs)
header_left L bs = checked_left (λ h. leb (h / 8) L.id) bs 1 (varint L bs) (varint_left L bs)

pub count_left : (L : Limits) (bs : List ℕ) → outcome_left 1 bs (count_of L bs)
count_left L bs = checked_left (λ n. leb n L.count) bs 1 (varint L bs) (varint_left L bs)

-- ---- an end, varints in a row, and bytes

pub ends_left : {A : Type 0} (d : ℕ) (bs : List ℕ) (least : ℕ) (o : Outcome A) → outcome_left least bs o → outcome_left least bs (ends d o)
unfolding ends
ends_left d bs least (whole a r) l = l
ends_left d bs least short l = tt
ends_left d bs least (broken r) l = l

followed_left : (bs : List ℕ) (least : ℕ) (o : Outcome ℕ) (f : List ℕ → Outcome ℕ)
    → outcome_left least bs o → ((r : List ℕ) → outcome_left 0 r (f r)) → outcome_left least bs (followed o f)
unfolding followed
followed_left bs least (whole d r) f l g = outcome_again 0 l (f r) (g r)
followed_left bs least short f l g = tt
followed_left bs least (broken r) f l g = l

pub skips_left : (L : Limits) (d n : ℕ) (bs : List ℕ) → outcome_left 0 bs (skips L d n bs)
unfolding skips
skips_left L d zero bs = all_left bs
skips_left L d (suc n) bs =
    let h : 0 ≤ 1 = omega arith in
    let one : outcome_left 1 bs (ends d (varint L bs)) = ends_left d bs 1 (varint L bs) (varint_left L bs) in
    outcome_fewer bs h (followed (ends d (varint L bs)) (λ rest. skips L d n rest))
    (followed_left bs 1 (ends d (varint L bs)) (λ rest. skips L d n rest) one (λ rest. skips_left L d n rest))

by_length : (d n : ℕ) (bs : List ℕ) (t : Bool) → leb n (length bs) ≡ t → outcome_left 0 bs (pick t (whole d (drop n bs)) short)
by_length d n bs true e = record { passed = n; enough = omega arith; within = leb-true n (length bs) e; rest = refl }
by_length d n bs false e = tt

pub hop_left : (d n : ℕ) (bs : List ℕ) → outcome_left 0 bs (hop d n bs)
hop_left d n bs = by_length d n bs (leb n (length bs)) refl

-- ---- an answer of the code's

-- what it leaves, where it has bytes left
abbrev pub answer_left : {A : Type 0} → ℕ → List ℕ → (A → Rest) → Result A (Stop Rest) → Type 0
answer_left least bs left (Ok a) = LeftOf bs (left a).now least
answer_left least bs left (Err Short) = Unit {0}
answer_left least bs left (Err (Broken s)) = LeftOf bs s.now least

pub stands_for : {A B : Type 0} (what : A → B) (left : A → Rest) (least : ℕ) (bs : List ℕ) (r : Result A (Stop Rest))
    → outcome_left least bs (outcome_in what left r) → answer_left least bs left r
stands_for what left least bs (Ok a) l = l
stands_for what left least bs (Err Short) l = l
stands_for what left least bs (Err (Broken s)) l = l

pub reaches_left : (least : ℕ) (bs : List ℕ) (o : Outcome ℕ) (r : Result (ℕ × Rest) (Stop Rest)) → Reaches o r → outcome_left least bs o
    → answer_left least bs (λ f. f.1) r
reaches_left least bs o r e l = stands_for (λ f. f.0) (λ f. f.1) least bs r (subst (outcome_left least bs) e l)

pub passes_left : (least : ℕ) (bs : List ℕ) (o : ℕ → Outcome ℕ) (r : Result Rest (Stop Rest)) → Passes o r → outcome_left least bs (o 0)
    → answer_left least bs (λ s. s) r
passes_left least bs o r e l = stands_for (λ s. 0) (λ s. s) least bs r (subst (outcome_left least bs) (e 0) l)
