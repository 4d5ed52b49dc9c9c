-- What is known of an answer that was taken apart by a `?`: where it stops, so does all that follows; else the value, which may be tested.
-- And varints in a row.
use Prim.Native.Nat.{ℕ, suc, ◌+◌, ◌-◌, ◌*◌, ◌/◌, ◌%◌, ◌≤◌, ◌<◌}
use mathlib.Core.Path.{◌≡◌, refl, sym, ap, ◌∙◌, subst}
use mathlib.Core.Bool.{Bool, true, false}
use mathlib.Core.List.{List}
use native.Mathlib.Omega.{arith}
use lib.ListN.{length, get_or}
use native.Mathlib.Nat.{mod-lt}
use lib.Dec.{leb, lit<}
use borrow.Author.Tests.{le-leb}
use Rattle.std.specs.Prelude.{Result, Err, IsErr, IsErrAnd}
use Rattle.std.proofs.lemmas.Result.{err_from_is_err_and}
use Rattle.layout.specs.Limits.{base, pick}
use Rattle.layout.specs.Varint.{Outcome, whole, short, broken, varint}
use Rattle.layout.specs.Message.{checked, header_of}
use Rattle.passing.specs.declared.Stop.{Stop}
use Rattle.passing.specs.declared.Stop.TheVariants.{Short, Broken}
use Rattle.passing.proofs.Varints.{tail, one, two, three}
use Rattle.passing.specs.Passing.{Rest, stop_in, Passes, ends, followed, skips}

-- what a `?` passes on is the reason that it met
pub passed_on : {A P : Type 0} (Q : Result A (Stop P) → Type 0) (r : Result A (Stop P)) (s : Stop P) → IsErr r × IsErrAnd r (λ e. e ≡ s) → Q (Err s) → Q r
passed_on Q r s h p = let q = err_from_is_err_and r h.1 in subst Q (sym (q.1 ∙ ap Err q.2)) p

-- Where an answer stops, so does every answer on what follows it.
pub stopped : {B D : Type 0} {o : Outcome B} (s : Stop Rest) (k : Outcome B → Outcome D) → k short ≡ short → ((bs : List ℕ) → k (broken bs) ≡ broken bs) → o ≡ stop_in s → k o ≡ stop_in s
stopped Short k e f c = ap k c ∙ e
stopped (Broken p) k e f c = ap k c ∙ f _

-- ---- a value that is tested

module _ (ok : ℕ → Bool) {o : Outcome ℕ} where
  pub checked_passes : {v : ℕ} {rest : List ℕ} → o ≡ whole v rest → ok v ≡ true → checked ok o ≡ whole v rest
  unfolding checked
  checked_passes {v} {rest} r q = ap (checked ok) r ∙ ap (λ (b : Bool). pick b (whole v rest) (broken rest)) q

  pub checked_fails : {v : ℕ} {rest : List ℕ} → o ≡ whole v rest → ok v ≡ false → checked ok o ≡ broken rest
  unfolding checked
  checked_fails {v} {rest} r q = ap (checked ok) r ∙ ap (λ (b : Bool). pick b (whole v rest) (broken rest)) q

  -- no value found: a test changes nothing
  pub checked_stops : (s : Stop Rest) → o ≡ stop_in s → checked ok o ≡ stop_in s
  unfolding checked
  checked_stops s r = stopped s (checked ok) refl (λ bs. refl) r

-- a header of one byte, two or three has a small id
small_header : (bs rest : List ℕ) (v : ℕ) → varint base bs ≡ whole v rest → v < 2097152 → header_of base bs ≡ whole v rest
small_header bs rest v e l = checked_passes (λ h. leb (h / 8) base.id) e (le-leb (v / 8) base.id (omega arith))

pub one_header : (bs : List ℕ) → 1 ≤ length bs → get_or bs 0 0 < 128 → header_of base bs ≡ whole (get_or bs 0 0) (tail 1 bs)
one_header bs h l = small_header bs (tail 1 bs) (get_or bs 0 0) (one bs h l) (omega arith)

pub two_header : (bs : List ℕ) → 128 ≤ get_or bs 0 0 → 2 ≤ length bs → get_or bs 1 0 < 128 →
    header_of base bs ≡ whole (get_or bs 0 0 % 128 + get_or bs 1 0 * 128) (tail 2 bs)
two_header bs g h l =
    small_header bs (tail 2 bs) (get_or bs 0 0 % 128 + get_or bs 1 0 * 128) (two bs g h l) (omega (arith, mod-lt (get_or bs 0 0) {m = 128} (lit< tt)))

pub three_header : (bs : List ℕ) → 128 ≤ get_or bs 0 0 → 128 ≤ get_or bs 1 0 → 3 ≤ length bs → get_or bs 2 0 < 128 →
    header_of base bs ≡ whole (get_or bs 0 0 % 128 + get_or bs 1 0 % 128 * 128 + get_or bs 2 0 * 16384) (tail 3 bs)
three_header bs g f h l =
    let m = mod-lt (get_or bs 0 0) {m = 128} (lit< tt) in
    let n = mod-lt (get_or bs 1 0) {m = 128} (lit< tt) in
    small_header bs (tail 3 bs) (get_or bs 0 0 % 128 + get_or bs 1 0 % 128 * 128 + get_or bs 2 0 * 16384) (three bs g f h l) (omega arith)

-- ---- varints in a row: n of them, of which the last n - k are still to come

one_more : (d n k : ℕ) (bs : List ℕ) → k < n → skips base d (n - k) bs ≡ followed (ends d (varint base bs)) (skips base d (n - (k + 1)))
unfolding skips
one_more d n k bs h =
    let e : n - k ≡ suc (n - (k + 1)) = omega arith in
    ap (λ (m : ℕ). skips base d m bs) e

module _ (bs rest : List ℕ) (n k : ℕ) (s : (d : ℕ) → skips base d n bs ≡ skips base d (n - k) rest) where
  pub skipped_next : {after : List ℕ} → k < n → ((d : ℕ) → ends d (varint base rest) ≡ whole d after) → (d : ℕ) → skips base d n bs ≡ skips base d (n - (k + 1)) after
  unfolding followed
  skipped_next h q d = s d ∙ one_more d n k rest h ∙ ap (λ (o : Outcome ℕ). followed o (skips base d (n - (k + 1)))) (q d)

  pub skipped_stops : k < n → (e : Stop Rest) → Passes (λ d. ends d (varint base rest)) (Err e) → Passes (λ d. skips base d n bs) (Err e)
  unfolding followed
  skipped_stops h e q d = s d ∙ one_more d n k rest h ∙ stopped e (λ o. followed o (skips base d (n - (k + 1)))) refl (λ bs. refl) (q d)

  pub skipped_end : n ≤ k → (d : ℕ) → skips base d n bs ≡ whole d rest
  unfolding skips
  skipped_end h d =
      let e : n - k ≡ 0 = omega arith in
      s d ∙ ap (λ (m : ℕ). skips base d m rest) e
