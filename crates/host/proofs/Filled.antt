-- What is promised of an output: by whether there is room for the copy, and of one block of bytes written from its start.
use Prim.Native.Nat.{ℕ, ◌+◌, ◌-◌, ◌<◌, ◌≤◌, min}
use native.Mathlib.Omega.{arith}
use mathlib.Core.Path.{◌≡◌, sym, ap, ◌∙◌}
use mathlib.Core.Bool.{true, false}
use mathlib.Core.List.{List, ◌++◌, append-nil}
use lib.IntN.{pos, negsuc}
use lib.ListN.{length, take, drop, length-take}
use lib.Seq.{drop-length, take_all}
use mir.Facts.{to_z_pos}
use mir.Syntax.{w64}
use mir.Val.{to_z}
use borrow.Author.Tests.{le-leb, lt-leb}
use Rattle.putting.specs.Put.{over, put, reached}
use Rattle.putting.proofs.Writes.{reached_is}
use Rattle.exports.specs.Exports.{result_of, room, enough, filled}

all : (b : List ℕ) → length b < 9223372036854775808 → room b ≡ length b
all b s = omega arith

-- room for just the copy is enough, and less is not
is_enough : (m b : List ℕ) → length b < 9223372036854775808 → length m ≤ length b → enough m b ≡ true
is_enough m b s l = le-leb (length m) (room b) (omega (arith, all b s))

not_enough : (m b : List ℕ) → length b < 9223372036854775808 → length b < length m → enough m b ≡ false
not_enough m b s l = lt-leb (length m) (room b) (omega (arith, all b s))

-- The copy, and the rest of the output as it came.
pub fitting : (m b : List ℕ) → length b < 9223372036854775808 → length m ≤ length b → filled m b ≡ result_of (pos (length m)) (m ++ drop (length m) b)
unfolding filled
fitting m b s l = simp (is_enough m b s l)

-- Every byte of the output is the copy's.
pub too_short : (m b : List ℕ) → length b < 9223372036854775808 → length b < length m → filled m b ≡ result_of (negsuc 100) (take (length b) m)
unfolding filled
too_short m b s l =
    let d : take (room b) m ++ drop (room b) b ≡ take (length b) m =
    ap (λ (n : ℕ). take n m ++ drop n b) (all b s) ∙ ap (λ (y : List ℕ). take (length b) m ++ y) (drop-length b) ∙ append-nil (take (length b) m) in
    simp (not_enough m b s l) (ap (result_of (negsuc 100)) d)

-- ---- one block

-- as much of it as there is room for, and the rest of the output as it came
stands : (T b : List ℕ) → put b 0 T ≡ take (length b) T ++ drop (length (take (length b) T)) b
unfolding put over
stands T b =
    let z : length b - 0 ≡ length b = omega arith in
    let y : 0 + length (take (length b) T) ≡ length (take (length b) T) = omega arith in
    ap (λ (n : ℕ). take n T ++ drop (0 + length (take n T)) b) z ∙ ap (λ (k : ℕ). take (length b) T ++ drop k b) y

module _ (T b : List ℕ) (s : length b < 9223372036854775808) (end : ℕ) (b' : List ℕ) (w : (end ≡ reached b 0 T) × (b' ≡ put b 0 T)) where
  end_is : end ≡ 0 + min (length T) (length b - 0)
  end_is = w.0 ∙ reached_is b 0 T

  -- a length is one that an answer can name
  pub block_small : end < 9223372036854775808
  block_small = omega (arith, end_is)

  pub block_whole : length T ≤ end → result_of (to_z w64 end) b' ≡ filled T b
  block_whole h =
      let l : length T ≤ length b = omega (arith, end_is) in
      let e : end ≡ length T = omega (arith, end_is) in
      let n : to_z w64 end ≡ pos (length T) = to_z_pos w64 block_small ∙ ap pos e in
      let d : b' ≡ T ++ drop (length T) b = w.1 ∙ stands T b ∙ ap (λ (x : List ℕ). x ++ drop (length x) b) (take_all (length b) T l) in
      (λ i. result_of (n i) (d i)) ∙ sym (fitting T b s l)

  pub block_start : end < length T → result_of (negsuc 100) b' ≡ filled T b
  block_start h =
      let l : length b < length T = omega (arith, end_is) in
      let n : length (take (length b) T) ≡ length b = omega (arith, length-take (length b) T) in
      let d : b' ≡ take (length b) T =
      w.1 ∙ stands T b ∙ ap (λ (k : ℕ). take (length b) T ++ drop k b) n ∙ ap (λ (y : List ℕ). take (length b) T ++ y) (drop-length b) ∙ append-nil (take (length b) T) in
      ap (result_of (negsuc 100)) d ∙ sym (too_short T b s l)
