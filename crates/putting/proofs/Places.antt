-- An output that goes on from a place: what is out already alters nothing, and two segments in a row are one.
use mathlib.Core.Path.{◌≡◌, refl, sym, ap, ◌∙◌}
use mathlib.Core.List.{List, [], ◌++◌}
use mathlib.Core.Bool.{Bool, true, false}
use Prim.Native.Nat.{ℕ, ◌+◌, ◌-◌, ◌≤◌, ◌<◌, min}
use native.Mathlib.Omega.{arith}
use lib.Dec.{leb}
use lib.ListN.{length, drop, length-drop, drop_of_length-le}
use lib.Seq.{drop-append-le, drop-append-add}
use borrow.Author.Tests.{leb-true, leb-false}
use Rattle.putting.specs.Put.{put, reached, put_from, reached_from}
use Rattle.putting.proofs.Writes.{put-none, reached_is, put_twice, reached_twice}

-- ---- a segment that is out already

module _ (d : List ℕ) (at skip : ℕ) (s : List ℕ) (h : length s ≤ skip) where
  none : length (drop skip s) ≡ 0
  none = omega (arith, length-drop skip s)

  pub same_where_out : put_from d at skip s ≡ d
  same_where_out = put-none d at (drop skip s) none

  pub stays_where_out : reached_from d at skip s ≡ at
  stays_where_out = let z = none in let r : at + min (length (drop skip s)) (length d - at) ≡ at = omega arith in reached_is d at (drop skip s) ∙ r

-- ---- segments in a row

drop-append : (p : ℕ) (s t : List ℕ) → drop p s ++ drop (p - length s) t ≡ drop p (s ++ t)
drop-append p s t = go (leb p (length s)) refl
  where
    go : (b : Bool) → leb p (length s) ≡ b → drop p s ++ drop (p - length s) t ≡ drop p (s ++ t)
    go true q =
        let h : p ≤ length s = leb-true _ _ q in
        let z : p - length s ≡ 0 = omega arith in
        ap (λ (k : ℕ). drop p s ++ drop k t) z ∙ sym (drop-append-le p s t h)
    go false q =
        let h : length s < p = leb-false _ _ q in
        let m : p ≡ length s + (p - length s) = omega arith in
        let e : drop p s ≡ [] = drop_of_length-le s {i = p} (omega arith) in
        ap (λ (l : List ℕ). l ++ drop (p - length s) t) e ∙ sym (drop-append-add s t (p - length s)) ∙ ap (λ (k : ℕ). drop k (s ++ t)) (sym m)

module _ (d : List ℕ) (at skip : ℕ) (s : List ℕ) where
  pub put_from_twice : (t : List ℕ) → put_from (put_from d at skip s) (reached_from d at skip s) (skip - length s) t ≡ put_from d at skip (s ++ t)
  put_from_twice t = put_twice d at (drop skip s) (drop (skip - length s) t) ∙ ap (put d at) (drop-append skip s t)

  pub reached_from_twice : (t : List ℕ) → reached_from (put_from d at skip s) (reached_from d at skip s) (skip - length s) t ≡ reached_from d at skip (s ++ t)
  reached_from_twice t = reached_twice d at (drop skip s) (drop (skip - length s) t) ∙ ap (reached d at) (drop-append skip s t)
