-- The last part of a buffer, written as a buffer of its own.
use mathlib.Core.Path.{◌≡◌, refl, sym, ap, ◌∙◌}
use mathlib.Core.List.{List, [], ◌∷◌, ◌++◌, append-nil}
use Prim.Native.Nat.{ℕ, zero, suc, ◌+◌, ◌-◌, ◌≤◌, min}
use native.Mathlib.Omega.{arith}
use borrow.Rule.Slice.PartMut.{put_mid}
use lib.ListN.{length, take, drop, length-drop}
use lib.Seq.{drop-drop, take_all}
use Rattle.putting.specs.Put.{over, Puts}
use Rattle.putting.proofs.Writes.{put_is, reached_is}

nothing : (xs : List ℕ) (n : ℕ) → length xs ≤ n → drop n xs ≡ []
nothing [] zero h = refl
nothing [] (suc n) h = refl
nothing (x ∷ xs) zero h = absurd (omega arith)
nothing (x ∷ xs) (suc n) h = nothing xs n (omega arith)

pub part_long : (b : List ℕ) (pos : ℕ) → pos ≤ length b → length (take (length b - pos) (drop pos b)) ≡ length b - pos
part_long b pos h = ap length (take_all (length b - pos) (drop pos b) (omega (arith, length-drop pos b))) ∙ length-drop pos b

pub part_put : (b o d : List ℕ) (pos end at : ℕ) → pos ≤ length b → at ≡ pos + end → Puts (take (length b - pos) (drop pos b)) 0 o d end → Puts b pos o (put_mid pos (length b - pos) b d) at
unfolding over
part_put b o d pos end at h e p =
    let r : List ℕ = take (length b - pos) (drop pos b) in
    let some : List ℕ = take (length b - pos) o in
    let same : r ≡ drop pos b = take_all (length b - pos) (drop pos b) (omega (arith, length-drop pos b)) in
    let long : length r ≡ length b - pos = part_long b pos h in
    let room : length r - 0 ≡ length b - pos = omega (arith, long) in
    let fits : take (length r - 0) o ≡ some = ap (λ (j : ℕ). take j o) room in
    let written : d ≡ some ++ drop (0 + length some) r = p.1 ∙ put_is r 0 o ∙ ap (λ (s : List ℕ). s ++ drop (0 + length s) r) fits in
    let past : pos + (0 + length some) ≡ pos + length some = omega arith in
    let behind : drop (0 + length some) r ≡ drop (pos + length some) b = ap (drop (0 + length some)) same ∙ drop-drop (0 + length some) pos b ∙ ap (λ (j : ℕ). drop j b) past in
    let tail : drop (length b - pos) (drop pos b) ≡ [] = nothing (drop pos b) (length b - pos) (omega (arith, length-drop pos b)) in (
      omega (arith, p.0, reached_is r 0 o, reached_is b pos o, long, e),
      ap (λ (t : List ℕ). take pos b ++ (d ++ t)) tail
          ∙ ap (λ (t : List ℕ). take pos b ++ t) (append-nil d ∙ written ∙ ap (λ (t : List ℕ). some ++ t) behind)
          ∙ sym (put_is b pos o),
    )
