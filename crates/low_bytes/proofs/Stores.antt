-- A part of a buffer written at once: as much of a list as there is room for.
use mathlib.Core.Path.{◌≡◌, sym, ap, ◌∙◌}
use mathlib.Core.List.{List, ◌++◌}
use Prim.Native.Nat.{ℕ, ◌+◌, ◌-◌, ◌≤◌, min}
use native.Mathlib.Omega.{arith}
use borrow.Rule.Slice.PartMut.{put_mid}
use lib.ListN.{length, take, drop, length-take}
use lib.Seq.{drop-drop}
use Rattle.std.proofs.lemmas.List.{take_min}
use Rattle.putting.specs.Put.{over, Puts}
use Rattle.putting.proofs.Writes.{put_is, reached_is}

pub stored : (b : List ℕ) (pos : ℕ) (s d : List ℕ) (n k : ℕ) → pos ≤ length b → n ≡ min (length s) (length b - pos) → k ≡ n → d ≡ take n s
    → Puts b pos s (put_mid pos k b d) (pos + n)
unfolding over
stored b pos s d n k h e q w =
    let room : n ≡ min (length b - pos) (length s) = omega arith in
    let some : List ℕ = take (length b - pos) s in
    let part : d ≡ some = w ∙ ap (λ (j : ℕ). take j s) room ∙ take_min (length b - pos) s in
    let after : pos + k ≡ pos + length some = omega (arith, length-take (length b - pos) s) in (
      ap (λ (j : ℕ). pos + j) e ∙ sym (reached_is b pos s),
      ap (λ (t : List ℕ). take pos b ++ (t ++ drop k (drop pos b))) part ∙ ap (λ (t : List ℕ). take pos b ++ (some ++ t)) (drop-drop k pos b ∙ ap (λ (j : ℕ). drop j b) after) ∙ sym (put_is b pos s),
    )
