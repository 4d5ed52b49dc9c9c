-- A writer that holds no id: its eight places are zero exactly where their sum is.
use Prim.Native.Nat.{ℕ, zero, suc, ◌+◌, ◌≤◌}
use native.Mathlib.Omega.{arith}
use mathlib.Core.Path.{◌≡◌, refl, sym, ap, ◌∙◌}
use mathlib.Core.Bool.{Bool, true, false, ◌&&◌}
use mathlib.Core.List.{List, [], ◌∷◌}
use lib.Dec.{eqb}
use lib.ListN.{length, get_or}
use borrow.Author.Tests.{eqb-true, eqb-false, le-leb}
use Rattle.layout.specs.Limits.{base}
use Rattle.places.specs.Places.{every, lazy_depth, sound_for}
use Rattle.places.proofs.Places.{both}

abbrev pub sum_of : List ℕ → ℕ
sum_of l = get_or l 0 0 + get_or l 1 0 + get_or l 2 0 + get_or l 3 0 + (get_or l 4 0 + get_or l 5 0 + get_or l 6 0 + get_or l 7 0)

abbrev Zeros : List ℕ → Bool
Zeros l = every (λ x. eqb x 0) l

no_place : (x : ℕ) (t : Bool) → x ≡ 0 → (eqb x 0 && t) ≡ t
no_place x t e = ap (λ (y : ℕ). eqb y 0 && t) e

-- a sum of 0
pub none_used : (l : List ℕ) → length l ≡ lazy_depth → sum_of l ≡ 0 → Zeros l ≡ true
unfolding every
none_used (a ∷ b ∷ c ∷ d ∷ e ∷ f ∷ g ∷ h ∷ []) n s =
    no_place a _ (omega arith) ∙ no_place b _ (omega arith) ∙ no_place c _ (omega arith) ∙ no_place d _ (omega arith)
    ∙ no_place e _ (omega arith) ∙ no_place f _ (omega arith) ∙ no_place g _ (omega arith) ∙ no_place h _ (omega arith)
none_used [] n s = absurd (omega arith)
none_used (a ∷ []) n s = absurd (omega arith)
none_used (a ∷ b ∷ []) n s = absurd (omega arith)
none_used (a ∷ b ∷ c ∷ []) n s = absurd (omega arith)
none_used (a ∷ b ∷ c ∷ d ∷ []) n s = absurd (omega arith)
none_used (a ∷ b ∷ c ∷ d ∷ e ∷ []) n s = absurd (omega arith)
none_used (a ∷ b ∷ c ∷ d ∷ e ∷ f ∷ []) n s = absurd (omega arith)
none_used (a ∷ b ∷ c ∷ d ∷ e ∷ f ∷ g ∷ []) n s = absurd (omega arith)
none_used (a ∷ b ∷ c ∷ d ∷ e ∷ f ∷ g ∷ h ∷ i ∷ l) n s = absurd (omega arith)

-- zeros have a sum of 0
zero_at : (l : List ℕ) (i : ℕ) → Zeros l ≡ true → get_or l i 0 ≡ 0
unfolding every
zero_at [] i e = refl
zero_at (x ∷ xs) zero e = eqb-true x 0 (both (eqb x 0) (Zeros xs) e).0
zero_at (x ∷ xs) (suc i) e = zero_at xs i (both (eqb x 0) (Zeros xs) e).1

pub some_used : (l : List ℕ) → (sum_of l ≡ 0 → ⊥) → Zeros l ≡ false
some_used l h = go (Zeros l) refl
  where
    go : (t : Bool) → Zeros l ≡ t → t ≡ false
    go true e = absurd (h (omega (arith, zero_at l 0 e, zero_at l 1 e, zero_at l 2 e, zero_at l 3 e, zero_at l 4 e, zero_at l 5 e, zero_at l 6 e, zero_at l 7 e)))
    go false e = refl

-- the test of a writer that holds none, at a sound offset and depth
module _ (offset depth : ℕ) (l : List ℕ) (size : ℕ) where
  pub rested : (t : Bool) → offset ≤ size → depth ≤ base.depth → Zeros l ≡ t → sound_for offset depth 0 l size ≡ t
  unfolding every
  rested t a d e = simp (le-leb offset size a, le-leb 0 depth (omega arith), le-leb depth base.depth d) e

  -- by the sum of all places
  pub all_rested : (x : ℕ) → length l ≡ lazy_depth → offset ≤ size → depth ≤ base.depth → x ≡ sum_of l → eqb x 0 ≡ sound_for offset depth 0 l size
  all_rested x n a d e = go (eqb x 0) refl
    where
      go : (t : Bool) → eqb x 0 ≡ t → t ≡ sound_for offset depth 0 l size
      go true z = sym (rested true a d (none_used l n (sym e ∙ eqb-true x 0 z)))
      go false z = sym (rested false a d (some_used l (λ y. eqb-false x 0 z (e ∙ y))))
