-- Signed numbers of 64 bits and their bits: what a test of the sign says, and the bits flipped.
use Rattle.std.proofs.Common.{◌≡◌, ℕ, suc, ◌-◌, ◌^◌, ◌<◌, Bool, true, false, T, ℤ, pos, negsuc, nat_abs, sym, refl, ap, ◌∙◌, subst, true≢false, not-suc-le-zero, arith, w64, Fits, SFits, to_z, of_z, ltb-true}
use lib.Signed.{lt_z, non_neg}
use mir.ValLaws.{to_z-of_z}
use mir.Facts.{to_z_pos}

-- the sign, as the machine tests it
abbrev pub below0 : ℤ → Bool
below0 z = lt_z (to_z w64 (of_z w64 z)) (pos 0)

pub negative : (z : ℤ) → SFits w64 z → below0 z ≡ true → (n : ℕ) × (z ≡ negsuc n) × (n < 2 ^ 63)
negative (pos n) f t = let h : n < 0 = ltb-true n 0 (sym (ap (λ (z : ℤ). lt_z z (pos 0)) (to_z-of_z w64 (pos n) f)) ∙ t) in absurd (not-suc-le-zero h)
negative (negsuc n) f t = (n, refl, f.sfits)

pub natural : (z : ℤ) → SFits w64 z → below0 z ≡ false → (n : ℕ) × (z ≡ pos n) × (n < 2 ^ 63)
natural (pos n) f t = (n, refl, f.sfits)
natural (negsuc n) f t = absurd (true≢false (sym (ap (λ (z : ℤ). lt_z z (pos 0)) (to_z-of_z w64 (negsuc n) f)) ∙ t))

-- the bits of -(n + 1), flipped, are n's
pub flipped : (n : ℕ) → n < 2 ^ 63 → to_z w64 (2 ^ 64 - 1 - of_z w64 (negsuc n)) ≡ pos n
flipped n h = let e : 2 ^ 64 - 1 - (2 ^ 64 - suc n) ≡ n = omega arith in ap (to_z w64) e ∙ to_z_pos w64 h

-- what a cast to u64 asks, of a number that is not negative
pub casts : (z : ℤ) (n : ℕ) → z ≡ pos n → n < 2 ^ 63 → T (non_neg z) × Fits w64 (nat_abs z)
casts z n e h = subst (λ (z : ℤ). T (non_neg z) × Fits w64 (nat_abs z)) (sym e) (tt, record { fits = omega arith })
