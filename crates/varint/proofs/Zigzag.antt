-- Zigzag and back are each other's inverse, on every integer.
use Rattle.std.proofs.Common.{◌≡◌, ℕ, ◌+◌, ◌*◌, ◌/◌, ◌%◌, Bool, true, false, eqb, ℤ, pos, negsuc, refl, ap, ◌∙◌, arith, eq-eqb, ne_eqb, eqb-true}
use borrow.Author.Tests.{eqb-false}
use Rattle.layout.specs.Zigzag.{zigzag, unzigzag}

-- an even number and an odd one
pub unzigzag_even : (u : ℕ) → u % 2 ≡ 0 → unzigzag u ≡ pos (u / 2)
unzigzag_even u e = simp (eq-eqb _ _ e)

pub unzigzag_odd : (u : ℕ) → u % 2 ≡ 1 → unzigzag u ≡ negsuc (u / 2)
unzigzag_odd u e = simp (ne_eqb (u % 2) 0 (λ z. omega arith))

pub unzigzag-zigzag : (z : ℤ) → unzigzag (zigzag z) ≡ z
unzigzag-zigzag (pos n) = let e : 2 * n / 2 ≡ n = omega arith in unzigzag_even (2 * n) (omega arith) ∙ ap pos e
unzigzag-zigzag (negsuc n) = let e : (2 * n + 1) / 2 ≡ n = omega arith in unzigzag_odd (2 * n + 1) (omega arith) ∙ ap negsuc e

-- by the last bit
pub by_parity : (P : ℕ → Type 0) (u : ℕ) → (u % 2 ≡ 0 → P u) → (u % 2 ≡ 1 → P u) → P u
by_parity P u f g = go (eqb (u % 2) 0) refl
  where
    go : (b : Bool) → eqb (u % 2) 0 ≡ b → P u
    go true q = f (eqb-true _ _ q)
    go false q = let n : u % 2 ≡ 0 → ⊥ = eqb-false _ _ q in g (omega arith)

pub zigzag-unzigzag : (u : ℕ) → zigzag (unzigzag u) ≡ u
zigzag-unzigzag u = by_parity (λ (u : ℕ). zigzag (unzigzag u) ≡ u) u even odd
  where
    even : u % 2 ≡ 0 → zigzag (unzigzag u) ≡ u
    even e = let f : 2 * (u / 2) ≡ u = omega arith in ap zigzag (unzigzag_even u e) ∙ f

    odd : u % 2 ≡ 1 → zigzag (unzigzag u) ≡ u
    odd e = let f : 2 * (u / 2) + 1 ≡ u = omega arith in ap zigzag (unzigzag_odd u e) ∙ f
