-- NaN patterns as the code tests for them, at both formats.
use mathlib.Core.Path.{◌≡◌, refl, sym, ◌∙◌, subst}
use mathlib.Core.Bool.{Bool, true, false, not}
use Prim.Native.Nat.{ℕ, ◌*◌, ◌%◌, ◌<◌, ◌≤◌}
use lib.Dec.{T}
use lib.Ieee.{Float, Format, nan, inf, fin, nan_bits, is_nan, to_bits, ones, hid, top}
use lib.Ieee.Bits.{nan_bits_above}
use borrow.Author.Tests.{lt-ltb, le-ltb}

pub above_nan : (f : Format) (n : ℕ) → ones f * hid f < n % top f → nan_bits f n ≡ true
above_nan f n h = nan_bits_above f n ∙ lt-ltb _ _ h

pub below_nan : (f : Format) (n : ℕ) → n % top f ≤ ones f * hid f → nan_bits f n ≡ false
below_nan f n h = nan_bits_above f n ∙ le-ltb _ _ h

pub no_nan : (f : Format) (n : ℕ) → n % top f ≤ ones f * hid f → T (not (nan_bits f n))
no_nan f n h = subst (λ (b : Bool). T (not b)) (sym (below_nan f n h)) tt

-- every NaN has the bits of one
pub bits_of_nan : (f : Format) (x : Float) → is_nan x ≡ true → to_bits f nan ≡ to_bits f x
unfolding is_nan
bits_of_nan f nan e = refl
bits_of_nan f (inf s) e = cc
bits_of_nan f (fin s m z) e = cc
