-- Powers of 128, and what the last byte of a varint can hold.
use Prim.Native.Nat.{ℕ, zero, suc, ◌+◌, ◌-◌, ◌*◌, ◌^◌, ◌≤◌}
use mathlib.Core.Path.{◌≡◌, refl, sym, ap, ◌∙◌}
use native.Mathlib.Nat.{pow-suc}
use native.Mathlib.Omega.{arith}
use lib.Pow.{pow-add, pow_mono}
use Rattle.layout.specs.Limits.{Limits, last_byte, last_bound}

pub pow128 : (k : ℕ) → 128 ^ k ≡ 2 ^ (7 * k)
pow128 zero = refl
pow128 (suc k) =
    let e : 7 * suc k ≡ 7 * k + 7 = omega arith in
    pow-suc 128 k ∙ ap (λ (x : ℕ). x * 128) (pow128 k) ∙ sym (pow-add 2 (7 * k) 7) ∙ ap (λ (x : ℕ). 2 ^ x) (sym e)

pub last_small : (L : Limits) → last_bound L ≤ 128
last_small L = pow_mono {j = 7} (omega arith)

pub last_whole : (L : Limits) → last_bound L * 128 ^ last_byte L ≡ 2 ^ L.bits
last_whole L =
    let e : L.bits - 7 * last_byte L + 7 * last_byte L ≡ L.bits = omega arith in
    ap (λ (x : ℕ). last_bound L * x) (pow128 (last_byte L)) ∙ sym (pow-add 2 (L.bits - 7 * last_byte L) (7 * last_byte L)) ∙ ap (λ (x : ℕ). 2 ^ x) e
