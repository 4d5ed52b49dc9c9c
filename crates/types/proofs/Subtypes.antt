-- Numbers above 3 name no subtype, and a subtype is the same by the port's name for it.
use Prim.Native.Nat.{ℕ, zero, suc}
use mathlib.Core.Path.{◌≡◌, refl}
use Rattle.layout.specs.Field.{Subtype, fp32, fp64, string, blob, float, raw, unknown, subtype_of}
use Rattle.types.specs.Types.{subtype, fixlen_type}

pub none : (n : ℕ) → (n ≡ 0 → ⊥) → (n ≡ 1 → ⊥) → (n ≡ 2 → ⊥) → (n ≡ 3 → ⊥) → subtype_of n ≡ unknown
none zero a b c d = absurd (a refl)
none (suc zero) a b c d = absurd (b refl)
none (suc (suc zero)) a b c d = absurd (c refl)
none (suc (suc (suc zero))) a b c d = absurd (d refl)
none (suc (suc (suc (suc n)))) a b c d = refl

pub subtype_back : (s : Subtype) → subtype (fixlen_type s) ≡ s
subtype_back (float fp32) = refl
subtype_back (float fp64) = refl
subtype_back (raw string) = refl
subtype_back (raw blob) = refl
