-- The machine's scan, a byte at a time.
use mathlib.Core.Path.{◌≡◌, refl}
use mathlib.Core.List.{List, [], ◌∷◌}
use Prim.Native.Nat.{ℕ, suc}
use native.Mathlib.Omega.{arith}
use Rattle.layout.specs.Limits.{Limits}
use Rattle.layout.specs.Field.{Raw}
use Rattle.machine.specs.Machine as machine
use Rattle.machine.specs.Machine.{in_header, in_unsigned, in_signed, in_word, in_unsigned_count, in_signed_count, in_float_count, in_array_word, in_float, in_payload}
use Rattle.machine.specs.Calls.{reading, scan, scanned, pace_of, byte}
use Rattle.machine.specs.Calls as pieces

pub scan_byte : (L : Limits) (n d : ℕ) (p : machine.Phase) (b : ℕ) (bs : List ℕ) → pace_of p ≡ byte → scan L n d p (b ∷ bs) ≡ scanned (suc n) (machine.step L d p b) (λ d' p'. scan L (suc n) d' p' bs)
unfolding scan
scan_byte L n d (in_header k v) b bs e = refl
scan_byte L n d (in_unsigned id left k v) b bs e = refl
scan_byte L n d (in_signed id left k v) b bs e = refl
scan_byte L n d (in_word id k v) b bs e = refl
scan_byte L n d (in_unsigned_count id k v) b bs e = refl
scan_byte L n d (in_signed_count id k v) b bs e = refl
scan_byte L n d (in_float_count id k v) b bs e = refl
scan_byte L n d (in_array_word id c k v) b bs e = refl
scan_byte L n d (in_float id w left k v) b bs e = refl
scan_byte L n d (in_payload id r total o) b bs e = let z : ◌≡◌ {A = ℕ} 0 1 = cc in absurd (omega arith)

pub scan_end : (L : Limits) (n d : ℕ) (p : machine.Phase) → scan L n d p [] ≡ record { read = n; answer = pieces.verdict (pieces.verdict_at d p); state = reading d p }
unfolding scan
scan_end L n d p = refl

-- a payload's phase is not read byte by byte
pub no_bulk : (id : ℕ) (r : Raw) (total o : ℕ) → pace_of (in_payload id r total o) ≡ byte → ⊥
no_bulk id r total o e = let z : ◌≡◌ {A = ℕ} 0 1 = cc in absurd (omega arith)
