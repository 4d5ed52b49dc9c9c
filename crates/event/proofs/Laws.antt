-- Every event of the layout survives the way to the port's events and back, NaN patterns too.
use mathlib.Core.Path.{◌≡◌, refl, sym, ap, ◌∙◌, subst}
use mathlib.Core.Bool.{Bool, true, false, not}
use mathlib.Core.List.{List}
use Prim.Native.Nat.{ℕ, ◌+◌, ◌*◌, ◌^◌, ◌<◌}
use lib.ListN.{length}
use lib.Seq.{slice}
use lib.Dec.{T}
use lib.Ieee.{Format, binary32, binary64, of_bits, to_bits, nan_bits, top}
use lib.Ieee.Bits.{nan_bits_is, to_bits-of_bits}
use Rattle.layout.specs.Field.{Subtype, Kind, fp32, fp64, string, blob, unsigneds, signeds, floats}
use Rattle.layout.specs.Event.{Event, Unsigned, Signed, Float, Piece, Fixlen, Array, Begin, End}
use Rattle.types.specs.Types.{kind, array_kind}
use Rattle.types.proofs.Subtypes.{subtype_back}
use Rattle.event.specs.Event.{event_of, declared, fp32_of, fp64_of}

-- bits of the width, and a piece's bytes where the chunk has them
abbrev pub InRange : List ℕ → ℕ → Event → Type 0
InRange c from (Unsigned id n) = Unit
InRange c from (Signed id z) = Unit
InRange c from (Float id fp32 n) = n < 2 ^ 32
InRange c from (Float id fp64 n) = n < 2 ^ 64
InRange c from (Piece id r total o bs) = slice from (from + length bs) c ≡ bs
InRange c from (Fixlen id s n) = Unit
InRange c from (Array id k n) = Unit
InRange c from (Begin id) = Unit
InRange c from End = Unit

-- a pattern that is no NaN's is the bits of its float
bits_kept : (f : Format) (n : ℕ) → n < 2 * top f → nan_bits f n ≡ false → to_bits f (of_bits f n) ≡ n
bits_kept f n h e = to_bits-of_bits f n h (subst (λ (b : Bool). T (not b)) (sym e ∙ nan_bits_is f n) tt)

kept32 : (c : List ℕ) (id n : ℕ) → n < 2 ^ 32 → (b : Bool) → nan_bits binary32 n ≡ b → event_of c (fp32_of id n) ≡ Float id fp32 n
kept32 c id n h true e = simp e
kept32 c id n h false e = simp e (ap (Float id fp32) (bits_kept binary32 n h e))

kept64 : (c : List ℕ) (id n : ℕ) → n < 2 ^ 64 → (b : Bool) → nan_bits binary64 n ≡ b → event_of c (fp64_of id n) ≡ Float id fp64 n
kept64 c id n h true e = simp e
kept64 c id n h false e = simp e (ap (Float id fp64) (bits_kept binary64 n h e))

pub kind_back : (k : Kind) → kind (array_kind k) ≡ k
kind_back unsigneds = refl
kind_back signeds = refl
kind_back (floats fp32) = refl
kind_back (floats fp64) = refl

pub declared_back : (c : List ℕ) (from : ℕ) (e : Event) → InRange c from e → event_of c (declared from e) ≡ e
declared_back c from (Unsigned id n) h = refl
declared_back c from (Signed id z) h = refl
declared_back c from (Float id fp32 n) h = kept32 c id n h (nan_bits binary32 n) refl
declared_back c from (Float id fp64 n) h = kept64 c id n h (nan_bits binary64 n) refl
declared_back c from (Piece id string total o bs) h = ap (Piece id string total o) h
declared_back c from (Piece id blob total o bs) h = ap (Piece id blob total o) h
declared_back c from (Fixlen id s n) h = ap (λ (t : Subtype). Fixlen id t n) (subtype_back s)
declared_back c from (Array id k n) h = ap (λ (l : Kind). Array id l n) (kind_back k)
declared_back c from (Begin id) h = refl
declared_back c from End h = refl
