-- A byte of a varint, a count or a float, as the machine's step in the form in which the code makes it: a law for each way out of a function.
use mathlib.Core.Path.{◌≡◌, refl, sym, ap, ◌∙◌, subst}
use mathlib.Core.Logic.{inl, inr}
use mathlib.Core.List.{[], ◌∷◌}
use Prim.Native.Nat.{ℕ, ◌+◌, ◌*◌, ◌%◌, ◌^◌, ◌<◌, ◌≤◌}
use native.Mathlib.Nat.{add_comm}
use native.Mathlib.Omega.{arith}
use lib.Pow.{shl_exact}
use lib.Bits.{bit_or, or_shifted_r}
use borrow.Author.Tests.{lt-ltb, le-ltb}
use types.Run.{OneOf}
use denote.Enum.Declared.{tag_of}
use Rattle.std.specs.Prelude.{Some, None}
use Rattle.layout.specs.Limits.{Limits}
use Rattle.layout.specs.Varint as varints
use Rattle.layout.specs.Field.{bytes_of}
use Rattle.layout.specs.Event as layout
use Rattle.machine.specs.Machine as machine
use Rattle.machine.specs.Machine.{in_unsigned, in_signed, in_array_word, in_float, next_or, first_or, at_unsigned_count, at_signed_count, at_float_count, at_float, within}
use Rattle.types.specs.declared.FloatType.{FloatType}
use Rattle.types.specs.Types.{width}
use Rattle.varint.specs.declared.Acc.{Acc}
use Rattle.varint.specs.declared.Push.{Push}
use Rattle.varint.specs.declared.Push.TheVariants.{More, Value, Overlong}
use Rattle.varint.specs.Varint.{Sound, pushed, unanswer}
use Rattle.varint.proofs.Laws.{layout_step}
use Rattle.varint.specs.contracts.Push.{the_type}
use Rattle.event.specs.Event.{declared}
use Rattle.phase.specs.declared.Phase.TheVariants.{Float}
use Rattle.phase.specs.Phases.{phase_in, carried_at}
use Rattle.phase.proofs.Phases.{float_back, pow256}
use Rattle.phase.specs.declared.Stepped.TheVariants.{On, Raised}
use Rattle.phase.specs.Steps.{stepped}

-- ---- a varint's byte, from what the code knows of the push

module _ (L : Limits) (a : Acc) (b : ℕ) (s : Sound L a) (p : Push) (e : p ≡ pushed L a b) (d : ℕ) (P : ℕ → ℕ → machine.Phase) (F : ℕ → machine.Stepped) where
  pushing : (q : Push) → p ≡ q → within d (varints.push L a.taken a.value b) P F ≡ within d (unanswer q) P F
  pushing q h = ap (λ (x : varints.Push). within d x P F) (layout_step L a b s ∙ ap unanswer (sym e ∙ h))

  pub value_in : (n : ℕ) → p ≡ Value n → stepped (F n) ≡ stepped (within d (varints.push L a.taken a.value b) P F)
  unfolding within
  value_in n h = sym (ap stepped (pushing (Value n) h))

  pub more_in : (x : Acc) → p ≡ More x → Some (On (phase_in (P x.taken x.value)) (carried_at d)) ≡ stepped (within d (varints.push L a.taken a.value b) P F)
  unfolding within
  more_in x h = sym (ap stepped (pushing (More x) h))

  pub over_in : OneOf (0 ∷ 2 ∷ []) (tag_of the_type p) → OneOf (1 ∷ 2 ∷ []) (tag_of the_type p) → None ≡ stepped (within d (varints.push L a.taken a.value b) P F)
  unfolding within
  over_in h i = sym (ap stepped (pushing Overlong (overlong p h i)))
    where
      overlong : (p : Push) → OneOf (0 ∷ 2 ∷ []) (tag_of the_type p) → OneOf (1 ∷ 2 ∷ []) (tag_of the_type p) → p ≡ Overlong
      overlong (More a) h (inl i) = absurd (omega arith)
      overlong (More a) h (inr i) = absurd (omega arith)
      overlong (Value v) (inl h) i = absurd (omega arith)
      overlong (Value v) (inr h) i = absurd (omega arith)
      overlong Overlong h i = refl

-- ---- floats, low byte first

-- a byte shifted above the k bytes before it, and joined by `or`
pub joined_byte : (v b k : ℕ) → k ≤ 7 → b < 2 ^ 8 → v < 256 ^ k → bit_or v (b * 2 ^ (k * 8) % 2 ^ 64) ≡ v + b * 256 ^ k
joined_byte v b k l h s =
    ap (bit_or v) (shl_exact {a = b} 8 (k * 8) 64 h (omega arith))
    ∙ or_shifted_r b (k * 8) v (subst (λ (p : ℕ). v < p) (pow256 k) s)
    ∙ add_comm (b * 2 ^ (k * 8)) v
    ∙ ap (λ (p : ℕ). v + b * p) (sym (pow256 k))

pub float_more : (d id : ℕ) (w : FloatType) (left k x : ℕ) → k + 1 < bytes_of (width w)
    → Some (On (Float id w left (k + 1) x) (carried_at d)) ≡ stepped (at_float d id (width w) left k x)
unfolding at_float
float_more d id w left k x h = simp (lt-ltb _ _ h, float_back w)

pub float_whole : (d id : ℕ) (w : FloatType) (left k x : ℕ) → bytes_of (width w) ≤ k + 1
    → Some (Raised (declared 0 (layout.Float id (width w) x)) (phase_in (next_or left (λ m. in_float id (width w) m 0 0))) (carried_at d)) ≡ stepped (at_float d id (width w) left k x)
unfolding at_float
float_whole d id w left k x h = simp (le-ltb _ _ h)
