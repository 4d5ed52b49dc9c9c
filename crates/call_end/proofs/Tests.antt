-- The test that the code makes for its verdict, as the definitions make it: no field under way, and no sequence open.
use mathlib.Core.Path.{◌≡◌, refl, sym, ap, ◌∙◌}
use mathlib.Core.List.{[], ◌∷◌}
use Prim.Native.Nat.{ℕ, zero, suc}
use lib.Dec.{eqb}
use borrow.Author.Tests.{eq-eqb, ne_eqb}
use types.Run.{OneOf, miss}
use denote.Enum.Declared.{tag_of}
use Rattle.layout.specs.Limits.{pick}
use Rattle.layout.specs.Message.{complete, incomplete}
use Rattle.machine.specs.Machine.{in_header, ending, verdict_after}
use Rattle.machine.specs.Calls.{verdict_at, verdict_so}
use Rattle.varint.specs.declared.Acc.{Acc}
use Rattle.phase.specs.declared.Phase.{Phase}
use Rattle.phase.specs.declared.Phase.TheVariants.{Header, Unsigned, Signed, Word, UnsignedCount, SignedCount, FloatCount, ArrayWord, Float, Payload, Empty, Broken}
use Rattle.phase.specs.Phases.{state_at}
use Rattle.phase.specs.contracts.Phase.{the_type}
use Rattle.call_end.specs.declared.Status.TheVariants.{Complete, Incomplete}
use Rattle.call_end.specs.CallEnd.{status_in}

-- within anything but a header
pub verdict_else : (d : ℕ) (p : Phase) → OneOf (1 ∷ 2 ∷ 3 ∷ 4 ∷ 5 ∷ 6 ∷ 7 ∷ 8 ∷ 9 ∷ 10 ∷ 11 ∷ []) (tag_of the_type p) → Incomplete ≡ status_in (verdict_so (state_at d p))
unfolding verdict_so ending verdict_after
verdict_else d (Header a) o = absurd (miss (1 ∷ 2 ∷ 3 ∷ 4 ∷ 5 ∷ 6 ∷ 7 ∷ 8 ∷ 9 ∷ 10 ∷ 11 ∷ []) 0 tt o)
verdict_else d (Unsigned id left a) o = refl
verdict_else d (Signed id left a) o = refl
verdict_else d (Word id a) o = refl
verdict_else d (UnsignedCount id a) o = refl
verdict_else d (SignedCount id a) o = refl
verdict_else d (FloatCount id a) o = refl
verdict_else d (ArrayWord id c a) o = refl
verdict_else d (Float id w left k v) o = refl
verdict_else d (Payload id r total o') o = refl
verdict_else d (Empty id r) o = refl
verdict_else d Broken o = refl

at-header : (d : ℕ) (a : Acc) → status_in (verdict_at d (in_header a.taken a.value)) ≡ status_in (verdict_so (state_at d (Header a)))
unfolding verdict_so
at-header d a = refl

none-taken : (d k v : ℕ) → k ≡ 0 → status_in (verdict_at d (in_header k v)) ≡ status_in (pick (eqb d 0) complete incomplete)
unfolding ending verdict_after
none-taken d k v e = ap (λ (j : ℕ). status_in (verdict_at d (in_header j v))) e

some_taken : (d k v : ℕ) → (k ≡ 0 → ⊥) → Incomplete ≡ status_in (verdict_at d (in_header k v))
unfolding ending verdict_after
some_taken d zero v h = absurd (h refl)
some_taken d (suc k) v h = refl

module _ (d : ℕ) (p : Phase) (a : Acc) (e : p ≡ Header a) where
  is_header : status_in (verdict_at d (in_header a.taken a.value)) ≡ status_in (verdict_so (state_at d p))
  is_header = at-header d a ∙ sym (ap (λ (q : Phase). status_in (verdict_so (state_at d q))) e)

  pub verdict_complete : a.taken ≡ 0 → d ≡ 0 → Complete ≡ status_in (verdict_so (state_at d p))
  verdict_complete t h = sym (none-taken d a.taken a.value t ∙ simp (eq-eqb d 0 h)) ∙ is_header

  pub verdict_deep : a.taken ≡ 0 → (d ≡ 0 → ⊥) → Incomplete ≡ status_in (verdict_so (state_at d p))
  verdict_deep t h = sym (none-taken d a.taken a.value t ∙ simp (ne_eqb d 0 h)) ∙ is_header

  pub verdict_taken : (a.taken ≡ 0 → ⊥) → Incomplete ≡ status_in (verdict_so (state_at d p))
  verdict_taken h = some_taken d a.taken a.value h ∙ is_header
