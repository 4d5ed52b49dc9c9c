-- The tests that the code makes of a state, as the definitions make them: where the message stands, and soundness.
use mathlib.Core.Path.{◌≡◌, refl, sym, ap, ◌∙◌}
use mathlib.Core.Bool.{Bool, true, false}
use mathlib.Core.List.{[], ◌∷◌}
use Prim.Native.Nat.{ℕ, zero, suc, ◌≤◌}
use native.Mathlib.Omega.{arith}
use lib.Dec.{eqb}
use borrow.Author.Tests.{le-leb}
use types.Run.{OneOf, miss}
use denote.Enum.Declared.{tag_of}
use Rattle.layout.specs.Limits.{Limits, pick}
use Rattle.layout.specs.Message.{Verdict, complete, incomplete, broken_at}
use Rattle.machine.specs.Machine.{in_header, ending, verdict_after}
use Rattle.machine.specs.Calls.{State, reading, owing, broke, verdict_at, verdict_so, standing_of, standing}
use Rattle.phase.specs.declared.Phase.{Phase}
use Rattle.phase.specs.declared.Phase.TheVariants.{Header, Unsigned, Signed, Word, UnsignedCount, SignedCount, FloatCount, ArrayWord, Float, Payload, Empty, Broken}
use Rattle.phase.specs.Phases.{state_at, sound_phase, carried_at}
use Rattle.phase.specs.contracts.Phase.{the_type}
use Rattle.call_end.specs.declared.Status.{Status}
use Rattle.call_end.specs.declared.Status.TheVariants.{Complete, Incomplete}
use Rattle.istream.specs.declared.IStream.{IStream}
use Rattle.istream.specs.declared.Standing.TheVariants as Standings
use Rattle.istream.specs.Stream.{state_of, standing_in, status_of, status_in, sound_stream}

-- ---- where the message stands

unlike : Complete ≡ Incomplete → ⊥
unlike e = let z : ◌≡◌ {A = ℕ} 0 1 = cc in absurd (omega arith)

abbrev at : ℕ → Phase → IStream
at d p = record { phase = p; carried = carried_at d }

by_verdict : (v : Verdict) → status_in v ≡ Complete → Standings.Complete ≡ standing_in (standing_of v)
by_verdict complete e = refl
by_verdict incomplete e = absurd (unlike (sym e))
by_verdict (broken_at n) e = absurd (unlike (sym e))

by_state : (st : State) → status_in (verdict_so st) ≡ Complete → Standings.Complete ≡ standing_in (standing st)
unfolding verdict_so standing
by_state (reading d p) e = by_verdict (verdict_at d p) e
by_state (owing d id r) e = absurd (unlike (sym e))
by_state broke e = absurd (unlike (sym e))

pub status_complete : (s : IStream) (v : Status) → v ≡ status_in (verdict_so (state_of s)) → v ≡ Complete → Standings.Complete ≡ status_of s
unfolding status_of
status_complete s v f e = by_state (state_of s) (sym f ∙ e)

pub status_broken : (s : IStream) → s.phase ≡ Broken → Standings.Invalid ≡ status_of s
unfolding status_of standing
status_broken s e = sym (ap (λ (p : Phase). status_of (at s.carried.depth p)) e)

-- within a header, or between fields in a sequence that is open
picked : (b : Bool) → status_in (pick b complete incomplete) ≡ Incomplete → Standings.Incomplete ≡ standing_in (standing_of (pick b complete incomplete))
picked true e = absurd (unlike e)
picked false e = refl

at-header : (d k v : ℕ) → status_in (verdict_at d (in_header k v)) ≡ Incomplete → Standings.Incomplete ≡ standing_in (standing_of (verdict_at d (in_header k v)))
unfolding ending verdict_after
at-header d zero v e = picked (eqb d 0) e
at-header d (suc k) v e = refl

unbroken : (d : ℕ) (p : Phase) → status_in (verdict_so (state_at d p)) ≡ Incomplete → OneOf (0 ∷ 1 ∷ 2 ∷ 3 ∷ 4 ∷ 5 ∷ 6 ∷ 7 ∷ 8 ∷ 9 ∷ 10 ∷ []) (tag_of the_type p) → Standings.Incomplete ≡ status_of (at d p)
unfolding verdict_so status_of standing ending verdict_after
unbroken d (Header a) e o = at-header d a.taken a.value e
unbroken d (Unsigned id left a) e o = refl
unbroken d (Signed id left a) e o = refl
unbroken d (Word id a) e o = refl
unbroken d (UnsignedCount id a) e o = refl
unbroken d (SignedCount id a) e o = refl
unbroken d (FloatCount id a) e o = refl
unbroken d (ArrayWord id c a) e o = refl
unbroken d (Float id w left k v) e o = refl
unbroken d (Payload id r total o') e o = refl
unbroken d (Empty id r) e o = refl
unbroken d Broken e o = absurd (miss (0 ∷ 1 ∷ 2 ∷ 3 ∷ 4 ∷ 5 ∷ 6 ∷ 7 ∷ 8 ∷ 9 ∷ 10 ∷ []) 11 tt o)

pub status_else : (s : IStream) (v : Status) → v ≡ status_in (verdict_so (state_of s)) → v ≡ Incomplete → OneOf (0 ∷ 1 ∷ 2 ∷ 3 ∷ 4 ∷ 5 ∷ 6 ∷ 7 ∷ 8 ∷ 9 ∷ 10 ∷ []) (tag_of the_type s.phase) → Standings.Incomplete ≡ status_of s
status_else s v f e o = unbroken s.carried.depth s.phase (sym f ∙ e) o

-- ---- soundness

pub sound_in : (L : Limits) (s : IStream) (p : Phase) → s.carried.depth ≤ L.depth → s.phase ≡ p → sound_phase L p ≡ sound_stream L s
unfolding sound_stream
sound_in L s p h e = simp (le-leb s.carried.depth L.depth h) (sym (ap (sound_phase L) e))
