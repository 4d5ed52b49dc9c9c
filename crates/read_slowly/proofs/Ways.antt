-- The ways of a call from any state: unsound, broken, or the machine's call.
use mathlib.Core.Path.{◌≡◌, refl, sym, ap, ◌∙◌}
use mathlib.Core.Bool.{true, false, true≢false}
use mathlib.Core.List.{List}
use Prim.Native.Nat.{ℕ, ◌≤◌}
use lib.Dec.{leb}
use Rattle.layout.specs.Limits.{Limits}
use Rattle.machine.specs.Machine.{idle}
use Rattle.machine.specs.Calls.{State, reading, owing, broke, call}
use Rattle.types.specs.declared.RawType.{RawType}
use Rattle.types.specs.declared.RawType.TheVariants as Raws
use Rattle.types.specs.Types.{raw_sort}
use Rattle.event.specs.declared.Event.{Event}
use Rattle.event.specs.Event.{piece_in}
use Rattle.phase.specs.declared.Carried.{Carried}
use Rattle.phase.specs.declared.Phase.{Phase}
use Rattle.phase.specs.declared.Phase.TheVariants.{Broken}
use Rattle.phase.specs.Phases.{state_at, sound_phase, phase_in, carried_at}
use Rattle.phase.proofs.Phases.{Live, both, broken_sound}
use Rattle.std.specs.Prelude.{Ok}
use Rattle.call_end.specs.declared.Answer.TheVariants.{Event as Happened}
use Rattle.call_end.specs.CallEnd.{end_in, end_at, refused}
use Rattle.read_slowly.specs.Slowly.{end_from, end_of}

pub call_end_sound : (L : Limits) (p : Phase) (k : Carried) (st : State) (c : List ℕ) → state_at k.depth p ≡ st → Live st → sound_phase L p ≡ true → end_in (call L st c) ≡ end_of L p k c
unfolding end_of
call_end_sound L p k (reading d q) c e l t = sym (ap (λ (x : State). end_from L x p k c) e ∙ simp t)
call_end_sound L p k (owing d id r) c e l t = sym (ap (λ (x : State). end_from L x p k c) e ∙ simp t)
call_end_sound L p k broke c e l t = absurd l

pub call_end_broken : (L : Limits) (p : Phase) (k : Carried) (c : List ℕ) → p ≡ Broken → refused 2 p k ≡ end_of L p k c
unfolding end_of
call_end_broken L p k c e = sym (ap (λ (q : Phase). end_from L (state_at k.depth q) p k c) e)

pub call_end_unsound : (L : Limits) (p : Phase) (k : Carried) (c : List ℕ) → k.depth ≤ L.depth → sound_phase L p ≡ false → refused 1 p k ≡ end_of L p k c
unfolding end_of
call_end_unsound L p k c h t = go (state_at k.depth p) refl
  where
    go : (st : State) → state_at k.depth p ≡ st → refused 1 p k ≡ end_from L (state_at k.depth p) p k c
    go (reading d q) e = sym (ap (λ (x : State). end_from L x p k c) e ∙ simp t)
    go (owing d id r) e = sym (ap (λ (x : State). end_from L x p k c) e ∙ simp t)
    go broke e = absurd (true≢false (sym (both (leb k.depth L.depth) (sound_phase L p) (broken_sound L k.depth p h e)).1 ∙ t))

-- an empty payload's piece
pub owed-piece : (L : Limits) (d id : ℕ) (r : RawType) (c : List ℕ) (v : Event) (p : Phase) → v ≡ piece_in id r 0 0 0 → p ≡ phase_in idle → end_at 0 (Ok (Happened v)) p (carried_at d) ≡ end_in (call L (owing d id (raw_sort r)) c)
unfolding call end_in
owed-piece L d id Raws.Str c v p e f = λ i. end_at 0 (Ok (Happened (e i))) (f i) (carried_at d)
owed-piece L d id Raws.Blob c v p e f = λ i. end_at 0 (Ok (Happened (e i))) (f i) (carried_at d)
