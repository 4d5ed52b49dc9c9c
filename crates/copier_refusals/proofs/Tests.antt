-- The copier's tests of its reader and of what it owes, as the definitions have them.
use mathlib.Core.Path.{◌≡◌, refl, sym, ap, ◌∙◌}
use mathlib.Core.Bool.{Bool, true, false}
use Prim.Native.Nat.{ℕ}
use Rattle.layout.specs.Limits.{base}
use Rattle.machine.specs.Calls.{State, reading, owing, broke}
use Rattle.istream.specs.declared.IStream.{IStream}
use Rattle.phase.specs.declared.Phase as code
use Rattle.phase.specs.declared.Phase.TheVariants as phases
use Rattle.phase.specs.Phases.{state_at}
use Rattle.istream.specs.Stream.{state_of}
use Rattle.copying.specs.Owed.{agrees, owes_nothing, sound_owed}
use Rattle.owed.specs.declared.Owed.{Owed}
use Rattle.owed.specs.declared.Owed.TheVariants as owes
use Rattle.owed.specs.Owed.{owed_of}
use Rattle.ostream.specs.declared.OStream.{OStream}
use Rattle.copying.specs.Refusals.{is_broke}
use Rattle.copying.proofs.Refusals.{with_held, with_unsound, with_owed}
use Rattle.places.specs.Places.{sound_for}
use Rattle.ostream.specs.Stream.{sound_stream}
use Rattle.copier_refusals.specs.Checked.{copy_by, fits_writer}

-- ---- what is owed

nothing_any : (o : Owed) (place : ℕ) → owes_nothing (owed_of o place) ≡ owes_nothing (owed_of o 0)
nothing_any owes.Nothing place = refl
nothing_any (owes.Unsigned id n) place = refl
nothing_any (owes.Signed id z) place = refl
nothing_any (owes.Element n) place = refl
nothing_any (owes.SignedElement z) place = refl
nothing_any (owes.Fp32 bits) place = refl
nothing_any (owes.Fp64 bits) place = refl
nothing_any (owes.Float id w) place = refl
nothing_any (owes.Payload id r total) place = refl
nothing_any (owes.Array id k n) place = refl
nothing_any (owes.Begin id) place = refl
nothing_any owes.End place = refl

broke_is : (st : State) → is_broke st ≡ true → st ≡ broke
broke_is (reading d p) e = absurd cc
broke_is (owing d id r) e = absurd cc
broke_is broke e = refl

-- the copier's own conditions, where the reader is broken and where it is not
module _ (s : IStream) (depth : ℕ) (o : Owed) (place : ℕ) where
  sound_broke : is_broke (state_of s) ≡ true → sound_owed base (state_of s) depth (owed_of o place) ≡ owes_nothing (owed_of o 0)
  unfolding sound_owed
  sound_broke e = ap (λ (st : State). sound_owed base st depth (owed_of o place)) (broke_is (state_of s) e) ∙ nothing_any o place

  pub sound-whole : is_broke (state_of s) ≡ false → sound_owed base (state_of s) depth (owed_of o place) ≡ agrees base s.carried.depth depth (owed_of o place)
  unfolding sound_owed
  sound-whole e = go s.phase e
    where
      go : (p : code.Phase) → is_broke (state_at s.carried.depth p) ≡ false → sound_owed base (state_at s.carried.depth p) depth (owed_of o place) ≡ agrees base s.carried.depth depth (owed_of o place)
      go (phases.Header a) e = refl
      go (phases.Unsigned id left a) e = refl
      go (phases.Signed id left a) e = refl
      go (phases.Word id a) e = refl
      go (phases.UnsignedCount id a) e = refl
      go (phases.SignedCount id a) e = refl
      go (phases.FloatCount id a) e = refl
      go (phases.ArrayWord id count a) e = refl
      go (phases.Float id w left k v) e = refl
      go (phases.Payload id r total o) e = refl
      go (phases.Empty id r) e = refl
      go phases.Broken e = absurd cc

-- ---- the writer, and the copier's own conditions

module _ (s : IStream) (w : OStream) (o : Owed) (place size : ℕ) where
  abbrev Places : Bool
  Places = sound_for w.offset w.depth 0 w.pending size

  pub id_held : (w.npending ≡ 0 → ⊥) → false ≡ fits_writer s w o place size
  id_held h = sym (with_held base (sound_stream w size) w.npending (copy_by s w o place) h)

  -- a writer's own test, where it holds none
  places_is : w.npending ≡ 0 → sound_stream w size ≡ Places
  unfolding sound_stream
  places_is e = ap (λ (n : ℕ). sound_for w.offset w.depth n w.pending size) e

  pub unrested : w.npending ≡ 0 → Places ≡ false → false ≡ fits_writer s w o place size
  unrested n e = sym (with_unsound base (sound_stream w size) w.npending (copy_by s w o place) (places_is n ∙ e))

  by_owed : w.npending ≡ 0 → Places ≡ true → fits_writer s w o place size ≡ sound_owed base (state_of s) w.depth (owed_of o place)
  by_owed n e = with_owed base (sound_stream w size) w.npending (copy_by s w o place) (places_is n ∙ e) n

  pub rested_broke : w.npending ≡ 0 → Places ≡ true → is_broke (state_of s) ≡ true → owes_nothing (owed_of o 0) ≡ fits_writer s w o place size
  rested_broke n e b = sym (by_owed n e ∙ sound_broke s w.depth o place b)

  pub rested_whole : w.npending ≡ 0 → Places ≡ true → is_broke (state_of s) ≡ false → agrees base s.carried.depth w.depth (owed_of o place) ≡ fits_writer s w o place size
  rested_whole n e b = sym (by_owed n e ∙ sound-whole s w.depth o place b)
