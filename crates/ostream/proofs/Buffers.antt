-- For those who run a writer through drains and buffer changes: what the calls about buffers come to, taken and refused, and which states
-- stay sound.
use mathlib.Core.Path.{◌≡◌, refl, sym, ap, ◌∙◌}
use mathlib.Core.Bool.{Bool, true, false}
use Prim.Native.Nat.{ℕ, ◌≤◌, ◌<◌}
use native.Mathlib.Omega.{arith}
use lib.Dec.{leb, eqb}
use lib.ListN.{drop}
use borrow.Author.Tests.{leb-false, ltb-false, le-leb, lt-leb, le-ltb}
use Rattle.types.specs.Types.{refusal}
use Rattle.places.specs.Places.{clean}
use Rattle.at_ease.proofs.AtOnce.{clean_zeros}
use Rattle.buffers.specs.Moved.{moved_by}
use Rattle.ostream.specs.declared.OStream.{OStream}
use Rattle.ostream.specs.declared.Answer.TheVariants.{Done}
use Rattle.std.specs.Prelude.{Ok, Err}
use Rattle.ostream.specs.Stream.{every, sound_stream, at, opened}
use Rattle.ostream.specs.Emission.{Judgement, accepted, refused_with, refused}
use Rattle.ostream.specs.Private.{counted_at}
use Rattle.ostream.specs.Buffer.{bad_buffer, counted_by, opening, draining, changing}
use Rattle.ostream.proofs.Calls.{both, is_sound}
use Rattle.ostream.proofs.AtOnce.{quiet}

-- ---- sound states

-- at another position, over another buffer
pub sound-at : (s : OStream) (size p q : ℕ) → sound_stream s size ≡ true → p ≤ q → sound_stream (at s p) q ≡ true
unfolding sound_stream
sound-at s size p q h l = simp (le-leb p q l) (both (leb s.offset size) _ h).1

pub opened-sound : (offset size : ℕ) → offset ≤ size → sound_stream (opened offset) size ≡ true
unfolding opened
opened-sound offset size h = quiet (opened offset) size h refl (omega arith) clean_zeros

pub unheld_clean : (s : OStream) (size : ℕ) → sound_stream s size ≡ true → s.npending ≡ 0 → clean s.pending ≡ true
unheld_clean s size h e = sym (ap (λ (n : ℕ). every (λ x. eqb x 0) (drop n s.pending)) e) ∙ (is_sound s size h).zeros

-- ---- by numbers

-- where a call about buffers goes on, in the state
pub counted_is : (v : Judgement) (s : OStream) (pos : ℕ) → counted_at s (moved_by v s.offset pos) ≡ counted_by v s pos
counted_is accepted s pos = refl
counted_is (refused_with e) s pos = refl

-- ---- a drain

pub drained_is : (s : OStream) (size : ℕ) → sound_stream s size ≡ true → draining s size ≡ record { answer = Ok s.offset; stream = at s 0 }
unfolding draining
drained_is s size h = simp h

pub drain_refused : (s : OStream) (size : ℕ) → sound_stream s size ≡ false → draining s size ≡ record { answer = Err (refusal 6); stream = s }
unfolding draining
drain_refused s size h = simp h

-- ---- an offset in a buffer

pub fit : (size offset : ℕ) (drained : Bool) → (bad_buffer size offset drained).fails ≡ false → offset ≤ size
fit size offset true h = omega (arith, leb-false size offset h)
fit size offset false h = ltb-false size offset h

pub fits : (size offset : ℕ) (drained : Bool) → offset < size → (bad_buffer size offset drained).fails ≡ false
fits size offset true h = lt-leb size offset h
fits size offset false h = le-ltb size offset (omega arith)

-- ---- opening

pub open_taken : (size offset : ℕ) (drained : Bool) → (bad_buffer size offset drained).fails ≡ false → opening size offset drained ≡ record { answer = Ok Done; stream = opened offset }
unfolding opening
open_taken size offset drained h = simp h

pub open_refused : (size offset : ℕ) (drained : Bool) → (bad_buffer size offset drained).fails ≡ true → opening size offset drained ≡ refused (opened 0) (refusal 5)
unfolding opening
open_refused size offset drained h = simp h

-- ---- another buffer

module _ (s : OStream) (old new offset : ℕ) (drained : Bool) where
  -- 5 by the new buffer, whatever the state
  pub change_refused : (bad_buffer new offset drained).fails ≡ true → changing s old new offset drained ≡ record { answer = Err (refusal 5); stream = s }
  unfolding changing
  change_refused t = simp t

  -- 6 by the old one
  pub change_unsound : (bad_buffer new offset drained).fails ≡ false → sound_stream s old ≡ false → changing s old new offset drained ≡ record { answer = Err (refusal 6); stream = s }
  unfolding changing
  change_unsound t h = simp (t, h)

  pub change_taken : (bad_buffer new offset drained).fails ≡ false → sound_stream s old ≡ true → changing s old new offset drained ≡ record { answer = Ok s.offset; stream = at s offset }
  unfolding changing
  change_taken t h = simp (t, h)
