-- The series makes the very calls that the contracts cite; a real write that is accepted is so over every buffer that holds its position;
-- and a buffer shorter than the position is refused.
use Prim.Native.Nat.{ℕ, ◌≤◌, ◌<◌}
use mathlib.Core.Path.{◌≡◌, refl, sym, ap, ◌∙◌}
use mathlib.Core.Bool.{Bool, true, false, not}
use mathlib.Core.List.{List, [], ◌∷◌}
use borrow.Author.Tests.{lt-leb}
use lib.ListN.{length}
use Rattle.layout.specs.Limits.{pick}
use Rattle.types.specs.Types.{refusal}
use Rattle.ostream.specs.declared.OStream.{OStream}
use Rattle.ostream.specs.Stream.{at, sound_stream}
use Rattle.ostream.specs.Emission.{Test, Judgement, accepted, refused_with, judged, Call, written_by, written}
use Rattle.ostream.specs.Calls.{unsound, id_too_large, too_deep, none_open}
use Rattle.ostream.specs.Buffer.{bad_buffer, counted_by, draining, changing}
use Rattle.writes.specs.Series.{call_of, numbers_in, numbers_of, writes, drains, changes, returned}
use Rattle.writes.specs.Written.{Write, puts, opens, closes, keeps, op}
use Rattle.writes.specs.Public.{Public, write_unsigned, write_signed, write_boolean, write_fixlen, write_payload, write_float, write_array_unsigned, write_array_signed, write_array_float}
use Rattle.writes.specs.Public.{write_sequence_begin_lazy, write_sequence_end, write_sequence_end_keep, write_of, cited_by}
use Rattle.writes.proofs.Written.{steady_write}

pub is_call : (c : Public) (s : OStream) (size : ℕ) → call_of (op (write_of c)) s size ≡ cited_by c s size
is_call (write_unsigned id n) s size = refl
is_call (write_signed id z) s size = refl
is_call (write_boolean id b) s size = refl
is_call (write_fixlen id bs t) s size = refl
is_call (write_payload id r bs) s size = refl
is_call (write_float id w x) s size = refl
is_call (write_array_unsigned id ns) s size = refl
is_call (write_array_signed id zs) s size = refl
is_call (write_array_float id w xs) s size = refl
is_call (write_sequence_begin_lazy id) s size = refl
is_call write_sequence_end s size = refl
is_call write_sequence_end_keep s size = refl

-- A public call whose tests pass where it stands passes them at every position, over every buffer that holds it.
pub accepted_anywhere : (c : Public) (s : OStream) (size p size' : ℕ) → s.offset ≤ size → judged (cited_by c s size).tests ≡ accepted → p ≤ size' → judged (cited_by c (at s p) size').tests ≡ accepted
accepted_anywhere c s size p size' h a l =
    let f = steady_write (write_of c) in
    ap (λ (k : Call). judged k.tests) (sym (is_call c (at s p) size'))
    ∙ f.tests s p size' l ∙ sym (f.tests s s.offset size h)
    ∙ ap (λ (k : Call). judged k.tests) (is_call c s size) ∙ a

-- ---- another buffer, too short

short_unsound : (s : OStream) (size : ℕ) → size < s.offset → sound_stream s size ≡ false
unfolding sound_stream
short_unsound s size h = simp (lt-leb _ _ h)

short_tests : (s : OStream) (size : ℕ) (ts : List Test) → size < s.offset → judged (unsound s size ∷ ts) ≡ refused_with (refusal 6)
short_tests s size ts h = ap (λ (b : Bool). judged (record { fails = not b; error = refusal 6 } ∷ ts)) (short_unsound s size h)

short_judgement : (w : Write) (s : OStream) (size : ℕ) → size < s.offset → judged ((op w).tests s size) ≡ refused_with (refusal 6)
short_judgement (puts ts x) s size h = short_tests s size ts h
short_judgement (opens id) s size h = short_tests s size (too_deep s ∷ id_too_large id ∷ []) h
short_judgement closes s size h = short_tests s size (none_open s ∷ []) h
short_judgement keeps s size h = short_tests s size (none_open s ∷ []) h

-- "Number 6: the writer state isn't sound for the lent buffer", so such calls may stand anywhere in a series.
pub short_write : (w : Write) (s : OStream) (b : List ℕ) (place : ℕ) → length b < s.offset → (returned (writes (op w) b place) s).numbers ≡ 6 ∷ []
unfolding written written_by
short_write w s b place h = ap (λ (v : Judgement). numbers_in (written_by v (call_of (op w) s (length b)) s b place).said) (short_judgement w s (length b) h)

pub short_drain : (s : OStream) (b : List ℕ) → length b < s.offset → (returned (drains b) s).numbers ≡ 6 ∷ []
unfolding draining
short_drain s b h = ap (λ (v : Judgement). numbers_of (counted_by v s 0).answer) (short_tests s (length b) [] h)

-- "Number 5 judges the new buffer there, then number 6 the state by the old one."
pub short_change : (s : OStream) (old new : List ℕ) (o : ℕ) (drained : Bool) → length old < s.offset
    → (returned (changes old new o drained) s).numbers ≡ pick (bad_buffer (length new) o drained).fails 5 6 ∷ []
unfolding changing
short_change s old new o drained h = ap (λ (v : Judgement). numbers_of (counted_by (pick (bad_buffer (length new) o drained).fails (refused_with (refusal 5)) v) s o).answer) (short_tests s (length old) [] h) ∙ go (bad_buffer (length new) o drained).fails
  where
    go : (t : Bool) → numbers_of (counted_by (pick t (refused_with (refusal 5)) (refused_with (refusal 6))) s o).answer ≡ pick t 5 6 ∷ []
    go true = refl
    go false = refl
