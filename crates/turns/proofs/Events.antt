-- What a call of the reader gives where no payload is under way: the writer's depth after its event is the reader's, and its bytes are
-- those that are written for what is owed of it.
use mathlib.Core.Path.{◌≡◌, refl, sym, ◌∙◌, subst}
use mathlib.Core.Bool.{Bool, true, false}
use mathlib.Core.List.{List, [], ◌∷◌}
use Prim.Native.Nat.{ℕ, zero, suc, ◌+◌, ◌/◌, ◌%◌, ◌<◌}
use native.Mathlib.Omega.{arith}
use lib.Dec.{ltb, leb, eqb}
use lib.ListN.{get_or}
use borrow.Author.Tests.{eqb-true}
use Rattle.layout.specs.Limits.{Limits, base, pick}
use Rattle.layout.specs.Varint.{Push, more, value, overrun, push}
use Rattle.layout.specs.Field.{Wire, Raw, Subtyped, bytes_of, subtype_of, wire_of, known, unknown, float, raw}
use Rattle.layout.specs.Field.{t_unsigned, t_signed, t_fixlen, t_unsigneds, t_signeds, t_floats, t_begin, t_end}
use Rattle.layout.specs.Event.{Event, Unsigned, Signed, Float, Piece, Fixlen, Array, Begin, End}
use Rattle.machine.specs.Machine.{Phase, in_header, in_unsigned, in_signed, in_word, in_unsigned_count, in_signed_count, in_float_count, in_array_word, in_float, in_payload}
use Rattle.machine.specs.Machine.{Stepped, on, bad, at_wire, at_header, at_payload, at_subtype, at_word, at_unsigned_count, at_signed_count, at_float_count, at_element, at_array_word, at_unsigned, at_signed, at_float, within, step}
use Rattle.machine.specs.Calls.{State, reading, owing, broke, Said, event, verdict, invalid, Called, pace_of, byte, raised_state, scanned, scan, call}
use Rattle.machine.specs.Run.{spot_of}
use Rattle.machine.proofs.Calls.{FairSpot}
use Rattle.types.specs.declared.RawType.{RawType}
use Rattle.istream.specs.declared.IStream.{IStream}
use Rattle.phase.specs.declared.Phase as code
use Rattle.phase.specs.declared.Phase.TheVariants as phases
use Rattle.phase.specs.Phases.{state_at}
use Rattle.istream.specs.Stream.{state_of, stream_in, sound_stream}
use Rattle.phase.specs.Sound.{SoundState, AtBytes, Kept}
use Rattle.phase.proofs.Keeps.{step_keeps}
use Rattle.phase.proofs.Phases.{Live}
use Rattle.phase.proofs.Scans.{scan_byte, scan_end}
use Rattle.istream.proofs.Laws.{is_sound}
use Rattle.copying.specs.Owed.{depth_by}
use Rattle.owed.proofs.Laws.{Spelt}

-- ---- a byte

abbrev Level : ℕ → Stepped → Type 0
Level d (on [] d' p) = d' ≡ d
Level d (on (e ∷ es) d' p) = (depth_by d e ≡ d') × Spelt e
Level d bad = Unit {0}

level-pick : (d : ℕ) (t : Bool) (s s' : Stepped) → Level d s → Level d s' → Level d (pick t s s')
level-pick d true s s' h h' = h
level-pick d false s s' h h' = h'

level_if : (d : ℕ) (t : Bool) (s : Stepped) → (t ≡ true → Level d s) → Level d (pick t s bad)
level_if d true s h = h refl
level_if d false s h = tt

level-within : (d : ℕ) (q : Push) (p : ℕ → ℕ → Phase) (g : ℕ → Stepped) → ((x : ℕ) → Level d (g x)) → Level d (within d q p g)
unfolding within
level-within d (more k v) p g h = refl
level-within d (value x) p g h = h x
level-within d overrun p g h = tt

level_wire : (L : Limits) (d id : ℕ) (t : Wire) → Level d (at_wire L d id t)
unfolding depth_by
level_wire L d id t_unsigned = refl
level_wire L d id t_signed = refl
level_wire L d id t_fixlen = refl
level_wire L d id t_unsigneds = refl
level_wire L d id t_signeds = refl
level_wire L d id t_floats = refl
level_wire L d id t_begin = level-pick d (ltb d L.depth) _ bad (refl, tt) tt
level_wire L d id t_end = level-pick d (eqb d 0) bad _ tt (refl, tt)

level_payload : (d id : ℕ) (r : Raw) (m : ℕ) → Level d (at_payload d id r m)
unfolding depth_by
level_payload d id r zero = (refl, tt)
level_payload d id r (suc m) = (refl, tt)

level-subtype : (L : Limits) (d id m : ℕ) (s : Subtyped) → Level d (at_subtype L d id m s)
unfolding depth_by
level-subtype L d id m (known (float w)) = level_if d (eqb m (bytes_of w)) _ (λ q. (refl, eqb-true m (bytes_of w) q))
level-subtype L d id m (known (raw r)) = level-pick d (leb m L.size) _ bad (level_payload d id r m) tt
level-subtype L d id m unknown = tt

level_element : (d id c m : ℕ) (s : Subtyped) → Level d (at_element d id c m s)
unfolding depth_by
level_element d id c m (known (float w)) = level-pick d (eqb m (bytes_of w)) _ bad (refl, tt) tt
level_element d id c m (known (raw r)) = tt
level_element d id c m unknown = tt

level-step : (L : Limits) (d : ℕ) (p : Phase) (b : ℕ) → pace_of p ≡ byte → Level d (step L d p b)
unfolding step depth_by at_header at_word at_unsigned_count at_signed_count at_float_count at_array_word at_unsigned at_signed at_float
level-step L d (in_header k v) b i = level-within d (push L k v b) in_header (at_header L d) (λ h. level-pick d (leb (h / 8) L.id) _ bad (level_wire L d (h / 8) (wire_of (h % 8))) tt)
level-step L d (in_unsigned id left k v) b i = level-within d (push L k v b) (in_unsigned id left) (at_unsigned d id left) (λ x. (refl, tt))
level-step L d (in_signed id left k v) b i = level-within d (push L k v b) (in_signed id left) (at_signed d id left) (λ x. (refl, tt))
level-step L d (in_word id k v) b i = level-within d (push L k v b) (in_word id) (at_word L d id) (λ w. level-subtype L d id (w / 8) (subtype_of (w % 8)))
level-step L d (in_unsigned_count id k v) b i = level-within d (push L k v b) (in_unsigned_count id) (at_unsigned_count L d id) (λ c. level-pick d (leb c L.count) _ bad (refl, tt) tt)
level-step L d (in_signed_count id k v) b i = level-within d (push L k v b) (in_signed_count id) (at_signed_count L d id) (λ c. level-pick d (leb c L.count) _ bad (refl, tt) tt)
level-step L d (in_float_count id k v) b i = level-within d (push L k v b) (in_float_count id) (at_float_count L d id) (λ c. level-pick d (leb c L.count) _ bad refl tt)
level-step L d (in_array_word id c k v) b i = level-within d (push L k v b) (in_array_word id c) (at_array_word d id c) (λ w. level_element d id c (w / 8) (subtype_of (w % 8)))
level-step L d (in_float id w left k v) b i = level-pick d (ltb (k + 1) (bytes_of w)) _ _ refl (refl, tt)
level-step L d (in_payload id r total o) b i = absurd cc

-- ---- a call

-- at an event: the writer's depth after it is the reader's, it is written as what is owed of it, and the reader goes on
abbrev pub AtEvent : ℕ → Said → State → Type 0
AtEvent d (event e) s = (depth_by d e ≡ (stream_in s).carried.depth) × (Spelt e × Live s)
AtEvent d (verdict v) s = Unit {0}
AtEvent d invalid s = Unit {0}

raised_is : (d : ℕ) (p : Phase) (es : List Event) → ((stream_in (raised_state d p es)).carried.depth ≡ d) × Live (raised_state d p es)
raised_is d p [] = (refl, tt)
raised_is d p (Unsigned id n ∷ es) = (refl, tt)
raised_is d p (Signed id z ∷ es) = (refl, tt)
raised_is d p (Float id w x ∷ es) = (refl, tt)
raised_is d p (Piece id r total o bs ∷ es) = (refl, tt)
raised_is d p (Fixlen id s n ∷ es) = (refl, tt)
raised_is d p (Array id k n ∷ es) = (refl, tt)
raised_is d p (Begin id ∷ es) = (refl, tt)
raised_is d p (End ∷ es) = (refl, tt)

scanned-level : (d n : ℕ) (m : Stepped) (f : ℕ → Phase → Called) → Level d m → Kept base m
    → ((d' : ℕ) (p : Phase) → d' ≡ d → AtBytes base (reading d' p) → AtEvent d (f d' p).answer (f d' p).state) → AtEvent d (scanned n m f).answer (scanned n m f).state
unfolding scanned
scanned-level d n (on [] d' p) f l k g = g d' p l k
scanned-level d n (on (e ∷ es) d' p) f l k g = (l.0 ∙ sym (raised_is d' p es).0, (l.1, (raised_is d' p es).1))
scanned-level d n bad f l k g = tt

-- "bytes": each element is below 256
abbrev pub Bytes : List ℕ → Type 0
Bytes bs = (i : ℕ) → get_or bs i 0 < 256

scan-level : (n d : ℕ) (p : Phase) (bs : List ℕ) → Bytes bs → AtBytes base (reading d p) → AtEvent d (scan base n d p bs).answer (scan base n d p bs).state
scan-level n d p [] h a = subst (λ (c : Called). AtEvent d c.answer c.state) (sym (scan_end base n d p)) tt
scan-level n d p (b ∷ bs) h a =
    subst (λ (c : Called). AtEvent d c.answer c.state) (sym (scan_byte base n d p b bs a.1.1))
    (scanned-level d (suc n) (step base d p b) (λ d' p'. scan base (suc n) d' p' bs) (level-step base d p b a.1.1) (step_keeps base d p b a (h 0))
    (λ d' p' e k. subst (λ (x : ℕ). AtEvent x (scan base (suc n) d' p' bs).answer (scan base (suc n) d' p' bs).state) e (scan-level (suc n) d' p' bs (λ i. h (suc i)) k)))

-- reading byte by byte, or an empty payload's piece still due
abbrev pub Steady : State → Type 0
Steady (reading d p) = AtBytes base (reading d p)
Steady (owing d id r) = Unit {0}
Steady broke = ⊥

pub call-level : (st : State) (c : List ℕ) → Bytes c → Steady st → AtEvent (stream_in st).carried.depth (call base st c).answer (call base st c).state
unfolding call depth_by
call-level (reading d p) c h a = scan-level 0 d p c h a
call-level (owing d id r) c h a = (refl, (refl, tt))
call-level broke c h a = absurd a

-- ---- the code's states

-- not within a payload
abbrev NoPayload : code.Phase → Type 0
NoPayload p = (id : ℕ) (r : RawType) (total o : ℕ) → p ≡ phases.Payload id r total o → ⊥

pub steady : (s : IStream) → sound_stream base s ≡ true → Live (state_of s) → NoPayload s.phase → Steady (state_of s)
steady s t l h = go s.carried.depth s.phase (is_sound base s t) l h
  where
    go : (d : ℕ) (p : code.Phase) → SoundState base (state_at d p) → Live (state_at d p) → NoPayload p → Steady (state_at d p)
    go d (phases.Header a) (n, s) l h = (n, (s, refl))
    go d (phases.Unsigned id left a) (n, s) l h = (n, (s, refl))
    go d (phases.Signed id left a) (n, s) l h = (n, (s, refl))
    go d (phases.Word id a) (n, s) l h = (n, (s, refl))
    go d (phases.UnsignedCount id a) (n, s) l h = (n, (s, refl))
    go d (phases.SignedCount id a) (n, s) l h = (n, (s, refl))
    go d (phases.FloatCount id a) (n, s) l h = (n, (s, refl))
    go d (phases.ArrayWord id count a) (n, s) l h = (n, (s, refl))
    go d (phases.Float id w left k v) (n, s) l h = (n, (s, refl))
    go d (phases.Payload id r total o) s l h = absurd (h id r total o refl)
    go d (phases.Empty id r) s l h = tt
    go d phases.Broken s l h = absurd l

-- a sound state is within its payload or float
pub fair : (st : State) → SoundState base st → FairSpot (spot_of st)
fair (reading d (in_header zero v)) (n, s) = let h = s.small in omega arith
fair (reading d (in_header (suc k) v)) s = tt
fair (reading d (in_unsigned id left k v)) s = tt
fair (reading d (in_signed id left k v)) s = tt
fair (reading d (in_word id k v)) s = tt
fair (reading d (in_unsigned_count id k v)) s = tt
fair (reading d (in_signed_count id k v)) s = tt
fair (reading d (in_float_count id k v)) s = tt
fair (reading d (in_array_word id c k v)) s = tt
fair (reading d (in_float id w left k v)) (n, (i, (c, (k', x)))) = k'
fair (reading d (in_payload id r total o)) (n, (i, (t, x))) = x
fair (owing d id r) s = refl
fair broke s = tt
