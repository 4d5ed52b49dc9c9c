-- A piece goes out whole in the turn that reads it: it is never more than the room that its bytes were handed for.
use Prim.Native.Nat.{ℕ, zero, suc, ◌+◌, ◌-◌, ◌/◌, ◌%◌, ◌<◌, ◌≤◌, min}
use native.Mathlib.Omega.{arith}
use mathlib.Core.Path.{◌≡◌, refl, sym, ap, ◌∙◌, subst}
use mathlib.Core.Bool.{Bool, true, false}
use mathlib.Core.Logic.{◌⊎◌, inl, inr}
use mathlib.Core.List.{List, [], ◌∷◌}
use lib.Dec.{ltb, leb, eqb}
use lib.ListN.{length, take, length-take}
use Rattle.layout.specs.Limits.{Limits, pick}
use Rattle.layout.specs.Varint.{Push, more, value, overrun, push}
use Rattle.layout.specs.Field.{Raw, Subtyped, Wire, bytes_of, subtype_of, wire_of, float, raw, known, unknown}
use Rattle.layout.specs.Field.{t_unsigned, t_signed, t_fixlen, t_unsigneds, t_signeds, t_floats, t_begin, t_end}
use Rattle.layout.specs.Event.{Event, Piece}
use Rattle.laws.specs.Events.{event_bytes}
use Rattle.machine.specs.Machine.{Phase, in_header, in_unsigned, in_signed, in_word, in_unsigned_count, in_signed_count, in_float_count, in_array_word, in_float, in_payload}
use Rattle.machine.specs.Machine.{Stepped, on, bad, at_wire, at_header, at_payload, at_subtype, at_word, at_unsigned_count, at_signed_count, at_float_count}
use Rattle.machine.specs.Machine.{at_element, at_array_word, at_unsigned, at_signed, within, at_float, step}
use Rattle.machine.specs.Calls.{State, reading, owing, broke, Pace, byte, bulk, pace_of, Called, piece, scan, scanned, call}
use Rattle.machine.specs.Calls as calls
use Rattle.copying.specs.Owed.{rest}
use Rattle.copying.specs.Copy.{Copy, handed}
use Rattle.copying.specs.Run.{Bulk, NotPiece, NoPiece}
use Rattle.copying.proofs.Turns.{handed-room, bulk_event}

-- ---- a byte that is no payload's raises no piece first, and leads on to another such byte

abbrev pub NoneFirst : Stepped → Type 0
NoneFirst (on [] d p) = pace_of p ≡ byte
NoneFirst (on (e ∷ es) d p) = NotPiece e
NoneFirst bad = Unit {0}

none-pick : (t : Bool) (s s' : Stepped) → NoneFirst s → NoneFirst s' → NoneFirst (pick t s s')
none-pick true s s' h h' = h
none-pick false s s' h h' = h'

none_within : (d : ℕ) (q : Push) (p : ℕ → ℕ → Phase) (g : ℕ → Stepped) → ((k v : ℕ) → pace_of (p k v) ≡ byte) → ((x : ℕ) → NoneFirst (g x)) → NoneFirst (within d q p g)
unfolding within
none_within d (more k v) p g h h' = h k v
none_within d (value x) p g h h' = h' x
none_within d overrun p g h h' = tt

none_wire : (L : Limits) (d id : ℕ) (t : Wire) → NoneFirst (at_wire L d id t)
none_wire L d id t_unsigned = refl
none_wire L d id t_signed = refl
none_wire L d id t_fixlen = refl
none_wire L d id t_unsigneds = refl
none_wire L d id t_signeds = refl
none_wire L d id t_floats = refl
none_wire L d id t_begin = none-pick (ltb d L.depth) _ bad tt tt
none_wire L d id t_end = none-pick (eqb d 0) bad _ tt tt

none_payload : (d id : ℕ) (r : Raw) (m : ℕ) → NoneFirst (at_payload d id r m)
none_payload d id r zero = tt
none_payload d id r (suc m) = tt

none-subtype : (L : Limits) (d id m : ℕ) (s : Subtyped) → NoneFirst (at_subtype L d id m s)
none-subtype L d id m (known (float w)) = none-pick (eqb m (bytes_of w)) _ bad tt tt
none-subtype L d id m (known (raw r)) = none-pick (leb m L.size) _ bad (none_payload d id r m) tt
none-subtype L d id m unknown = tt

none_element : (d id c m : ℕ) (s : Subtyped) → NoneFirst (at_element d id c m s)
none_element d id c m (known (float w)) = none-pick (eqb m (bytes_of w)) _ bad tt tt
none_element d id c m (known (raw r)) = tt
none_element d id c m unknown = tt

pub none-step : (L : Limits) (d : ℕ) (p : Phase) (b : ℕ) → pace_of p ≡ byte → NoneFirst (step L d p b)
unfolding step at_header at_word at_unsigned_count at_signed_count at_float_count at_array_word at_unsigned at_signed at_float
none-step L d (in_header k v) b i = none_within d (push L k v b) in_header (at_header L d) (λ k v. refl) (λ h. none-pick (leb (h / 8) L.id) _ bad (none_wire L d (h / 8) (wire_of (h % 8))) tt)
none-step L d (in_unsigned id left k v) b i = none_within d (push L k v b) (in_unsigned id left) (at_unsigned d id left) (λ k v. refl) (λ x. tt)
none-step L d (in_signed id left k v) b i = none_within d (push L k v b) (in_signed id left) (at_signed d id left) (λ k v. refl) (λ x. tt)
none-step L d (in_word id k v) b i = none_within d (push L k v b) (in_word id) (at_word L d id) (λ k v. refl) (λ w. none-subtype L d id (w / 8) (subtype_of (w % 8)))
none-step L d (in_unsigned_count id k v) b i = none_within d (push L k v b) (in_unsigned_count id) (at_unsigned_count L d id) (λ k v. refl) (λ c. none-pick (leb c L.count) _ bad tt tt)
none-step L d (in_signed_count id k v) b i = none_within d (push L k v b) (in_signed_count id) (at_signed_count L d id) (λ k v. refl) (λ c. none-pick (leb c L.count) _ bad tt tt)
none-step L d (in_float_count id k v) b i = none_within d (push L k v b) (in_float_count id) (at_float_count L d id) (λ k v. refl) (λ c. none-pick (leb c L.count) _ bad refl tt)
none-step L d (in_array_word id c k v) b i = none_within d (push L k v b) (in_array_word id c) (at_array_word d id c) (λ k v. refl) (λ w. none_element d id c (w / 8) (subtype_of (w % 8)))
none-step L d (in_float id w left k v) b i = none-pick (ltb (k + 1) (bytes_of w)) _ _ refl tt
none-step L d (in_payload id r total o) b i = let w : ◌≡◌ {A = ℕ} 0 1 = cc in absurd (omega arith)

-- ---- a call

abbrev NoneGiven : calls.Said → Type 0
NoneGiven (calls.event e) = NotPiece e
NoneGiven (calls.verdict v) = Unit {0}
NoneGiven calls.invalid = Unit {0}

none-scanned : (n : ℕ) (s : Stepped) (f : ℕ → Phase → Called) → NoneFirst s → ((d : ℕ) (p : Phase) → pace_of p ≡ byte → NoneGiven (f d p).answer) → NoneGiven (scanned n s f).answer
unfolding scanned
none-scanned n (on [] d p) f h g = g d p h
none-scanned n (on (e ∷ es) d p) f h g = h
none-scanned n bad f h g = tt

pub byte_scan : (L : Limits) (n d : ℕ) (p : Phase) (x : ℕ) (xs : List ℕ) → pace_of p ≡ byte → scan L n d p (x ∷ xs) ≡ scanned (suc n) (step L d p x) (λ d' p'. scan L (suc n) d' p' xs)
unfolding scan
byte_scan L n d p x xs e =
    ap
    (λ (q : Pace).
    elim q [
      | byte ↦ scanned (suc n) (step L d p x) (λ d' p'. scan L (suc n) d' p' xs)
      | bulk id r total o ↦ piece n d id r total o (min (total - o) (length (x ∷ xs))) (x ∷ xs)
    ])
    e

none-scan : (L : Limits) (n d : ℕ) (p : Phase) (bs : List ℕ) → pace_of p ≡ byte → NoneGiven (scan L n d p bs).answer
unfolding scan
none-scan L n d p [] i = tt
none-scan L n d p (x ∷ xs) i =
    subst (λ (r : Called). NoneGiven r.answer) (sym (byte_scan L n d p x xs i))
    (none-scanned (suc n) (step L d p x) _ (none-step L d p x i) (λ d' p' j. none-scan L (suc n) d' p' xs j))

-- no piece, or a piece that there is room for
abbrev pub Fitting : ℕ → ℕ → Event → Type 0
Fitting due room e = NotPiece e ⊎ (length (event_bytes due e) ≤ room)

from_byte : (due room : ℕ) (a : calls.Said) (e : Event) → a ≡ calls.event e → NoneGiven a → Fitting due room e
from_byte due room a e i h = inl (subst NoneGiven i h)

from_bulk : (due room n d id : ℕ) (r : Raw) (total o k : ℕ) (xs : List ℕ) (e : Event) → (piece n d id r total o k xs).answer ≡ calls.event e → length xs ≤ room → Fitting due room e
unfolding event_bytes
from_bulk due room n d id r total o k xs e i h =
    let w : Piece id r total o (take k xs) ≡ e = cc in
    let m : length (take k xs) ≡ min k (length xs) = length-take k xs in
    subst (Fitting due room) w (inr (omega arith))

fitting_scan : (L : Limits) (due room d : ℕ) (p : Phase) (xs : List ℕ) (e : Event) (q : Pace) → pace_of p ≡ q → (Bulk q → length xs ≤ room) → (scan L 0 d p xs).answer ≡ calls.event e
    → Fitting due room e
unfolding scan
fitting_scan L due room d p xs e byte i l h = from_byte due room (scan L 0 d p xs).answer e h (none-scan L 0 d p xs i)
fitting_scan L due room d p [] e (bulk id r total o) i l h = let w : ◌≡◌ {A = ℕ} 0 1 = cc in absurd (omega arith)
fitting_scan L due room d p (x ∷ xs) e (bulk id r total o) i l h =
    from_bulk due room 0 d id r total o (min (total - o) (length (x ∷ xs))) (x ∷ xs) e
    (sym (ap (λ (c : Called). c.answer) (bulk_event L 0 d p x xs id r total o i)) ∙ h) (l tt)

-- What the reader gives in a turn is no piece, or a piece that there is room for.
pub given-fits : (L : Limits) (due : ℕ) (s : State) (room : ℕ) (c : List ℕ) (e : Event) → (call L s (handed s room c)).answer ≡ calls.event e → Fitting due room e
unfolding call handed event_bytes
given-fits L due (reading d p) room c e h =
    fitting_scan L due room d p (handed (reading d p) room c) e (pace_of p) refl (λ i. handed-room (reading d p) room c i) h
given-fits L due (owing d id r) room c e h = let w : Piece id r 0 0 [] ≡ e = cc in subst (Fitting due room) w (inr (omega arith))
given-fits L due broke room c e h = let w : ◌≡◌ {A = ℕ} 0 1 = cc in absurd (omega arith)

-- ---- between turns

-- what is owed is no piece, or there is room for it
abbrev pub Takes : Copy → List ℕ → Type 0
Takes k b = NoPiece k.owed ⊎ (length (rest k.owed) ≤ length b - k.pos)

pub takes_plain : (k : Copy) (b : List ℕ) → Takes k b → length b - k.pos < length (rest k.owed) → NoPiece k.owed
takes_plain k b (inl h) l = h
takes_plain k b (inr h) l = absurd (omega arith)
