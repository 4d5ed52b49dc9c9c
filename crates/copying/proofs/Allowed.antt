-- What the reader gives is as the layout allows: each event's id, subtype, kind, length and count are legal, its depth is the depth reached,
-- and the numbers in force of its state stay within the limits.
use Prim.Native.Nat.{ℕ, zero, suc, ◌+◌, ◌-◌, ◌/◌, ◌%◌, ◌≤◌, min}
use native.Mathlib.Omega.{arith}
use mathlib.Core.Path.{◌≡◌, refl, sym, subst}
use mathlib.Core.Bool.{Bool, true, false, ◌&&◌}
use mathlib.Core.List.{List, [], ◌∷◌}
use lib.Dec.{leb, ltb, eqb}
use borrow.Author.Tests.{leb-true, le-leb, ltb-true, eqb-true, eqb-false, eq-eqb}
use lib.ListN.{length}
use Rattle.layout.specs.Limits.{Limits, pick}
use Rattle.layout.specs.Varint.{Push, more, value, overrun, push}
use Rattle.layout.specs.Field.{Raw, Kind, Subtyped, Wire, bytes_of, subtype_of, wire_of, float, raw, known, unknown, unsigneds, signeds, floats}
use Rattle.layout.specs.Field.{t_unsigned, t_signed, t_fixlen, t_unsigneds, t_signeds, t_floats, t_begin, t_end}
use Rattle.layout.specs.Event.{Event, Unsigned, Signed, Float, Piece, Fixlen, Array, Begin, End}
use Rattle.machine.specs.Machine.{Phase, in_header, in_unsigned, in_signed, in_word, in_unsigned_count, in_signed_count, in_float_count, in_array_word, in_float, in_payload}
use Rattle.machine.specs.Machine.{idle, Stepped, on, bad, next_or, at_wire, at_header, at_payload, at_subtype, at_word, at_unsigned_count, at_signed_count, at_float_count}
use Rattle.machine.specs.Machine.{at_element, at_array_word, at_unsigned, at_signed, within, at_float, step}
use Rattle.machine.specs.Calls.{State, reading, owing, broke, byte, pace_of, Called, raised_state, scan, scanned, call}
use Rattle.machine.specs.Calls as calls
use Rattle.copying.specs.Owed.{depth_by, legal, level}
use Rattle.copying.specs.Copy.{Said, verdict, invalid}
use Rattle.copying.specs.Run.{NotPiece}
use Rattle.copying.proofs.Pieces.{NoneFirst, none-step, byte_scan}

-- ---- numbers in force

abbrev pub Numbers : Limits → Phase → Type 0
Numbers L (in_header k v) = Unit {0}
Numbers L (in_unsigned id left k v) = (id ≤ L.id) × (left ≤ L.count)
Numbers L (in_signed id left k v) = (id ≤ L.id) × (left ≤ L.count)
Numbers L (in_word id k v) = id ≤ L.id
Numbers L (in_unsigned_count id k v) = id ≤ L.id
Numbers L (in_signed_count id k v) = id ≤ L.id
Numbers L (in_float_count id k v) = id ≤ L.id
Numbers L (in_array_word id count k v) = (id ≤ L.id) × (count ≤ L.count)
Numbers L (in_float id w left k v) = (id ≤ L.id) × (left ≤ L.count)
Numbers L (in_payload id r total o) = (id ≤ L.id) × (total ≤ L.size)

abbrev pub InForce : Limits → State → Type 0
InForce L (reading d p) = (d ≤ L.depth) × Numbers L p
InForce L (owing d id r) = (d ≤ L.depth) × (id ≤ L.id)
InForce L broke = Unit {0}

-- ---- depths

-- once the event is written, the writer's depth is the reader's
pub depth_then : (d w : ℕ) (e : Event) → level d w e ≡ true → d ≡ depth_by w e
unfolding level depth_by
depth_then d w (Unsigned id n) h = eqb-true d w h
depth_then d w (Signed id z) h = eqb-true d w h
depth_then d w (Float id f x) h = eqb-true d w h
depth_then d w (Piece id r total o bs) h = eqb-true d w h
depth_then d w (Fixlen id s n) h = eqb-true d w h
depth_then d w (Array id k n) h = eqb-true d w h
depth_then d w (Begin id) h = eqb-true d (suc w) h
depth_then d w End h = let e = eqb-true (suc d) w h in omega arith

-- ---- a byte: the event that it raises is as the layout allows, and its depth is that event's

-- an event that comes at depth d with the state after it
pub record Raised (L : Limits) (d : ℕ) (e : Event) (s : State) (d' : ℕ) : Type 0 where
  pub even : level d' d e ≡ true
  pub allowed : NotPiece e → legal L e ≡ true
  pub force : InForce L s

abbrev SoundStep : Limits → ℕ → Stepped → Type 0
SoundStep L d (on [] d' p) = (d' ≡ d) × Numbers L p
SoundStep L d (on (e ∷ es) d' p) = Raised L d e (raised_state d' p es) d'
SoundStep L d bad = Unit {0}

same : (d : ℕ) → eqb d d ≡ true
same d = eq-eqb d d refl

by_test : (P : Stepped → Type 0) (t : Bool) {x y : Stepped} → (t ≡ true → P x) → (t ≡ false → P y) → P (pick t x y)
by_test P true f g = f refl
by_test P false f g = g refl

within-sound : (L : Limits) (d : ℕ) (q : Push) (p : ℕ → ℕ → Phase) (g : ℕ → Stepped) → ((k v : ℕ) → Numbers L (p k v)) → ((x : ℕ) → SoundStep L d (g x)) → SoundStep L d (within d q p g)
unfolding within
within-sound L d (more k v) p g h h' = (refl, h k v)
within-sound L d (value x) p g h h' = h' x
within-sound L d overrun p g h h' = tt

next-sound : (L : Limits) (n : ℕ) (p : ℕ → Phase) → n ≤ suc L.count → ((m : ℕ) → m ≤ L.count → Numbers L (p m)) → Numbers L (next_or n p)
next-sound L zero p h f = tt
next-sound L (suc zero) p h f = tt
next-sound L (suc (suc n)) p h f = f (suc n) (omega arith)

wire_sound : (L : Limits) (d id : ℕ) (t : Wire) → d ≤ L.depth → id ≤ L.id → SoundStep L d (at_wire L d id t)
unfolding level legal
wire_sound L d id t_unsigned l h = (refl, (h, omega arith))
wire_sound L d id t_signed l h = (refl, (h, omega arith))
wire_sound L d id t_fixlen l h = (refl, h)
wire_sound L d id t_unsigneds l h = (refl, h)
wire_sound L d id t_signeds l h = (refl, h)
wire_sound L d id t_floats l h = (refl, h)
wire_sound L d id t_begin l h =
    by_test (SoundStep L d) (ltb d L.depth) (λ q. record { even = same (suc d); allowed = λ n. le-leb id L.id h; force = (ltb-true d L.depth q, tt) }) (λ q. tt)
wire_sound L d id t_end l h =
    by_test (SoundStep L d) (eqb d 0) (λ q. tt) (λ q. record { even = eq-eqb (suc (d - 1)) d (back q); allowed = λ n. refl; force = (omega arith, tt) })
  where
    some : (d : ℕ) → (d ≡ 0 → ⊥) → suc (d - 1) ≡ d
    some zero f = absurd (f refl)
    some (suc d) f = omega arith

    back : eqb d 0 ≡ false → suc (d - 1) ≡ d
    back q = some d (eqb-false d 0 q)

-- both of two tests
pub all_of_lem : (x y : Bool) → x ≡ true → y ≡ true → (x && y) ≡ true
all_of_lem true true h h' = refl
all_of_lem true false h h' = h'
all_of_lem false y h h' = h

pub both : (x y : Bool) → (x && y) ≡ true → (x ≡ true) × (y ≡ true)
both true true h = (refl, refl)
both true false h = (refl, h)
both false y h = let w : ◌≡◌ {A = ℕ} 0 1 = cc in absurd (omega arith)

payload_sound : (L : Limits) (d id : ℕ) (r : Raw) (m : ℕ) → d ≤ L.depth → id ≤ L.id → m ≤ L.size → SoundStep L d (at_payload d id r m)
unfolding level legal
payload_sound L d id r zero l h i = record { even = same d; allowed = λ n. all_of_lem _ _ (le-leb id L.id h) (le-leb 0 L.size i); force = (l, h) }
payload_sound L d id r (suc m) l h i = record { even = same d; allowed = λ n. all_of_lem _ _ (le-leb id L.id h) (le-leb (suc m) L.size i); force = (l, (h, i)) }

subtype-sound : (L : Limits) (d id m : ℕ) (s : Subtyped) → d ≤ L.depth → id ≤ L.id → SoundStep L d (at_subtype L d id m s)
unfolding level legal
subtype-sound L d id m (known (float w)) l h =
    by_test (SoundStep L d) (eqb m (bytes_of w)) (λ q. record { even = same d; allowed = λ n. all_of_lem _ _ (le-leb id L.id h) q; force = (l, (h, omega arith)) }) (λ q. tt)
subtype-sound L d id m (known (raw r)) l h = by_test (SoundStep L d) (leb m L.size) (λ q. payload_sound L d id r m l h (leb-true m L.size q)) (λ q. tt)
subtype-sound L d id m unknown l h = tt

-- an array is announced
array_raised : (L : Limits) (d id : ℕ) (k : Kind) (n : ℕ) (p : ℕ → Phase) → d ≤ L.depth → id ≤ L.id → n ≤ L.count → ((m : ℕ) → m ≤ L.count → Numbers L (p m))
    → Raised L d (Array id k n) (reading d (next_or (suc n) p)) d
unfolding level legal
array_raised L d id k n p l h i f =
    record { even = same d; allowed = λ x. all_of_lem _ _ (le-leb id L.id h) (le-leb n L.count i); force = (l, next-sound L (suc n) p (omega arith) f) }

element_sound : (L : Limits) (d id c m : ℕ) (s : Subtyped) → d ≤ L.depth → id ≤ L.id → c ≤ L.count → SoundStep L d (at_element d id c m s)
element_sound L d id c m (known (float w)) l h i =
    by_test (SoundStep L d) (eqb m (bytes_of w)) (λ q. array_raised L d id (floats w) c (λ left. in_float id w left 0 0) l h i (λ m j. (h, j))) (λ q. tt)
element_sound L d id c m (known (raw r)) l h i = tt
element_sound L d id c m unknown l h i = tt

step-sound : (L : Limits) (d : ℕ) (p : Phase) (b : ℕ) → pace_of p ≡ byte → d ≤ L.depth → Numbers L p → SoundStep L d (step L d p b)
unfolding step level legal at_header at_word at_unsigned_count at_signed_count at_float_count at_array_word at_unsigned at_signed at_float
step-sound L d (in_header k v) b i l n =
    within-sound L d (push L k v b) in_header (at_header L d) (λ k v. tt)
    (λ h. by_test (SoundStep L d) (leb (h / 8) L.id) (λ q. wire_sound L d (h / 8) (wire_of (h % 8)) l (leb-true (h / 8) L.id q)) (λ q. tt))
step-sound L d (in_unsigned id left k v) b i l (h, c) =
    within-sound L d (push L k v b) (in_unsigned id left) (at_unsigned d id left) (λ k v. (h, c))
    (λ x. record { even = same d; allowed = λ n. le-leb id L.id h; force = (l, next-sound L left (λ m. in_unsigned id m 0 0) (omega arith) (λ m j. (h, j))) })
step-sound L d (in_signed id left k v) b i l (h, c) =
    within-sound L d (push L k v b) (in_signed id left) (at_signed d id left) (λ k v. (h, c))
    (λ x. record { even = same d; allowed = λ n. le-leb id L.id h; force = (l, next-sound L left (λ m. in_signed id m 0 0) (omega arith) (λ m j. (h, j))) })
step-sound L d (in_word id k v) b i l h = within-sound L d (push L k v b) (in_word id) (at_word L d id) (λ k v. h) (λ w. subtype-sound L d id (w / 8) (subtype_of (w % 8)) l h)
step-sound L d (in_unsigned_count id k v) b i l h =
    within-sound L d (push L k v b) (in_unsigned_count id) (at_unsigned_count L d id) (λ k v. h)
    (λ c. by_test (SoundStep L d) (leb c L.count) (λ q. array_raised L d id unsigneds c (λ left. in_unsigned id left 0 0) l h (leb-true c L.count q) (λ m j. (h, j))) (λ q. tt))
step-sound L d (in_signed_count id k v) b i l h =
    within-sound L d (push L k v b) (in_signed_count id) (at_signed_count L d id) (λ k v. h)
    (λ c. by_test (SoundStep L d) (leb c L.count) (λ q. array_raised L d id signeds c (λ left. in_signed id left 0 0) l h (leb-true c L.count q) (λ m j. (h, j))) (λ q. tt))
step-sound L d (in_float_count id k v) b i l h =
    within-sound L d (push L k v b) (in_float_count id) (at_float_count L d id) (λ k v. h)
    (λ c. by_test (SoundStep L d) (leb c L.count) (λ q. (refl, (h, leb-true c L.count q))) (λ q. tt))
step-sound L d (in_array_word id c k v) b i l (h, j) =
    within-sound L d (push L k v b) (in_array_word id c) (at_array_word d id c) (λ k v. (h, j)) (λ w. element_sound L d id c (w / 8) (subtype_of (w % 8)) l h j)
step-sound L d (in_float id w left k v) b i l (h, c) =
    by_test (SoundStep L d) (ltb (k + 1) (bytes_of w)) (λ q. (refl, (h, c)))
    (λ q. record { even = same d; allowed = λ n. le-leb id L.id h; force = (l, next-sound L left (λ m. in_float id w m 0 0) (omega arith) (λ m j. (h, j))) })
step-sound L d (in_payload id r total o) b i l n = let w : ◌≡◌ {A = ℕ} 0 1 = cc in absurd (omega arith)

-- ---- a call of the reader

abbrev pub Gave : Limits → ℕ → Event → State → Type 0
Gave L d e (reading d' p) = Raised L d e (reading d' p) d'
Gave L d e (owing d' id r) = Raised L d e (owing d' id r) d'
Gave L d e broke = ⊥

abbrev pub Stood : Limits → ℕ → State → Type 0
Stood L d (reading d' p) = (d' ≡ d) × InForce L (reading d' p)
Stood L d (owing d' id r) = ⊥
Stood L d broke = ⊥

-- what a call at depth d comes to
abbrev pub SoundCall : Limits → ℕ → calls.Said → State → Type 0
SoundCall L d (calls.event e) s = Gave L d e s
SoundCall L d (calls.verdict v) s = Stood L d s
SoundCall L d calls.invalid s = s ≡ broke

gave : (L : Limits) (d : ℕ) (e : Event) (d' : ℕ) (p : Phase) (es : List Event) → Raised L d e (raised_state d' p es) d' → Gave L d e (raised_state d' p es)
gave L d e d' p [] h = h
gave L d e d' p (Unsigned id n ∷ es) h = h
gave L d e d' p (Signed id z ∷ es) h = h
gave L d e d' p (Float id w x ∷ es) h = h
gave L d e d' p (Piece id r total o bs ∷ es) h = h
gave L d e d' p (Fixlen id s n ∷ es) h = h
gave L d e d' p (Array id k n ∷ es) h = h
gave L d e d' p (Begin id ∷ es) h = h
gave L d e d' p (End ∷ es) h = h

scanned-sound : (L : Limits) (n d : ℕ) (s : Stepped) (f : ℕ → Phase → Called) → SoundStep L d s → NoneFirst s
    → ((p : Phase) → pace_of p ≡ byte → Numbers L p → SoundCall L d (f d p).answer (f d p).state) → SoundCall L d (scanned n s f).answer (scanned n s f).state
unfolding scanned
scanned-sound L n d (on [] d' p) f (e, h) i g = subst (λ (x : ℕ). SoundCall L d (f x p).answer (f x p).state) (sym e) (g p i h)
scanned-sound L n d (on (e ∷ es) d' p) f h i g = gave L d e d' p es h
scanned-sound L n d bad f h i g = refl

scan-sound : (L : Limits) (n d : ℕ) (p : Phase) (bs : List ℕ) → pace_of p ≡ byte → d ≤ L.depth → Numbers L p → SoundCall L d (scan L n d p bs).answer (scan L n d p bs).state
unfolding scan
scan-sound L n d p [] i l h = (refl, (l, h))
scan-sound L n d p (x ∷ xs) i l h =
    subst (λ (r : Called). SoundCall L d r.answer r.state) (sym (byte_scan L n d p x xs i))
    (scanned-sound L (suc n) d (step L d p x) _ (step-sound L d p x i l h) (none-step L d p x i) (λ p' i' h'. scan-sound L (suc n) d p' xs i' l h'))

piece-sound : (L : Limits) (d id : ℕ) (r : Raw) (total o : ℕ) (bs : List ℕ) → d ≤ L.depth → id ≤ L.id → total ≤ L.size
    → SoundCall L d (scan L 0 d (in_payload id r total o) bs).answer (scan L 0 d (in_payload id r total o) bs).state
unfolding scan level
piece-sound L d id r total o [] l h i = (refl, (l, (h, i)))
piece-sound L d id r total o (x ∷ xs) l h i = record { even = same d; allowed = λ n. absurd n; force = (l, go (ltb (o + min (total - o) (length (x ∷ xs))) total)) }
  where
    go : (t : Bool) → Numbers L (pick t (in_payload id r total (o + min (total - o) (length (x ∷ xs)))) idle)
    go true = (h, i)
    go false = tt

abbrev pub CallOf : Limits → State → Called → Type 0
CallOf L (reading d p) r = SoundCall L d r.answer r.state
CallOf L (owing d id q) r = SoundCall L d r.answer r.state
CallOf L broke r = (r.answer ≡ calls.invalid) × (r.state ≡ broke)

pub call-sound : (L : Limits) (s : State) (c : List ℕ) → InForce L s → CallOf L s (call L s c)
unfolding call level
call-sound L (reading d (in_header k v)) c (l, h) = scan-sound L 0 d (in_header k v) c refl l h
call-sound L (reading d (in_unsigned id left k v)) c (l, h) = scan-sound L 0 d (in_unsigned id left k v) c refl l h
call-sound L (reading d (in_signed id left k v)) c (l, h) = scan-sound L 0 d (in_signed id left k v) c refl l h
call-sound L (reading d (in_word id k v)) c (l, h) = scan-sound L 0 d (in_word id k v) c refl l h
call-sound L (reading d (in_unsigned_count id k v)) c (l, h) = scan-sound L 0 d (in_unsigned_count id k v) c refl l h
call-sound L (reading d (in_signed_count id k v)) c (l, h) = scan-sound L 0 d (in_signed_count id k v) c refl l h
call-sound L (reading d (in_float_count id k v)) c (l, h) = scan-sound L 0 d (in_float_count id k v) c refl l h
call-sound L (reading d (in_array_word id n k v)) c (l, h) = scan-sound L 0 d (in_array_word id n k v) c refl l h
call-sound L (reading d (in_float id w left k v)) c (l, h) = scan-sound L 0 d (in_float id w left k v) c refl l h
call-sound L (reading d (in_payload id r total o)) c (l, (h, i)) = piece-sound L d id r total o c l h i
call-sound L (owing d id r) c (l, h) = record { even = same d; allowed = λ n. absurd n; force = (l, tt) }
call-sound L broke c h = (refl, refl)
