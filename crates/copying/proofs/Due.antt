-- The elements of an array that are due after the events given are those that the reader's phase counts: so an element is told from a field
-- of its own by the state before its event.
use Prim.Native.Nat.{ℕ, zero, suc, ◌+◌, ◌-◌, ◌/◌, ◌%◌}
use native.Mathlib.Omega.{arith}
use mathlib.Core.Path.{◌≡◌, refl, sym, ap, ◌∙◌, subst}
use mathlib.Core.Bool.{Bool, true, false}
use mathlib.Core.List.{List, [], ◌∷◌, ◌++◌}
use lib.Dec.{ltb, leb, eqb}
use Rattle.layout.specs.Limits.{Limits, pick}
use Rattle.layout.specs.Varint.{Push, more, value, overrun, push}
use Rattle.layout.specs.Field.{Raw, Subtyped, Wire, bytes_of, subtype_of, wire_of, float, raw, known, unknown}
use Rattle.layout.specs.Field.{t_unsigned, t_signed, t_fixlen, t_unsigneds, t_signeds, t_floats, t_begin, t_end}
use Rattle.layout.specs.Event.{Event, Unsigned, Signed, Float, Piece, Fixlen, Array, Begin, End, cut_from, cut_piece, cut, bytewise}
use Rattle.laws.specs.Events.{due_after, due_after_all}
use Rattle.machine.specs.Machine.{Phase, in_header, in_unsigned, in_signed, in_word, in_unsigned_count, in_signed_count, in_float_count, in_array_word, in_float, in_payload}
use Rattle.machine.specs.Machine.{idle, Stepped, on, bad, next_or, at_wire, at_header, at_payload, at_subtype, at_word, at_unsigned_count, at_signed_count, at_float_count}
use Rattle.machine.specs.Machine.{at_element, at_array_word, at_unsigned, at_signed, within, at_float, at_byte, step, Spot, at, broken_before, Walk, onward, walk}
use Rattle.machine.specs.Calls.{State, reading, owing, broke}
use Rattle.machine.specs.Run.{due, spot_of, Follows}
use Rattle.copying.specs.Owed.{left_in, due_in}

-- ---- events in two parts, and pieces cut into bytes

due-append : (n : ℕ) (es fs : List Event) → due_after_all n (es ++ fs) ≡ due_after_all (due_after_all n es) fs
unfolding due_after_all
due-append n [] fs = refl
due-append n (e ∷ es) fs = due-append (due_after n e) es fs

due_pieces : (n id : ℕ) (r : Raw) (total o : ℕ) (bs : List ℕ) → due_after_all n (cut_from id r total o bs) ≡ n
unfolding due_after_all due_after cut_from
due_pieces n id r total o [] = refl
due_pieces n id r total o (b ∷ bs) = due_pieces n id r total (suc o) bs

due-cut : (n : ℕ) (e : Event) → due_after_all n (cut e) ≡ due_after n e
unfolding due_after_all due_after cut cut_piece
due-cut n (Unsigned id v) = refl
due-cut n (Signed id z) = refl
due-cut n (Float id w x) = refl
due-cut n (Piece id r total o []) = refl
due-cut n (Piece id r total o (b ∷ bs)) = due_pieces n id r total o (b ∷ bs)
due-cut n (Fixlen id s m) = refl
due-cut n (Array id k m) = refl
due-cut n (Begin id) = refl
due-cut n End = refl

due-bytewise : (n : ℕ) (es : List Event) → due_after_all n (bytewise es) ≡ due_after_all n es
unfolding due_after_all bytewise
due-bytewise n [] = refl
due-bytewise n (e ∷ es) = due-append n (cut e) (bytewise es) ∙ ap (λ (m : ℕ). due_after_all m (bytewise es)) (due-cut n e) ∙ due-bytewise (due_after n e) es

-- ---- a byte

abbrev DueStep : ℕ → Stepped → Type 0
DueStep n (on es d p) = due_after_all n es ≡ left_in p
DueStep n bad = Unit {0}

due-pick : (t : Bool) (n : ℕ) (s s' : Stepped) → DueStep n s → DueStep n s' → DueStep n (pick t s s')
due-pick true n s s' h h' = h
due-pick false n s s' h h' = h'

due-within : (n d : ℕ) (q : Push) (p : ℕ → ℕ → Phase) (g : ℕ → Stepped) → ((k v : ℕ) → n ≡ left_in (p k v)) → ((x : ℕ) → DueStep n (g x)) → DueStep n (within d q p g)
unfolding within due_after_all
due-within n d (more k v) p g h h' = h k v
due-within n d (value x) p g h h' = h' x
due-within n d overrun p g h h' = tt

due-next : (left : ℕ) (p : ℕ → Phase) → ((m : ℕ) → left_in (p m) ≡ m) → left - 1 ≡ left_in (next_or left p)
due-next zero p h = refl
due-next (suc zero) p h = refl
due-next (suc (suc m)) p h = less ∙ sym (h (suc m))
  where
    less : suc (suc m) - 1 ≡ suc m
    less = omega arith

due_first : (n : ℕ) (p : ℕ → Phase) → ((m : ℕ) → left_in (p m) ≡ m) → n ≡ left_in (next_or (suc n) p)
due_first n p h = less ∙ due-next (suc n) p h
  where
    less : n ≡ suc n - 1
    less = omega arith

due_wire : (L : Limits) (d id : ℕ) (t : Wire) → DueStep 0 (at_wire L d id t)
unfolding due_after_all due_after
due_wire L d id t_unsigned = refl
due_wire L d id t_signed = refl
due_wire L d id t_fixlen = refl
due_wire L d id t_unsigneds = refl
due_wire L d id t_signeds = refl
due_wire L d id t_floats = refl
due_wire L d id t_begin = due-pick (ltb d L.depth) 0 _ bad refl tt
due_wire L d id t_end = due-pick (eqb d 0) 0 bad _ tt refl

due_payload : (d id : ℕ) (r : Raw) (m : ℕ) → DueStep 0 (at_payload d id r m)
unfolding due_after_all due_after
due_payload d id r zero = refl
due_payload d id r (suc m) = refl

due-subtype : (L : Limits) (d id m : ℕ) (s : Subtyped) → DueStep 0 (at_subtype L d id m s)
unfolding due_after_all due_after
due-subtype L d id m (known (float w)) = due-pick (eqb m (bytes_of w)) 0 _ bad refl tt
due-subtype L d id m (known (raw r)) = due-pick (leb m L.size) 0 _ bad (due_payload d id r m) tt
due-subtype L d id m unknown = tt

due_element : (d id c m : ℕ) (s : Subtyped) → DueStep 0 (at_element d id c m s)
unfolding due_after_all due_after
due_element d id c m (known (float w)) = due-pick (eqb m (bytes_of w)) 0 _ bad (due_first c (λ left. in_float id w left 0 0) (λ m. refl)) tt
due_element d id c m (known (raw r)) = tt
due_element d id c m unknown = tt

due-step : (L : Limits) (d : ℕ) (p : Phase) (b : ℕ) → DueStep (left_in p) (step L d p b)
unfolding step due_after_all due_after at_header at_word at_unsigned_count at_signed_count at_float_count at_array_word at_unsigned at_signed at_float at_byte
due-step L d (in_header k v) b = due-within 0 d (push L k v b) in_header (at_header L d) (λ k v. refl) (λ h. due-pick (leb (h / 8) L.id) 0 _ bad (due_wire L d (h / 8) (wire_of (h % 8))) tt)
due-step L d (in_unsigned id left k v) b = due-within left d (push L k v b) (in_unsigned id left) (at_unsigned d id left) (λ k v. refl) (λ x. due-next left (λ m. in_unsigned id m 0 0) (λ m. refl))
due-step L d (in_signed id left k v) b = due-within left d (push L k v b) (in_signed id left) (at_signed d id left) (λ k v. refl) (λ x. due-next left (λ m. in_signed id m 0 0) (λ m. refl))
due-step L d (in_word id k v) b = due-within 0 d (push L k v b) (in_word id) (at_word L d id) (λ k v. refl) (λ w. due-subtype L d id (w / 8) (subtype_of (w % 8)))
due-step L d (in_unsigned_count id k v) b =
    due-within 0 d (push L k v b) (in_unsigned_count id) (at_unsigned_count L d id) (λ k v. refl)
    (λ c. due-pick (leb c L.count) 0 _ bad (due_first c (λ left. in_unsigned id left 0 0) (λ m. refl)) tt)
due-step L d (in_signed_count id k v) b =
    due-within 0 d (push L k v b) (in_signed_count id) (at_signed_count L d id) (λ k v. refl)
    (λ c. due-pick (leb c L.count) 0 _ bad (due_first c (λ left. in_signed id left 0 0) (λ m. refl)) tt)
due-step L d (in_float_count id k v) b = due-within 0 d (push L k v b) (in_float_count id) (at_float_count L d id) (λ k v. refl) (λ c. due-pick (leb c L.count) 0 _ bad refl tt)
due-step L d (in_array_word id c k v) b = due-within 0 d (push L k v b) (in_array_word id c) (at_array_word d id c) (λ k v. refl) (λ w. due_element d id c (w / 8) (subtype_of (w % 8)))
due-step L d (in_float id w left k v) b = due-pick (ltb (k + 1) (bytes_of w)) left _ _ refl (due-next left (λ m. in_float id w m 0 0) (λ m. refl))
due-step L d (in_payload id r total o) b = go (ltb (suc o) total)
  where
    go : (t : Bool) → 0 ≡ left_in (pick t (in_payload id r total (suc o)) idle)
    go true = refl
    go false = refl

-- ---- a byte string

abbrev DueSpot : ℕ → Spot → Type 0
DueSpot n (at d p) = n ≡ left_in p
DueSpot n (broken_before rest) = Unit {0}

due-onward : (n : ℕ) (s : Stepped) (bs : List ℕ) (f : ℕ → Phase → Walk) → DueStep n s → ((d : ℕ) (p : Phase) → DueSpot (due_after_all (left_in p) (f d p).events) (f d p).spot)
    → DueSpot (due_after_all n (onward s bs f).events) (onward s bs f).spot
unfolding onward
due-onward n (on es d p) bs f h g =
    subst (λ (m : ℕ). DueSpot m (f d p).spot) (sym (due-append n es (f d p).events ∙ ap (λ (m : ℕ). due_after_all m (f d p).events) h)) (g d p)
due-onward n bad bs f h g = tt

walked_due : (L : Limits) (d : ℕ) (p : Phase) (bs : List ℕ) → DueSpot (due_after_all (left_in p) (walk L d p bs).events) (walk L d p bs).spot
unfolding walk due_after_all
walked_due L d p [] = refl
walked_due L d p (b ∷ bs) = due-onward (left_in p) (step L d p b) bs _ (due-step L d p b) (λ d' p'. walked_due L d' p' bs)

-- with the event still due, a piece, those of a reader's events
given-due : (L : Limits) (bs : List ℕ) (es : List Event) (s : State) → Follows L bs es s → DueSpot (due_after_all (due_after_all 0 es) (due s)) (spot_of s)
given-due L bs es s f =
    subst (λ (n : ℕ). DueSpot n (spot_of s))
    (ap (due_after_all 0) f.events ∙ due-append 0 (bytewise es) (due s) ∙ ap (λ (n : ℕ). due_after_all n (due s)) (due-bytewise 0 es))
    (subst (DueSpot (due_after_all 0 (walk L 0 idle bs).events)) f.spot (walked_due L 0 idle bs))

-- The elements due after the events that a reader has given are those that its state counts; a broken one gives no more events.
pub walk-due : (L : Limits) (bs : List ℕ) (es : List Event) (s : State) → Follows L bs es s → (s ≡ broke → ⊥) → due_after_all 0 es ≡ due_in s
unfolding due_in due_after_all due_after
walk-due L bs es (reading d p) f h = given-due L bs es (reading d p) f
walk-due L bs es (owing d id r) f h = given-due L bs es (owing d id r) f
walk-due L bs es broke f h = absurd (h refl)
