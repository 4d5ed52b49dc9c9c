-- The events of whole fields with their pieces joined: one piece for each payload, all its bytes.
use Prim.Native.Nat.{ℕ}
use mathlib.Core.Path.{◌≡◌, refl, sym, ap, ◌∙◌, subst}
use mathlib.Core.List.{List, [], ◌∷◌, ◌++◌, map}
use lib.ListN.{length}
use Rattle.layout.specs.Field.{Raw, Field, bytes_of, float, raw, unsigneds, signeds, floats}
use Rattle.layout.specs.Field.{unsigned, signed, payload, unsigned_array, signed_array, float_array, begin, end}
use Rattle.layout.specs.Event.{Event, Unsigned, Signed, Float, Piece, Fixlen, Array, Begin, End, Part, part, none, part_of, join_two, join_to, joined, cut_piece, cut}
use Rattle.layout.proofs.Joined.{joined-cut, joined_other}
use Rattle.laws.specs.Events.{field_events, fields_events, joined_events, fields_joined}

-- events that bring no part of a payload stand for themselves
others_joined : {A : Type 0} (e : A → Event) → ((a : A) → part_of (e a) ≡ none) → (xs : List A) (es : List Event) → joined (map e xs ++ es) ≡ map e xs ++ joined es
unfolding joined
others_joined e h [] es = refl
others_joined e h (x ∷ xs) es = joined_other (e x) (joined (map e xs ++ es)) (h x) ∙ ap (λ (l : List Event). e x ∷ l) (others_joined e h xs es)

one_joined : (e : Event) (es : List Event) → part_of e ≡ none → joined (e ∷ es) ≡ e ∷ joined es
unfolding joined
one_joined e es h = joined_other e (joined es) h

-- a list that does not begin within a payload
abbrev Begins : List Event → Type 0
Begins [] = Unit {0}
Begins (e ∷ es) = part_of e ≡ none

joins_none : (id : ℕ) (r : Raw) (total : ℕ) (bs : List ℕ) (es : List Event) → Begins es → join_to (Piece id r total 0 bs) es ≡ Piece id r total 0 bs ∷ es
unfolding join_to join_two part_of
joins_none id r total bs [] h = refl
joins_none id r total [] (f ∷ es) h = refl
joins_none id r total (b ∷ bs) (f ∷ es) h = ap (λ (q : Part). join_two (part id r total 0 b bs) q (Piece id r total 0 (b ∷ bs)) f es) h

-- a payload and what follows it
payload_joined : (id : ℕ) (r : Raw) (bs : List ℕ) (es : List Event) → Begins (joined es)
    → joined (Fixlen id (raw r) (length bs) ∷ (cut_piece id r (length bs) 0 bs ++ es)) ≡ Fixlen id (raw r) (length bs) ∷ Piece id r (length bs) 0 bs ∷ joined es
unfolding part_of cut
payload_joined id r bs es h =
    one_joined (Fixlen id (raw r) (length bs)) _ refl
    ∙ ap (λ (l : List Event). Fixlen id (raw r) (length bs) ∷ l) (joined-cut (Piece id r (length bs) 0 bs) es ∙ joins_none id r (length bs) bs (joined es) h)

field-joined : (x : Field) (es : List Event) → Begins (joined es) → joined (field_events x ++ es) ≡ joined_events x ++ joined es
unfolding field_events joined_events part_of
field-joined (unsigned id n) es h = one_joined (Unsigned id n) es refl
field-joined (signed id z) es h = one_joined (Signed id z) es refl
field-joined (float id w x) es h =
    one_joined (Fixlen id (float w) (bytes_of w)) (Float id w x ∷ es) refl ∙ ap (λ (l : List Event). Fixlen id (float w) (bytes_of w) ∷ l) (one_joined (Float id w x) es refl)
field-joined (payload id r bs) es h = payload_joined id r bs es h
field-joined (unsigned_array id ns) es h =
    one_joined (Array id unsigneds (length ns)) _ refl ∙ ap (λ (l : List Event). Array id unsigneds (length ns) ∷ l) (others_joined (Unsigned id) (λ n. refl) ns es)
field-joined (signed_array id zs) es h =
    one_joined (Array id signeds (length zs)) _ refl ∙ ap (λ (l : List Event). Array id signeds (length zs) ∷ l) (others_joined (Signed id) (λ z. refl) zs es)
field-joined (float_array id w xs) es h =
    one_joined (Array id (floats w) (length xs)) _ refl ∙ ap (λ (l : List Event). Array id (floats w) (length xs) ∷ l) (others_joined (Float id w) (λ x. refl) xs es)
field-joined (begin id) es h = one_joined (Begin id) es refl
field-joined (end id) es h = one_joined End es refl

-- fields begin with no piece
begins : (x : Field) (es : List Event) → Begins (joined_events x ++ es)
unfolding joined_events part_of
begins (unsigned id n) es = refl
begins (signed id z) es = refl
begins (float id w x) es = refl
begins (payload id r bs) es = refl
begins (unsigned_array id ns) es = refl
begins (signed_array id zs) es = refl
begins (float_array id w xs) es = refl
begins (begin id) es = refl
begins (end id) es = refl

fields_begin : (xs : List Field) → Begins (fields_joined xs)
unfolding fields_joined
fields_begin [] = tt
fields_begin (x ∷ xs) = begins x (fields_joined xs)

pub fields_joined_lem : (xs : List Field) → joined (fields_events xs) ≡ fields_joined xs
unfolding fields_events fields_joined joined
fields_joined_lem [] = refl
fields_joined_lem (x ∷ xs) =
    let i = fields_joined_lem xs in
    field-joined x (fields_events xs) (subst Begins (sym i) (fields_begin xs)) ∙ ap (λ (l : List Event). joined_events x ++ l) i
