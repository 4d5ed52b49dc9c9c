-- The bytes of a message's events are the shortest bytes of its fields; and they are the same however payloads are cut into pieces.
use Prim.Native.Nat.{ℕ, suc, ◌-◌}
use mathlib.Core.Path.{◌≡◌, refl, sym, ap, ◌∙◌}
use mathlib.Core.List.{List, [], ◌∷◌, ◌++◌, map, append_assoc}
use native.Mathlib.Omega.{arith}
use lib.ListN.{length}
use Rattle.layout.specs.Varint.{shortest}
use Rattle.layout.specs.Zigzag.{zigzag}
use Rattle.layout.specs.Field.{Raw, Field, bytes_of, low_bytes, each, float}
use Rattle.layout.specs.Field.{unsigned, signed, payload, unsigned_array, signed_array, float_array, begin, end}
use Rattle.layout.specs.Event.{Event, Unsigned, Signed, Float, Piece, Fixlen, Array, Begin, End, cut_from, cut_piece, cut, bytewise}
use Rattle.layout.specs.Copy.{field_bytes, encode}
use Rattle.laws.specs.Events.{field_events, fields_events, event_bytes, due_after, due_after_all, encode_events}

-- events in two parts, as a copier has written the first
pub encode-append : (due : ℕ) (es fs : List Event) → encode_events due (es ++ fs) ≡ encode_events due es ++ encode_events (due_after_all due es) fs
unfolding encode_events due_after_all
encode-append due [] fs = refl
encode-append due (e ∷ es) fs =
    ap (λ bs. event_bytes due e ++ bs) (encode-append (due_after due e) es fs)
    ∙ sym (append_assoc (event_bytes due e) (encode_events (due_after due e) es) (encode_events (due_after_all (due_after due e) es) fs))

-- an array's elements, where each writes its bare bytes and counts one off
elements_bytes : {A : Type 0} (e : A → Event) (enc : A → List ℕ) → ((k : ℕ) (a : A) → event_bytes (suc k) (e a) ≡ enc a) → ((k : ℕ) (a : A) → due_after (suc k) (e a) ≡ k) →
    (xs : List A) (es : List Event) → encode_events (length xs) (map e xs ++ es) ≡ each enc xs ++ encode_events 0 es
unfolding encode_events each
elements_bytes e enc p q [] es = refl
elements_bytes e enc p q (x ∷ xs) es = rw (p (length xs) x, q (length xs) x, elements_bytes e enc p q xs es) (sym (append_assoc (enc x) (each enc xs) (encode_events 0 es)))

one_less : (k : ℕ) → suc k - 1 ≡ k
one_less k = omega arith

pieces_bytes : (due id : ℕ) (r : Raw) (total o : ℕ) (bs : List ℕ) (es : List Event) → encode_events due (cut_from id r total o bs ++ es) ≡ bs ++ encode_events due es
unfolding encode_events event_bytes due_after cut_from
pieces_bytes due id r total o [] es = refl
pieces_bytes due id r total o (b ∷ bs) es = ap (λ bs. b ∷ bs) (pieces_bytes due id r total (suc o) bs es)

piece_bytes : (due id : ℕ) (r : Raw) (total o : ℕ) (bs : List ℕ) (es : List Event) → encode_events due (cut_piece id r total o bs ++ es) ≡ bs ++ encode_events due es
unfolding encode_events event_bytes due_after cut_piece
piece_bytes due id r total o [] es = refl
piece_bytes due id r total o (b ∷ bs) es = pieces_bytes due id r total o (b ∷ bs) es

-- the events of a field, and then others
field_bytes_lem : (x : Field) (es : List Event) → encode_events 0 (field_events x ++ es) ≡ field_bytes x ++ encode_events 0 es
unfolding encode_events event_bytes due_after field_events field_bytes
field_bytes_lem (unsigned id n) es = refl
field_bytes_lem (signed id z) es = refl
field_bytes_lem (float id w x) es = simp append_assoc
field_bytes_lem (payload id r bs) es = simp (append_assoc, piece_bytes 0 id r (length bs) 0 bs es)
field_bytes_lem (unsigned_array id ns) es = simp (append_assoc, elements_bytes (Unsigned id) shortest (λ k n. refl) (λ k n. one_less k) ns es)
field_bytes_lem (signed_array id zs) es = simp (append_assoc, elements_bytes (Signed id) (λ z. shortest (zigzag z)) (λ k z. refl) (λ k z. one_less k) zs es)
field_bytes_lem (float_array id w xs) es = simp (append_assoc, elements_bytes (Float id w) (low_bytes (bytes_of w)) (λ k x. refl) (λ k x. one_less k) xs es)
field_bytes_lem (begin id) es = refl
field_bytes_lem (end id) es = refl

pub fields_bytes : (xs : List Field) → encode_events 0 (fields_events xs) ≡ encode xs
unfolding encode_events fields_events encode each
fields_bytes [] = refl
fields_bytes (x ∷ xs) = field_bytes_lem x (fields_events xs) ∙ ap (λ bs. field_bytes x ++ bs) (fields_bytes xs)

cut_bytes : (due : ℕ) (e : Event) (es : List Event) → encode_events due (cut e ++ es) ≡ encode_events due (e ∷ es)
unfolding encode_events event_bytes due_after cut
cut_bytes due (Unsigned id n) es = refl
cut_bytes due (Signed id z) es = refl
cut_bytes due (Float id w x) es = refl
cut_bytes due (Piece id r total o bs) es = piece_bytes due id r total o bs es
cut_bytes due (Fixlen id s n) es = refl
cut_bytes due (Array id k n) es = refl
cut_bytes due (Begin id) es = refl
cut_bytes due End es = refl

pub bytewise_bytes : (due : ℕ) (es : List Event) → encode_events due (bytewise es) ≡ encode_events due es
unfolding encode_events bytewise
bytewise_bytes due [] = refl
bytewise_bytes due (e ∷ es) = cut_bytes due e (bytewise es) ∙ ap (λ bs. event_bytes due e ++ bs) (bytewise_bytes (due_after due e) es)
