-- Pieces joined and pieces cut say the same: two lists of events are equal with their pieces joined exactly when they are equal bytewise.
use Prim.Native.Nat.{ℕ, suc, ◌+◌}
use native.Mathlib.Omega.{arith}
use mathlib.Core.Path.{◌≡◌, refl, sym, ap, ◌∙◌}
use mathlib.Core.Logic.{◌↔◌}
use mathlib.Core.Bool.{Bool, true, false, ◌&&◌}
use mathlib.Core.List.{List, [], ◌∷◌, ◌++◌, append_assoc}
use lib.ListN.{length}
use lib.Dec.{eqb}
use borrow.Author.Tests.{eqb-true, eq-eqb}
use Rattle.layout.specs.Limits.{Limits, pick}
use Rattle.layout.specs.Field.{Raw, string, blob}
use Rattle.layout.specs.Event.{Event, Unsigned, Signed, Float, Piece, Fixlen, Array, Begin, End}
use Rattle.layout.specs.Event.{Part, part, none, part_of, same_raw, goes_on, join_two, join_to, joined, cut_from, cut_piece, cut, bytewise}
use Rattle.layout.specs.Message.{events_of}

-- ---- the test whether a part goes on with another

raw_same : (r : Raw) → same_raw r r ≡ true
raw_same string = refl
raw_same blob = refl

raw_true : (r r' : Raw) → same_raw r r' ≡ true → r ≡ r'
raw_true string string e = refl
raw_true string blob e = let z : ◌≡◌ {A = ℕ} 0 1 = cc in absurd (omega arith)
raw_true blob string e = let z : ◌≡◌ {A = ℕ} 0 1 = cc in absurd (omega arith)
raw_true blob blob e = refl

both : (x y : Bool) → (x && y) ≡ true → (x ≡ true) × (y ≡ true)
both true y e = (refl, e)
both false y e = let z : ◌≡◌ {A = ℕ} 0 1 = cc in absurd (omega arith)

-- the second begins where the first ended
goes_on_lem : (id : ℕ) (r : Raw) (total o b : ℕ) (bs : List ℕ) (o' b' : ℕ) (bs' : List ℕ) → o + suc (length bs) ≡ o' → goes_on (part id r total o b bs) (part id r total o' b' bs') ≡ true
unfolding goes_on
goes_on_lem id r total o b bs o' b' bs' e = simp (eq-eqb id id refl, raw_same r, eq-eqb total total refl, eq-eqb (o + suc (length bs)) o' e)

on_from : (id : ℕ) (r : Raw) (total o b : ℕ) (bs : List ℕ) (id' : ℕ) (r' : Raw) (total' o' b' : ℕ) (bs' : List ℕ) → goes_on (part id r total o b bs) (part id' r' total' o' b' bs') ≡ true
    → (id ≡ id') × (r ≡ r') × (total ≡ total') × (o + suc (length bs) ≡ o')
unfolding goes_on
on_from id r total o b bs id' r' total' o' b' bs' e =
    let (i, f) = both _ _ e in
    let (s, g) = both _ _ f in
    let (t, p) = both _ _ g in
    (eqb-true id id' i, raw_true r r' s, eqb-true total total' t, eqb-true (o + suc (length bs)) o' p)

-- it does not matter how many bytes the first has, only where they end
on_same : (id : ℕ) (r : Raw) (total o b : ℕ) (bs : List ℕ) (o₂ b₂ : ℕ) (bs₂ : List ℕ) (q : Part) → o + suc (length bs) ≡ o₂ + suc (length bs₂)
    → goes_on (part id r total o b bs) q ≡ goes_on (part id r total o₂ b₂ bs₂) q
unfolding goes_on
on_same id r total o b bs o₂ b₂ bs₂ none e = refl
on_same id r total o b bs o₂ b₂ bs₂ (part id' r' total' o' b' bs') e = ap (λ (k : ℕ). eqb id id' && (same_raw r r' && (eqb total total' && eqb k o'))) e

-- ---- joined, bytewise

cut-append : (id : ℕ) (r : Raw) (total o : ℕ) (xs ys : List ℕ) → cut_from id r total o (xs ++ ys) ≡ cut_from id r total o xs ++ cut_from id r total (o + length xs) ys
unfolding cut_from
cut-append id r total o [] ys = let z : o ≡ o + 0 = omega arith in ap (λ (k : ℕ). cut_from id r total k ys) z
cut-append id r total o (x ∷ xs) ys =
    let z : suc o + length xs ≡ o + suc (length xs) = omega arith in
    ap (λ (l : List Event). Piece id r total o (x ∷ []) ∷ l) (cut-append id r total (suc o) xs ys ∙ ap (λ (k : ℕ). cut_from id r total (suc o) xs ++ cut_from id r total k ys) z)

two-bytewise : (id : ℕ) (r : Raw) (total o b : ℕ) (bs : List ℕ) (id' : ℕ) (r' : Raw) (total' o' b' : ℕ) (bs' : List ℕ) (es : List Event) (t : Bool)
    → goes_on (part id r total o b bs) (part id' r' total' o' b' bs') ≡ t
    → bytewise (pick t (Piece id r total o (b ∷ bs ++ (b' ∷ bs')) ∷ es) (Piece id r total o (b ∷ bs) ∷ Piece id' r' total' o' (b' ∷ bs') ∷ es))
    ≡ cut_from id r total o (b ∷ bs) ++ (cut_from id' r' total' o' (b' ∷ bs') ++ bytewise es)
unfolding bytewise cut cut_piece
two-bytewise id r total o b bs id' r' total' o' b' bs' es true e =
    let (i, s, t, p) = on_from id r total o b bs id' r' total' o' b' bs' e in
    ap (λ (l : List Event). l ++ bytewise es) (cut-append id r total o (b ∷ bs) (b' ∷ bs'))
    ∙ append_assoc (cut_from id r total o (b ∷ bs)) (cut_from id r total (o + length (b ∷ bs)) (b' ∷ bs')) (bytewise es)
    ∙ ap (λ (k : ℕ). cut_from id r total o (b ∷ bs) ++ (cut_from k r total (o + length (b ∷ bs)) (b' ∷ bs') ++ bytewise es)) i
    ∙ ap (λ (k : Raw). cut_from id r total o (b ∷ bs) ++ (cut_from id' k total (o + length (b ∷ bs)) (b' ∷ bs') ++ bytewise es)) s
    ∙ ap (λ (k : ℕ). cut_from id r total o (b ∷ bs) ++ (cut_from id' r' k (o + length (b ∷ bs)) (b' ∷ bs') ++ bytewise es)) t
    ∙ ap (λ (k : ℕ). cut_from id r total o (b ∷ bs) ++ (cut_from id' r' total' k (b' ∷ bs') ++ bytewise es)) p
two-bytewise id r total o b bs id' r' total' o' b' bs' es false e = refl

-- what an event is, by its part
data Seen : Event → Part → Type 0 where
  piece : (id : ℕ) (r : Raw) (total o b : ℕ) (bs : List ℕ) → Seen (Piece id r total o (b ∷ bs)) (part id r total o b bs)
  other : (e : Event) → Seen e none

see : (e : Event) → Seen e (part_of e)
unfolding part_of
see (Unsigned id n) = other (Unsigned id n)
see (Signed id z) = other (Signed id z)
see (Float id w x) = other (Float id w x)
see (Piece id r total o []) = other (Piece id r total o [])
see (Piece id r total o (b ∷ bs)) = piece id r total o b bs
see (Fixlen id s total) = other (Fixlen id s total)
see (Array id k n) = other (Array id k n)
see (Begin id) = other (Begin id)
see End = other End

join-two : {p q : Part} {e f : Event} (es : List Event) → Seen e p → Seen f q → bytewise (join_two p q e f es) ≡ cut e ++ (cut f ++ bytewise es)
unfolding join_two bytewise cut cut_piece
join-two es (other e) s = refl
join-two es (piece id r total o b bs) (other f) = refl
join-two es (piece id r total o b bs) (piece id' r' total' o' b' bs') =
    two-bytewise id r total o b bs id' r' total' o' b' bs' es (goes_on (part id r total o b bs) (part id' r' total' o' b' bs')) refl

join_to_lem : (e : Event) (es : List Event) → bytewise (join_to e es) ≡ cut e ++ bytewise es
unfolding join_to bytewise
join_to_lem e [] = refl
join_to_lem e (f ∷ es) = join-two es (see e) (see f)

-- Joining changes nothing bytewise.
pub bytewise-joined : (es : List Event) → bytewise (joined es) ≡ bytewise es
unfolding joined bytewise
bytewise-joined [] = refl
bytewise-joined (e ∷ es) = join_to_lem e (joined es) ∙ ap (λ (l : List Event). cut e ++ l) (bytewise-joined es)

-- ---- cut, and joined again

abbrev first : ℕ → Raw → ℕ → ℕ → ℕ → Event
first id r total o b = Piece id r total o (b ∷ [])

-- by whether the rest of the piece goes on with what follows it
join_on : (id : ℕ) (r : Raw) (total o b b' : ℕ) (bs : List ℕ) (p : List ℕ) (es fs : List Event) (t : Bool)
    → join_to (first id r total o b) (pick t (Piece id r total (suc o) (b' ∷ bs ++ p) ∷ es) (Piece id r total (suc o) (b' ∷ bs) ∷ fs))
    ≡ pick t (Piece id r total o (b ∷ b' ∷ bs ++ p) ∷ es) (Piece id r total o (b ∷ b' ∷ bs) ∷ fs)
unfolding join_to join_two part_of
join_on id r total o b b' bs p es fs true =
    let z : o + 1 ≡ suc o = omega arith in
    ap (λ (t : Bool). pick t (Piece id r total o (b ∷ b' ∷ bs ++ p) ∷ es) (first id r total o b ∷ Piece id r total (suc o) (b' ∷ bs ++ p) ∷ es)) (goes_on_lem id r total o b [] (suc o) b' (bs ++ p) z)
join_on id r total o b b' bs p es fs false =
    let z : o + 1 ≡ suc o = omega arith in
    ap (λ (t : Bool). pick t (Piece id r total o (b ∷ b' ∷ bs) ∷ fs) (first id r total o b ∷ Piece id r total (suc o) (b' ∷ bs) ∷ fs)) (goes_on_lem id r total o b [] (suc o) b' bs z)

join-seen : (id : ℕ) (r : Raw) (total o b b' : ℕ) (bs : List ℕ) (es : List Event) {f : Event} {q : Part} → Seen f q
    → join_to (first id r total o b) (join_two (part id r total (suc o) b' bs) q (Piece id r total (suc o) (b' ∷ bs)) f es) ≡ join_two (part id r total o b (b' ∷ bs)) q (Piece id r total o (b ∷ b' ∷ bs)) f es
unfolding join_two
join-seen id r total o b b' bs es (other f) = join_on id r total o b b' bs [] [] (f ∷ es) false
join-seen id r total o b b' bs es (piece id'' r'' total'' o'' b'' bs'') =
    let z : suc o + suc (length bs) ≡ o + suc (suc (length bs)) = omega arith in
    join_on id r total o b b' bs (b'' ∷ bs'') es (Piece id'' r'' total'' o'' (b'' ∷ bs'') ∷ es) (goes_on (part id r total (suc o) b' bs) (part id'' r'' total'' o'' b'' bs''))
    ∙ ap (λ (t : Bool). pick t (Piece id r total o (b ∷ b' ∷ bs ++ (b'' ∷ bs'')) ∷ es) (Piece id r total o (b ∷ b' ∷ bs) ∷ Piece id'' r'' total'' o'' (b'' ∷ bs'') ∷ es)) (on_same id r total (suc o) b' bs o b (b' ∷ bs) (part id'' r'' total'' o'' b'' bs'') z)

-- a byte of a payload before the rest of its piece
join_byte : (id : ℕ) (r : Raw) (total o b b' : ℕ) (bs : List ℕ) (l : List Event)
    → join_to (first id r total o b) (join_to (Piece id r total (suc o) (b' ∷ bs)) l) ≡ join_to (Piece id r total o (b ∷ b' ∷ bs)) l
unfolding join_to part_of
join_byte id r total o b b' bs [] = join_on id r total o b b' bs [] [] [] false
join_byte id r total o b b' bs (f ∷ es) = join-seen id r total o b b' bs es (see f)

join-cut : (id : ℕ) (r : Raw) (total o b : ℕ) (bs : List ℕ) (es : List Event) → joined (cut_from id r total o (b ∷ bs) ++ es) ≡ join_to (Piece id r total o (b ∷ bs)) (joined es)
unfolding joined cut_from
join-cut id r total o b [] es = refl
join-cut id r total o b (b' ∷ bs) es =
    ap (join_to (first id r total o b)) (join-cut id r total (suc o) b' bs es) ∙ join_byte id r total o b b' bs (joined es)

-- an event cut into bytes, and then others
pub joined-cut : (e : Event) (es : List Event) → joined (cut e ++ es) ≡ join_to e (joined es)
unfolding joined cut cut_piece
joined-cut (Unsigned id n) es = refl
joined-cut (Signed id z) es = refl
joined-cut (Float id w x) es = refl
joined-cut (Piece id r total o []) es = refl
joined-cut (Piece id r total o (b ∷ bs)) es = join-cut id r total o b bs es
joined-cut (Fixlen id s total) es = refl
joined-cut (Array id k n) es = refl
joined-cut (Begin id) es = refl
joined-cut End es = refl

-- However payloads were cut, joined they are the same.
pub joined-bytewise : (es : List Event) → joined (bytewise es) ≡ joined es
unfolding joined bytewise
joined-bytewise [] = refl
joined-bytewise (e ∷ es) = joined-cut e (bytewise es) ∙ ap (join_to e) (joined-bytewise es)

-- ---- what follows

-- Two lists of events are equal with their pieces joined exactly when they are equal bytewise.
pub joined_exactly : (es fs : List Event) → (joined es ≡ joined fs) ↔ (bytewise es ≡ bytewise fs)
joined_exactly es fs = (
  λ e. sym (bytewise-joined es) ∙ ap bytewise e ∙ bytewise-joined fs,
  λ e. sym (joined-bytewise es) ∙ ap joined e ∙ joined-bytewise fs,
)

-- cut once, cut for good
pub bytewise_again : (es : List Event) → bytewise (bytewise es) ≡ bytewise es
bytewise_again es = (joined_exactly (bytewise es) es).0 (joined-bytewise es)

-- Events that are bytewise the layout's are the layout's, pieces joined.
pub joined-run : (L : Limits) (bs : List ℕ) (es : List Event) → bytewise es ≡ events_of L bs → joined es ≡ joined (events_of L bs)
joined-run L bs es e = sym (joined-bytewise es) ∙ ap joined e

-- an event that brings no part of a payload stands for itself
pub joined_other : (e : Event) (es : List Event) → part_of e ≡ none → join_to e es ≡ e ∷ es
unfolding join_to join_two
joined_other e [] h = refl
joined_other e (f ∷ es) h = ap (λ (p : Part). join_two p (part_of f) e f es) h
