-- The writer's calls are steady, and the outputs of those accepted are what is written, by the rule for held sequences.
use Prim.Native.Nat.{ℕ, zero, suc, ◌+◌, ◌-◌, ◌≤◌, ◌<◌}
use native.Mathlib.Omega.{arith}
use native.Mathlib.Nat.{le_refl, not-suc-le-zero}
use native.Mathlib.Numerals.{add-one}
use mathlib.Core.Path.{◌≡◌, refl, sym, ap, ◌∙◌}
use mathlib.Core.Bool.{Bool, true, false, not}
use mathlib.Core.List.{List, [], ◌∷◌, ◌++◌, append_assoc}
use lib.Dec.{ltb, leb, eqb}
use borrow.Author.Tests.{ltb-true, ltb-false, leb-false, eqb-true, eqb-false, lt-ltb, le-ltb, le-leb}
use lib.ListN.{length, take, drop, set, replicate, length-set}
use lib.Seq.{take-suc-set, drop-set-lt, take-set-le, set_split, drop_at, length-take-le}
use Rattle.layout.specs.Limits.{base, pick}
use Rattle.layout.specs.Message.{All}
use Rattle.layout.specs.Field.{header, each, begin, end, t_begin}
use Rattle.layout.specs.Copy.{field_bytes}
use Rattle.types.specs.Types.{refusal}
use Rattle.ostream.specs.declared.OStream.{OStream}
use Rattle.ostream.specs.Stream.{at, every, sound_stream, lazy_depth, held_bytes, committed, holding, dropped}
use Rattle.ostream.specs.Emission.{Test, Judgement, accepted, refused_with, judged}
use Rattle.ostream.specs.Calls.{unsound, id_too_large, too_deep, none_open}
use Rattle.checks.proofs.Checks.{passed}
use Rattle.ostream.proofs.Calls.{Sound, is_sound, both}
use Rattle.ostream.proofs.Places.{length-zeroed}
use Rattle.writes.specs.Series.{Able, judgement, output_by, done_by, numbers_by, Steady, outputs, refusals}
use Rattle.writes.specs.Written.{Item, field, item_bytes, Write, puts, opens, closes, keeps, begins, front, held_back, written, op, ops_of, Accepted, taken_by, taken}

-- ---- sound states

every_append : (p : ℕ → Bool) (xs ys : List ℕ) → every p xs ≡ true → every p ys ≡ true → every p (xs ++ ys) ≡ true
unfolding every
every_append p [] ys h g = g
every_append p (x ∷ xs) ys h g = let b = both (p x) (every p xs) h in simp b.0 (every_append p xs ys b.1 g)

every_zeros : (n : ℕ) → every (λ x. eqb x 0) (replicate n 0) ≡ true
unfolding every
every_zeros zero = refl
every_zeros (suc n) = every_zeros n

-- the tests of a sound state, put together
pub make_sound : (s : OStream) (size : ℕ) → Sound s size → sound_stream s size ≡ true
unfolding sound_stream
make_sound s size h =
    simp (le-leb _ _ h.inside, le-leb _ _ h.few, le-leb _ _ h.nested, le-leb _ _ h.shallow, h.legal, h.zeros)

none-legal : every (λ x. leb x base.id) [] ≡ true
unfolding every
none-legal = refl

-- a state with none held any more
committed_able : (s : OStream) (size d p q : ℕ) → Able s size → d ≤ base.depth → p ≤ q → Able (at (committed s d) p) q
unfolding committed
committed_able s size d p q a h l =
    let f = is_sound s size a.0 in (
      make_sound (at (committed s d) p) q
          (record {
            inside = l;
            few = omega arith;
            nested = omega arith;
            shallow = h;
            legal = none-legal;
            zeros = every_append (λ x. eqb x 0) (replicate s.npending 0) (drop s.npending s.pending) (every_zeros s.npending) f.zeros;
          }),
      length-zeroed s.pending s.npending (omega (arith, f.few, a.1)) ∙ a.1,
    )

one_legal : (id : ℕ) → id ≤ base.id → every (λ x. leb x base.id) (id ∷ []) ≡ true
unfolding every
one_legal id h = simp (le-leb _ _ h)

more_zeros : (xs : List ℕ) → every (λ x. eqb x 0) xs ≡ true → every (λ x. eqb x 0) (0 ∷ xs) ≡ true
unfolding every
more_zeros xs h = h

-- one fewer of a list's end, and of its start
every_less : (p : ℕ → Bool) (xs : List ℕ) (n : ℕ) → n < length xs → every p (drop n xs) ≡ true → every p (drop (suc n) xs) ≡ true
unfolding every
every_less p [] n h g = refl
every_less p (x ∷ xs) zero h g = (both (p x) (every p xs) g).1
every_less p (x ∷ xs) (suc n) h g = every_less p xs n (omega arith) g

every_fewer : (p : ℕ → Bool) (xs : List ℕ) (n m : ℕ) → m ≤ n → every p (take n xs) ≡ true → every p (take m xs) ≡ true
unfolding every
every_fewer p xs n zero h g = refl
every_fewer p [] n (suc m) h g = refl
every_fewer p (x ∷ xs) zero (suc m) h g = absurd (not-suc-le-zero h)
every_fewer p (x ∷ xs) (suc n) (suc m) h g = let b = both (p x) (every p (take n xs)) g in simp b.0 (every_fewer p xs n m (omega arith) b.1)

-- a state with one more held
holding_able : (s : OStream) (size id p q : ℕ) → Able s size → s.npending < lazy_depth → s.depth < base.depth → id ≤ base.id → p ≤ q → Able (at (holding s id) p) q
unfolding holding every
holding_able s size id p q a n h i l =
    let f = is_sound s size a.0 in
    let k : s.npending < length s.pending = omega (arith, a.1) in
    let t : take (s.npending + 1) (set s.pending s.npending id) ≡ take s.npending s.pending ++ (id ∷ []) =
    ap (λ (m : ℕ). take m (set s.pending s.npending id)) (add-one s.npending) ∙ take-suc-set s.pending s.npending id k in
    let u : drop (s.npending + 1) (set s.pending s.npending id) ≡ drop (suc s.npending) s.pending =
    ap (λ (m : ℕ). drop m (set s.pending s.npending id)) (add-one s.npending) ∙ drop-set-lt (suc s.npending) s.pending s.npending id (omega arith) in (
      make_sound (at (holding s id) p) q
          (record {
            inside = l;
            few = omega arith;
            nested = omega (arith, f.nested);
            shallow = omega arith;
            legal = ap (every (λ x. leb x base.id)) t ∙ every_append (λ x. leb x base.id) (take s.npending s.pending) (id ∷ []) f.legal (one_legal id i);
            zeros = ap (every (λ x. eqb x 0)) u ∙ every_less (λ x. eqb x 0) s.pending s.npending k f.zeros;
          }),
      length-set s.pending s.npending id ∙ a.1,
    )

-- a state with one fewer held
dropped_able : (s : OStream) (size p q : ℕ) → Able s size → 0 < s.npending → p ≤ q → Able (at (dropped s) p) q
unfolding dropped
dropped_able s size p q a n l =
    let f = is_sound s size a.0 in
    let m : suc (s.npending - 1) ≡ s.npending = omega arith in
    let k : s.npending - 1 < length s.pending = omega (arith, a.1, f.few) in
    let t : take (s.npending - 1) (set s.pending (s.npending - 1) 0) ≡ take (s.npending - 1) s.pending = take-set-le (s.npending - 1) s.pending (s.npending - 1) 0 (omega arith) in
    let u : drop (s.npending - 1) (set s.pending (s.npending - 1) 0) ≡ 0 ∷ drop s.npending s.pending =
    ap (drop (s.npending - 1)) (set_split s.pending (s.npending - 1) 0 k)
    ∙ drop_at (take (s.npending - 1) s.pending) _ (s.npending - 1) (length-take-le (s.npending - 1) s.pending (omega arith))
    ∙ ap (λ (j : ℕ). 0 ∷ drop j s.pending) m in (
      make_sound (at (dropped s) p) q
          (record {
            inside = l;
            few = omega (arith, f.few);
            nested = omega (arith, f.nested);
            shallow = omega (arith, f.shallow);
            legal = ap (every (λ x. leb x base.id)) t ∙ every_fewer (λ x. leb x base.id) s.pending s.npending (s.npending - 1) (omega arith) f.legal;
            zeros = ap (every (λ x. eqb x 0)) u ∙ more_zeros (drop s.npending s.pending) f.zeros;
          }),
      length-set s.pending (s.npending - 1) 0 ∙ a.1,
    )

-- ---- each write is steady

-- whether a state is sound depends on its position only as far as the buffer must hold it
sound_anywhere : (s : OStream) (p size : ℕ) → p ≤ size → sound_stream (at s p) size ≡ sound_stream s s.offset
unfolding sound_stream
sound_anywhere s p size h = simp (le-leb p size h, le-leb s.offset s.offset (le_refl s.offset))

-- so a write's tests, of which soundness comes first, say the same over every buffer that holds the position
same_judgement : (s : OStream) (p size : ℕ) (ts : List Test) → p ≤ size → judged (unsound (at s p) size ∷ ts) ≡ judged (unsound s s.offset ∷ ts)
same_judgement s p size ts h = ap (λ (b : Bool). judged (record { fails = not b; error = refusal 6 } ∷ ts)) (sound_anywhere s p size h)

at-pick : (t : Bool) (a a' b b' : OStream) (q : ℕ) → at a q ≡ at a' q → at b q ≡ at b' q → at (pick t a b) q ≡ at (pick t a' b') q
at-pick true a a' b b' q e f = e
at-pick false a a' b b' q e f = f

positive : (n : ℕ) → (n ≡ 0 → ⊥) → 0 < n
positive zero h = absurd (h refl)
positive (suc n) h = omega arith

puts_steady : (ts : List Test) (x : Item) → Steady (op (puts ts x))
unfolding held_bytes committed
puts_steady ts x =
    record {
      tests = λ s p size l. same_judgement s p size ts l;
      outputs = λ s p. refl;
      leaves = λ s p q. refl;
      sound = λ s size p q a t l. committed_able s size s.depth p q a (is_sound s size a.0).shallow l;
    }

opens_steady : (id : ℕ) → Steady (op (opens id))
unfolding held_bytes committed holding
opens_steady id =
    record {
      tests = λ s p size l. same_judgement s p size (too_deep s ∷ id_too_large id ∷ []) l;
      outputs = λ s p. refl;
      leaves = λ s p q. at-pick (ltb s.npending lazy_depth) (holding (at s p) id) (holding s id) (committed (at s p) (s.depth + 1)) (committed s (s.depth + 1)) q refl refl;
      sound = λ s size p q a t l. opened_able s size p q a t l;
    }
  where
    opened_able : (s : OStream) (size p q : ℕ) → Able s size → judgement (op (opens id)) s ≡ accepted → p ≤ q
        → Able (at (pick (ltb s.npending lazy_depth) (holding s id) (committed s (s.depth + 1))) p) q
    opened_able s size p q a t l =
        let x = passed (unsound s s.offset) (too_deep s ∷ id_too_large id ∷ []) t in
        let y = passed (too_deep s) (id_too_large id ∷ []) x.1 in
        let z = passed (id_too_large id) [] y.1 in
        let d : s.depth < base.depth = leb-false _ _ y.0 in
        let i : id ≤ base.id = ltb-false _ _ z.0 in
        by_room (ltb s.npending lazy_depth) refl d i
      where
        by_room : (b : Bool) → ltb s.npending lazy_depth ≡ b → s.depth < base.depth → id ≤ base.id → Able (at (pick b (holding s id) (committed s (s.depth + 1))) p) q
        by_room true e d i = holding_able s size id p q a (ltb-true _ _ e) d i l
        by_room false e d i = committed_able s size (s.depth + 1) p q a (omega arith) l

closes_steady : Steady (op closes)
unfolding held_bytes committed dropped
closes_steady =
    record {
      tests = λ s p size l. same_judgement s p size (none_open s ∷ []) l;
      outputs = λ s p. refl;
      leaves = λ s p q. at-pick (eqb s.npending 0) (committed (at s p) (s.depth - 1)) (committed s (s.depth - 1)) (dropped (at s p)) (dropped s) q refl refl;
      sound = closed_able;
    }
  where
    closed_able : (s : OStream) (size p q : ℕ) → Able s size → judgement (op closes) s ≡ accepted → p ≤ q → Able (at (pick (eqb s.npending 0) (committed s (s.depth - 1)) (dropped s)) p) q
    closed_able s size p q a t l = by_held (eqb s.npending 0) refl
      where
        by_held : (b : Bool) → eqb s.npending 0 ≡ b → Able (at (pick b (committed s (s.depth - 1)) (dropped s)) p) q
        by_held true e = committed_able s size (s.depth - 1) p q a (omega (arith, (is_sound s size a.0).shallow)) l
        by_held false e = dropped_able s size p q a (positive s.npending (eqb-false _ _ e)) l

keeps_steady : Steady (op keeps)
unfolding held_bytes committed
keeps_steady =
    record {
      tests = λ s p size l. same_judgement s p size (none_open s ∷ []) l;
      outputs = λ s p. refl;
      leaves = λ s p q. refl;
      sound = λ s size p q a t l. committed_able s size (s.depth - 1) p q a (omega (arith, (is_sound s size a.0).shallow)) l;
    }

-- A real write is steady: where its tests pass in a state, they pass at every position over every buffer that holds it.
pub steady_write : (w : Write) → Steady (op w)
steady_write (puts ts x) = puts_steady ts x
steady_write (opens id) = opens_steady id
steady_write closes = closes_steady
steady_write keeps = keeps_steady

pub steady : (ws : List Write) → All Steady (ops_of ws)
steady [] = tt
steady (w ∷ ws) = (steady_write w, steady ws)

-- ---- what is written

each_append : {A : Type 0} (f : A → List ℕ) (xs ys : List A) → each f (xs ++ ys) ≡ each f xs ++ each f ys
unfolding each
each_append f [] ys = refl
each_append f (x ∷ xs) ys = ap (λ (l : List ℕ). f x ++ l) (each_append f xs ys) ∙ sym (append_assoc (f x) (each f xs) (each f ys))

abbrev held : OStream → List ℕ
held s = take s.npending s.pending

held_items : (ids : List ℕ) → each item_bytes (begins ids) ≡ each (λ id. header id t_begin) ids
unfolding each field_bytes
held_items [] = refl
held_items (id ∷ ids) = ap (λ (l : List ℕ). header id t_begin ++ l) (held_items ids)

-- held headers, an item, and what follows
after_held : (s : OStream) (x : Item) (rest : List Item) → (held_bytes s ++ item_bytes x) ++ each item_bytes rest ≡ each item_bytes (begins (held s) ++ (x ∷ rest))
unfolding held_bytes each
after_held s x rest =
    append_assoc (held_bytes s) (item_bytes x) (each item_bytes rest)
    ∙ ap (λ (l : List ℕ). l ++ (item_bytes x ++ each item_bytes rest)) (sym (held_items (held s)))
    ∙ sym (each_append item_bytes (begins (held s)) (x ∷ rest))

-- eight places, of which at most eight are used
abbrev Eight : OStream → Type 0
Eight s = (length s.pending ≡ lazy_depth) × (s.npending ≤ lazy_depth)

eight_committed : (s : OStream) (d : ℕ) → Eight s → Eight (committed s d)
unfolding committed
eight_committed s d h = (length-zeroed s.pending s.npending (omega (arith, h.0, h.1)) ∙ h.0, omega arith)

held_length : (s : OStream) → Eight s → length (held s) ≡ s.npending
held_length s h = length-take-le s.npending s.pending (omega (arith, h.0, h.1))

held_holding : (s : OStream) (id : ℕ) → Eight s → s.npending < lazy_depth → held (holding s id) ≡ held s ++ (id ∷ [])
unfolding holding
held_holding s id h n = ap (λ (m : ℕ). take m (set s.pending s.npending id)) (add-one s.npending) ∙ take-suc-set s.pending s.npending id (omega (arith, h.0))

eight_holding : (s : OStream) (id : ℕ) → Eight s → s.npending < lazy_depth → Eight (holding s id)
unfolding holding
eight_holding s id h n = (length-set s.pending s.npending id ∙ h.0, omega arith)

eight_dropped : (s : OStream) → Eight s → Eight (dropped s)
unfolding dropped
eight_dropped s h = (length-set s.pending (s.npending - 1) 0 ∙ h.0, omega (arith, h.1))

front-take : (xs : List ℕ) (n : ℕ) → suc n ≤ length xs → front (take (suc n) xs) ≡ take n xs
front-take [] n h = absurd (not-suc-le-zero h)
front-take (x ∷ xs) zero h = refl
front-take (x ∷ []) (suc n) h = absurd (omega arith)
front-take (x ∷ y ∷ ys) (suc n) h = ap (λ (l : List ℕ). x ∷ l) (front-take (y ∷ ys) n (omega arith))

held_dropped : (s : OStream) → Eight s → 0 < s.npending → held (dropped s) ≡ front (held s)
unfolding dropped
held_dropped s h n =
    let m : suc (s.npending - 1) ≡ s.npending = omega arith in
    take-set-le (s.npending - 1) s.pending (s.npending - 1) 0 (omega arith)
    ∙ sym (front-take s.pending (s.npending - 1) (omega (arith, h.0, h.1)))
    ∙ ap (λ (j : ℕ). front (take j s.pending)) m

none_held : (s : OStream) → s.npending ≡ 0 → held s ≡ []
none_held s e = ap (λ (n : ℕ). take n s.pending) e

close_none : (s : OStream) (R : List ℕ) (ws : List Write) → R ≡ each item_bytes (written [] ws) → held s ≡ [] → field_bytes (end 0) ++ R ≡ each item_bytes (written (held s) (closes ∷ ws))
unfolding written each
close_none s R ws ih e = ap (λ (l : List ℕ). field_bytes (end 0) ++ l) ih ∙ ap (λ (l : List ℕ). each item_bytes (written l (closes ∷ ws))) (sym e)

some_held : (ids : List ℕ) (ws : List Write) → 0 < length ids → written (front ids) ws ≡ written ids (closes ∷ ws)
unfolding written
some_held [] ws h = absurd (not-suc-le-zero h)
some_held (x ∷ xs) ws h = refl

-- an open is held where there is room, and else written after those that are
by_room : (ids : List ℕ) (id : ℕ) (ws : List Write) (t : Bool) → held_back ids ≡ t
    → written ids (opens id ∷ ws) ≡ pick t (written (ids ++ (id ∷ [])) ws) (begins ids ++ (field (begin id) ∷ written [] ws))
unfolding written
by_room ids id ws true e = ap (λ (t : Bool). elim t as (λ x. List Item) [ true ↦ written (ids ++ (id ∷ [])) ws | false ↦ begins ids ++ (field (begin id) ∷ written [] ws) ]) e
by_room ids id ws false e = ap (λ (t : Bool). elim t as (λ x. List Item) [ true ↦ written (ids ++ (id ∷ [])) ws | false ↦ begins ids ++ (field (begin id) ∷ written [] ws) ]) e

room_held : (ids : List ℕ) → length ids < 8 → held_back ids ≡ true
room_held ids h = lt-ltb (length ids) _ (omega arith)

no_room_held : (ids : List ℕ) → 8 ≤ length ids → held_back ids ≡ false
no_room_held ids h = le-ltb (length ids) _ (omega arith)

-- after content, nothing is held
content-written : (s : OStream) (x : Item) (R : List ℕ) (ws : List Write) → R ≡ each item_bytes (written [] ws)
    → (held_bytes s ++ item_bytes x) ++ R ≡ each item_bytes (begins (held s) ++ (x ∷ written [] ws))
content-written s x R ws ih = ap (λ (l : List ℕ). (held_bytes s ++ item_bytes x) ++ l) ih ∙ after_held s x (written [] ws)

-- ---- each write's output, and what is written: the rest of the series is its writes that are accepted after it

abbrev Rest : OStream → List Write → Type 0
Rest s ws = outputs s (ops_of ws) ≡ each item_bytes (written (held s) (taken s ws))

-- with none held any more
rest-committed : (s : OStream) (d : ℕ) (ws : List Write) → Rest (committed s d) ws → outputs (committed s d) (ops_of ws) ≡ each item_bytes (written [] (taken (committed s d) ws))
unfolding committed
rest-committed s d ws h = h

abbrev Opened : OStream → ℕ → List Write → Bool → Type 0
Opened s id ws t =
    pick t [] (held_bytes s ++ field_bytes (begin id)) ++ outputs (pick t (holding s id) (committed s (s.depth + 1))) (ops_of ws)
    ≡ each item_bytes (written (held s) (opens id ∷ taken (pick t (holding s id) (committed s (s.depth + 1))) ws))

open_written : (s : OStream) (id : ℕ) (ws : List Write) → Eight s → ((s : OStream) → Eight s → Rest s ws) → Opened s id ws (ltb s.npending lazy_depth)
open_written s id ws h ih = go (ltb s.npending lazy_depth) refl
  where
    go : (t : Bool) → ltb s.npending lazy_depth ≡ t → Opened s id ws t
    go true e =
        let n : s.npending < lazy_depth = ltb-true _ _ e in
        let l : length (held s) < lazy_depth = omega (arith, held_length s h) in
        ih (holding s id) (eight_holding s id h n)
        ∙ ap (λ (l : List ℕ). each item_bytes (written l (taken (holding s id) ws))) (held_holding s id h n)
        ∙ ap (each item_bytes) (sym (by_room (held s) id (taken (holding s id) ws) true (room_held (held s) l)))
    go false e =
        let n : lazy_depth ≤ s.npending = ltb-false _ _ e in
        let l : lazy_depth ≤ length (held s) = omega (arith, held_length s h) in
        let c : OStream = committed s (s.depth + 1) in
        content-written s (field (begin id)) (outputs c (ops_of ws)) (taken c ws) (rest-committed s (s.depth + 1) ws (ih c (eight_committed s (s.depth + 1) h)))
        ∙ ap (each item_bytes) (sym (by_room (held s) id (taken c ws) false (no_room_held (held s) l)))

abbrev Closed : OStream → List Write → Bool → Type 0
Closed s ws t =
    pick t (field_bytes (end 0)) [] ++ outputs (pick t (committed s (s.depth - 1)) (dropped s)) (ops_of ws)
    ≡ each item_bytes (written (held s) (closes ∷ taken (pick t (committed s (s.depth - 1)) (dropped s)) ws))

close_written : (s : OStream) (ws : List Write) → Eight s → ((s : OStream) → Eight s → Rest s ws) → Closed s ws (eqb s.npending 0)
close_written s ws h ih = go (eqb s.npending 0) refl
  where
    go : (t : Bool) → eqb s.npending 0 ≡ t → Closed s ws t
    go true e =
        let c : OStream = committed s (s.depth - 1) in
        close_none s (outputs c (ops_of ws)) (taken c ws) (rest-committed s (s.depth - 1) ws (ih c (eight_committed s (s.depth - 1) h))) (none_held s (eqb-true _ _ e))
    go false e =
        let n : 0 < s.npending = positive s.npending (eqb-false _ _ e) in
        let l : 0 < length (held s) = omega (arith, held_length s h) in
        ih (dropped s) (eight_dropped s h)
        ∙ ap (λ (l : List ℕ). each item_bytes (written l (taken (dropped s) ws))) (held_dropped s h n)
        ∙ ap (each item_bytes) (some_held (held s) (taken (dropped s) ws) l)

-- a write that is accepted
accepted-written : (w : Write) (s : OStream) (ws : List Write) → Eight s → ((s : OStream) → Eight s → Rest s ws)
    → (op w).output s ++ outputs ((op w).done s) (ops_of ws) ≡ each item_bytes (written (held s) (w ∷ taken ((op w).done s) ws))
unfolding written
accepted-written (puts ts x) s ws h ih =
    let c : OStream = committed s s.depth in
    content-written s x (outputs c (ops_of ws)) (taken c ws) (rest-committed s s.depth ws (ih c (eight_committed s s.depth h)))
accepted-written (opens id) s ws h ih = open_written s id ws h ih
accepted-written closes s ws h ih = close_written s ws h ih
accepted-written keeps s ws h ih =
    let c : OStream = committed s (s.depth - 1) in
    content-written s (field (end 0)) (outputs c (ops_of ws)) (taken c ws) (rest-committed s (s.depth - 1) ws (ih c (eight_committed s (s.depth - 1) h)))

-- The outputs are the items written by the accepted writes, one after another.
pub outputs-written : (ws : List Write) (s : OStream) → Eight s → outputs s (ops_of ws) ≡ each item_bytes (written (held s) (taken s ws))
unfolding outputs written each taken
outputs-written [] s h = refl
outputs-written (w ∷ ws) s h = go (outputs-written ws) (judgement (op w) s)
  where
    go : ((s : OStream) → Eight s → Rest s ws) → (v : Judgement) → output_by v (op w) s ++ outputs (done_by v (op w) s) (ops_of ws) ≡ each item_bytes (written (held s) (taken_by v w (taken (done_by v (op w) s) ws)))
    go ih accepted = accepted-written w s ws h ih
    go ih (refused_with e) = ih s h

-- of an accepted series all writes are, and none is refused
pub taken_all : (ws : List Write) (s : OStream) → Accepted s ws → taken s ws ≡ ws
unfolding taken Accepted
taken_all [] s h = refl
taken_all (w ∷ ws) s h = ap (λ (v : Judgement). taken_by v w (taken (done_by v (op w) s) ws)) h.0 ∙ ap (λ (l : List Write). w ∷ l) (taken_all ws ((op w).done s) h.1)

pub none-refused : (ws : List Write) (s : OStream) → Accepted s ws → refusals s (ops_of ws) ≡ []
unfolding refusals Accepted
none-refused [] s h = refl
none-refused (w ∷ ws) s h = ap (λ (v : Judgement). numbers_by v ++ refusals (done_by v (op w) s) (ops_of ws)) h.0 ∙ none-refused ws ((op w).done s) h.1

-- the writes of any series that are accepted are an accepted series
pub taken-accepted : (ws : List Write) (s : OStream) → Accepted s (taken s ws)
unfolding taken Accepted
taken-accepted [] s = tt
taken-accepted (w ∷ ws) s = go (taken-accepted ws) (judgement (op w) s) refl
  where
    go : ((s : OStream) → Accepted s (taken s ws)) → (v : Judgement) → judgement (op w) s ≡ v → Accepted s (taken_by v w (taken (done_by v (op w) s) ws))
    go ih accepted e = (e, ih ((op w).done s))
    go ih (refused_with x) e = ih s
