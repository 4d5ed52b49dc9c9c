-- A turn of the copier: what is owed goes out, then the reader is called. The laws that a loop over turns goes by, from any state whose
-- reader is within its payload or float (`FairSpot`), and that turns never run out.
use Prim.Native.Nat.{ℕ, zero, suc, ◌+◌, ◌-◌, ◌*◌, ◌<◌, ◌≤◌, min}
use native.Mathlib.Nat.{not-suc-le-zero}
use native.Mathlib.Omega.{arith}
use mathlib.Core.Path.{◌≡◌, refl, sym, ap, ◌∙◌, subst}
use mathlib.Core.Bool.{Bool, true, false}
use mathlib.Core.List.{List, [], ◌∷◌}
use lib.ListN.{length, take, drop, length-take, length-drop}
use lib.Seq.{take-take}
use borrow.Author.Tests.{leb-true, leb-false}
use Rattle.layout.specs.Limits.{Limits}
use Rattle.layout.specs.Field.{Raw}
use Rattle.layout.specs.Event.{Event}
use Rattle.layout.specs.Message.{Verdict}
use Rattle.machine.specs.Machine.{Phase, in_header, in_unsigned, in_signed, in_word, in_unsigned_count, in_signed_count, in_float_count, in_array_word, in_float, in_payload, step}
use Rattle.copying.specs.Run.{InPayload}
use Rattle.machine.specs.Calls.{State, reading, owing, broke, Pace, byte, bulk, pace_of, Called, piece, scan, scanned, call}
use Rattle.machine.specs.Calls as calls
use Rattle.machine.specs.Run.{spot_of}
use Rattle.machine.proofs.Calls.{FairSpot, fair_walk, weight, light, Closes, closes, scan_is}
use Rattle.putting.specs.Put.{put, reached}
use Rattle.putting.proofs.Writes.{same_length, put-none, reached_is}
use Rattle.copying.specs.Owed.{Owed, nothing, rest, depth_once}
use Rattle.copying.specs.Copy.{Copy, full, Copied, after, settled, filled, gone, handed, stuck, heard, fits, all_of, copies, turns_for, copy}

-- ---- the turn in two halves

-- "Full" comes only where more is owed than there is room for,
pub fits_false : (k : Copy) (b : List ℕ) → fits k b ≡ false → length b - k.pos < length (rest k.owed)
fits_false k b e = leb-false (length (rest k.owed)) (length b - k.pos) e

-- and the call goes on only where all of it goes out.
pub fits_true : (k : Copy) (b : List ℕ) → fits k b ≡ true → length (rest k.owed) ≤ length b - k.pos
fits_true k b e = leb-true (length (rest k.owed)) (length b - k.pos) e

fits_not : (k : Copy) (b : List ℕ) → length b - k.pos < length (rest k.owed) → fits k b ≡ false
fits_not k b h = go (fits k b) refl
  where
    go : (t : Bool) → fits k b ≡ t → t ≡ false
    go true e = let l = fits_true k b e in absurd (omega arith)
    go false e = refl

fits_is : (k : Copy) (b : List ℕ) → length (rest k.owed) ≤ length b - k.pos → fits k b ≡ true
fits_is k b h = go (fits k b) refl
  where
    go : (t : Bool) → fits k b ≡ t → t ≡ true
    go true e = refl
    go false e = let l = fits_false k b e in absurd (omega arith)

-- the half after what is owed is out, where the reader is stuck and where it isn't
unfoldable pub goes_on : Limits → ℕ → ℕ → Copy → List ℕ → List ℕ → Bool → Copied
goes_on L n room k c b t =
    let r = call L k.reader (handed k.reader room c) in
    elim t [
      | true ↦ record { used = 0; answer = full; copy = k; buf = b }
      | false ↦ heard k c b r (λ e. copies L n (gone k r.state (all_of k.reader e)) (drop r.read c) b)
    ]

abbrev pub goes : Limits → ℕ → ℕ → Copy → List ℕ → List ℕ → Copied
goes L n room k c b = goes_on L n room k c b (stuck k.reader room c)

-- the whole, where there is room for what is owed and where there isn't
unfoldable pub turned_by : Limits → ℕ → Copy → List ℕ → List ℕ → Bool → Copied
turned_by L n k c b t =
    let pos = reached b k.pos (rest k.owed) in
    let b' = put b k.pos (rest k.owed) in
    elim t [
      | false ↦ record { used = 0; answer = full; copy = filled k pos; buf = b' }
      | true ↦ goes L n (length b - pos) (settled k pos) c b'
    ]

pub turn_is : (L : Limits) (n : ℕ) (k : Copy) (c b : List ℕ) → copies L (suc n) k c b ≡ turned_by L n k c b (fits k b)
unfolding copies turned_by goes_on
turn_is L n k c b = refl

pub turn_full : (L : Limits) (n : ℕ) (k : Copy) (c b : List ℕ) → length b - k.pos < length (rest k.owed)
    → copies L (suc n) k c b
    ≡ record { used = 0; answer = full; copy = filled k (reached b k.pos (rest k.owed)); buf = put b k.pos (rest k.owed) }
unfolding turned_by
turn_full L n k c b h = turn_is L n k c b ∙ ap (turned_by L n k c b) (fits_not k b h)

pub turn_goes : (L : Limits) (n : ℕ) (k : Copy) (c b : List ℕ) → length (rest k.owed) ≤ length b - k.pos
    → copies L (suc n) k c b
    ≡ goes L n (length b - reached b k.pos (rest k.owed)) (settled k (reached b k.pos (rest k.owed))) c (put b k.pos (rest k.owed))
unfolding turned_by
turn_goes L n k c b h = turn_is L n k c b ∙ ap (turned_by L n k c b) (fits_is k b h)

-- nothing owed
turn_free : (L : Limits) (n : ℕ) (k : Copy) (c b : List ℕ) → k.owed ≡ nothing → copies L (suc n) k c b ≡ goes L n (length b - k.pos) k c b
unfolding rest depth_once
turn_free L n k c b e =
    let z : rest k.owed ≡ [] = ap rest e in
    let l : length (rest k.owed) ≡ 0 = ap length z in
    let p : reached b k.pos (rest k.owed) ≡ k.pos =
    reached_is b k.pos (rest k.owed) ∙ least k.pos (length (rest k.owed)) (length b - k.pos) l in
    let w : put b k.pos (rest k.owed) ≡ b = put-none b k.pos (rest k.owed) l in
    let s : settled k k.pos ≡ k =
    ap (λ (o : Owed). record { reader = k.reader; depth = depth_once k.depth o; pos = k.pos; owed = nothing }) e
    ∙ ap (λ (o : Owed). record { reader = k.reader; depth = k.depth; pos = k.pos; owed = o }) (sym e) in
    turn_goes L n k c b (omega (arith, l))
    ∙ ap (λ (q : ℕ). goes L n (length b - q) (settled k q) c (put b k.pos (rest k.owed))) p
    ∙ ap (λ (d : List ℕ). goes L n (length b - k.pos) (settled k k.pos) c d) w
    ∙ ap (λ (j : Copy). goes L n (length b - k.pos) j c b) s
  where
    least : (p m r : ℕ) → m ≡ 0 → p + min m r ≡ p
    least p m r h = omega arith

-- ---- the reader's part

-- another way to go on with the event that it gave
heard_ext : (k : Copy) (c b : List ℕ) (j : ℕ) (a : calls.Said) (s : State) (f g : Event → Copied) → ((e : Event) → a ≡ calls.event e → f e ≡ g e)
    → heard k c b (record { read = j; answer = a; state = s }) f ≡ heard k c b (record { read = j; answer = a; state = s }) g
unfolding heard
heard_ext k c b j (calls.event e) s f g h = ap (after j) (h e refl)
heard_ext k c b j (calls.verdict v) s f g h = refl
heard_ext k c b j calls.invalid s f g h = refl

-- "A payload piece counts as read only as far as it is out": within a payload it is handed no more than there is room for.
pub handed-room : (s : State) (room : ℕ) (c : List ℕ) → InPayload s → length (handed s room c) ≤ room
unfolding handed
handed-room (reading d (in_header k v)) room c i = absurd i
handed-room (reading d (in_unsigned id left k v)) room c i = absurd i
handed-room (reading d (in_signed id left k v)) room c i = absurd i
handed-room (reading d (in_word id k v)) room c i = absurd i
handed-room (reading d (in_unsigned_count id k v)) room c i = absurd i
handed-room (reading d (in_signed_count id k v)) room c i = absurd i
handed-room (reading d (in_float_count id k v)) room c i = absurd i
handed-room (reading d (in_array_word id n k v)) room c i = absurd i
handed-room (reading d (in_float id w left k v)) room c i = absurd i
handed-room (reading d (in_payload id r total o)) room c i = omega (arith, length-take room c)
handed-room (owing d id r) room c i = absurd i
handed-room broke room c i = absurd i

-- the bytes that it is handed are the chunk's first
abbrev pub paced : Pace → ℕ → List ℕ → List ℕ
paced byte room c = c
paced (bulk id r total o) room c = take room c

pub handed_is : (d : ℕ) (p : Phase) (room : ℕ) (c : List ℕ) → handed (reading d p) room c ≡ paced (pace_of p) room c
unfolding handed
handed_is d p room c = go (pace_of p)
  where
    go : (q : Pace) → ◌≡◌ {A = List ℕ} (elim q [ byte ↦ c | bulk id r total o ↦ take room c ]) (paced q room c)
    go byte = refl
    go (bulk id r total o) = refl

pub handed_few : (s : State) (room : ℕ) (c : List ℕ) → length (handed s room c) ≤ length c
unfolding handed
handed_few (reading d p) room c = subst (λ (l : List ℕ). length l ≤ length c) (sym (handed_is d p room c)) (go (pace_of p))
  where
    go : (q : Pace) → length (paced q room c) ≤ length c
    go byte = omega arith
    go (bulk id r total o) = omega (arith, length-take room c)
handed_few (owing d id r) room c = omega arith
handed_few broke room c = omega arith

pub handed_first : (s : State) (room : ℕ) (c : List ℕ) (j : ℕ) → j ≤ length (handed s room c) → take j (handed s room c) ≡ take j c
unfolding handed
handed_first (reading d p) room c j h =
    ap (take j) (handed_is d p room c) ∙ go (pace_of p) (subst (λ (l : List ℕ). j ≤ length l) (handed_is d p room c) h)
  where
    go : (q : Pace) → j ≤ length (paced q room c) → take j (paced q room c) ≡ take j c
    go byte h = refl
    go (bulk id r total o) h = take-take j room c (omega (arith, length-take room c))
handed_first (owing d id r) room c j h = refl
handed_first broke room c j h = refl

-- a payload's bytes raise an event
pub bulk_event : (L : Limits) (n d : ℕ) (p : Phase) (x : ℕ) (xs : List ℕ) (id : ℕ) (r : Raw) (total o : ℕ) → pace_of p ≡ bulk id r total o
    → scan L n d p (x ∷ xs) ≡ piece n d id r total o (min (total - o) (length (x ∷ xs))) (x ∷ xs)
unfolding scan
bulk_event L n d p x xs id r total o e =
    ap
    (λ (q : Pace).
    elim q [
      | byte ↦ scanned (suc n) (step L d p x) (λ d' p'. scan L (suc n) d' p' xs)
      | bulk id r total o ↦ piece n d id r total o (min (total - o) (length (x ∷ xs))) (x ∷ xs)
    ])
    e

-- a verdict within a chunk that is handed in part would be one too early: it comes only where all of the chunk is handed
all_handed : (L : Limits) (s : State) (room : ℕ) (c : List ℕ) (v : Verdict) → stuck s room c ≡ false → (call L s (handed s room c)).answer ≡ calls.verdict v
    → length (handed s room c) ≡ length c
unfolding handed stuck call
all_handed L (reading d p) room [] v h e = omega (arith, handed_few (reading d p) room [])
all_handed L (reading d p) zero (x ∷ xs) v h e = ap length (handed_is d p 0 (x ∷ xs)) ∙ go (pace_of p) h
  where
    go : (q : Pace) → ◌≡◌ {A = Bool} (elim q [ byte ↦ false | bulk id r total o ↦ true ]) false → length (paced q 0 (x ∷ xs)) ≡ suc (length xs)
    go byte h = refl
    go (bulk id r total o) h = let w : ◌≡◌ {A = ℕ} 0 1 = cc in absurd (omega arith)
all_handed L (reading d p) (suc m) (x ∷ xs) v h e = go (pace_of p) refl
  where
    go : (q : Pace) → pace_of p ≡ q → length (handed (reading d p) (suc m) (x ∷ xs)) ≡ suc (length xs)
    go byte i = ap length (handed_is d p (suc m) (x ∷ xs) ∙ ap (λ (q : Pace). paced q (suc m) (x ∷ xs)) i)
    go (bulk id r total o) i =
        let w = handed_is d p (suc m) (x ∷ xs) ∙ ap (λ (q : Pace). paced q (suc m) (x ∷ xs)) i in
        let f = sym (ap (λ (l : List ℕ). (scan L 0 d p l).answer) w ∙ ap (λ (r : Called). r.answer) (bulk_event L 0 d p x (take m xs) id r total o i)) ∙ e in
        let z : ◌≡◌ {A = ℕ} 0 1 = cc in absurd (omega arith)
all_handed L (owing d id r) room c v h e = refl
all_handed L broke room c v h e = refl

-- One call of the reader within a turn: it reads no more than the chunk; an event brings the chunk's end nearer, and a verdict comes only
-- there; the state after it is as fair as before.
pub record Heard (L : Limits) (s : State) (c : List ℕ) (r : Called) : Type 0 where
  pub few : r.read ≤ length c
  pub closes : Closes r.answer s r.state r.read (length c)
  pub fair : FairSpot (spot_of r.state)

called : (L : Limits) (s : State) (c : List ℕ) → FairSpot (spot_of s) → Heard L s c (call L s c)
unfolding call
called L (reading d p) c f =
    let r = scan L 0 d p c in
    let q = scan_is L 0 d p c f in
    let k : r.read ≡ q.k = omega (arith, q.read) in
    record {
      few = omega (arith, q.few);
      closes = subst (λ (n : ℕ). Closes r.answer (reading d p) r.state n (length c)) (sym k) (closes r.answer (reading d p) r.state q.k (length c) q.few q.ends);
      fair = subst FairSpot q.spot (fair_walk L d p (take q.k c) f);
    }
called L (owing d id r) c f = record { few = omega arith; closes = omega arith; fair = refl }
called L broke c f = record { few = omega arith; closes = refl; fair = tt }

closes_handed : (s s' : State) (a : calls.Said) (j m n : ℕ) → j ≤ m → m ≤ n → ((v : Verdict) → a ≡ calls.verdict v → m ≡ n) → Closes a s s' j m → Closes a s s' j n
closes_handed s s' (calls.event e) j m n l h v q = omega arith
closes_handed s s' (calls.verdict w) j m n l h v q = (q.0 ∙ v w refl, q.1)
closes_handed s s' calls.invalid j m n l h v q = q

pub turn-heard : (L : Limits) (s : State) (room : ℕ) (c : List ℕ) → FairSpot (spot_of s) → stuck s room c ≡ false → Heard L s c (call L s (handed s room c))
turn-heard L s room c f t =
    let r = call L s (handed s room c) in
    let q = called L s (handed s room c) f in
    let m : length (handed s room c) ≤ length c = handed_few s room c in
    record {
      few = omega (arith, q.few, m);
      closes = closes_handed s r.state r.answer r.read (length (handed s room c)) (length c) q.few m (λ v e. all_handed L s room c v t e) q.closes;
      fair = q.fair;
    }

-- ---- turns enough

pub nearer : (s s' : State) (a : calls.Said) (j m : ℕ) (e : Event) → a ≡ calls.event e → Closes a s s' j m → 2 * (m - j) + weight s' < 2 * m + weight s
nearer s s' (calls.event x) j m e i h = h
nearer s s' (calls.verdict v) j m e i h = let z : ◌≡◌ {A = ℕ} 0 1 = cc in absurd (omega arith)
nearer s s' calls.invalid j m e i h = let z : ◌≡◌ {A = ℕ} 0 1 = cc in absurd (omega arith)

-- half a turn comes to one thing where the turns after it do
same_goes : (L : Limits) (n m room : ℕ) (k : Copy) (c b : List ℕ) → FairSpot (spot_of k.reader)
    → ((s : State) (e : Event) (j : ℕ) → FairSpot (spot_of s) → j ≤ length c → 2 * (length c - j) + weight s < 2 * length c + weight k.reader
    → copies L n (gone k s (all_of k.reader e)) (drop j c) b ≡ copies L m (gone k s (all_of k.reader e)) (drop j c) b)
    → goes L n room k c b ≡ goes L m room k c b
unfolding goes_on
same_goes L n m room k c b f h = go (stuck k.reader room c) refl
  where
    go : (t : Bool) → stuck k.reader room c ≡ t → goes_on L n room k c b t ≡ goes_on L m room k c b t
    go true e = refl
    go false e =
        let r = call L k.reader (handed k.reader room c) in
        let q = turn-heard L k.reader room c f e in
        heard_ext k c b r.read r.answer r.state _ _
        (λ x i. h r.state x r.read q.fair q.few (nearer k.reader r.state r.answer r.read (length c) x i q.closes))

same_by : (L : Limits) (n m : ℕ) (k : Copy) (c b : List ℕ) (t : Bool)
    → ((room : ℕ) (j : Copy) (d : List ℕ) → j.reader ≡ k.reader → goes L n room j c d ≡ goes L m room j c d) → turned_by L n k c b t ≡ turned_by L m k c b t
unfolding turned_by
same_by L n m k c b false h = refl
same_by L n m k c b true h = h _ _ _ refl

-- as many turns as twice the chunk's bytes, one for a piece due, and one more: no more are needed
same_turns : (L : Limits) (n m : ℕ) (k : Copy) (c b : List ℕ) → FairSpot (spot_of k.reader) → 2 * length c + weight k.reader < n → 2 * length c + weight k.reader < m
    → copies L n k c b ≡ copies L m k c b
same_turns L zero m k c b f h i = absurd (not-suc-le-zero h)
same_turns L (suc n) zero k c b f h i = absurd (not-suc-le-zero i)
same_turns L (suc n) (suc m) k c b f h i =
    turn_is L n k c b
    ∙ same_by L n m k c b (fits k b)
    (λ room j d w.
    same_goes L n m room j c d (subst (λ (s : State). FairSpot (spot_of s)) (sym w) f)
    (λ s e x g l y.
    let u : weight j.reader ≡ weight k.reader = ap weight w in
    let z : length (drop x c) ≡ length c - x = length-drop x c in
    same_turns L n m (gone j s (all_of j.reader e)) (drop x c) d g (omega arith) (omega arith)))
    ∙ sym (turn_is L m k c b)

-- ---- the laws of a call

-- a call has turns enough, whatever the chunk and the reader's state
pub enough : (s : State) (c : List ℕ) → 2 * length c + weight s < turns_for c
enough s c = let l = light s in omega arith

copy_is : (L : Limits) (k : Copy) (c b : List ℕ) → copy L k c b ≡ copies L (suc (turns_for c - 1)) k c b
unfolding copy
copy_is L k c b = let l = enough broke c in let e : turns_for c ≡ suc (turns_for c - 1) = omega arith in ap (λ (n : ℕ). copies L n k c b) e

-- What is owed doesn't fit: "full", with the buffer written to its end and the place reached kept.
pub copy_full : (L : Limits) (k : Copy) (c b : List ℕ) → length b - k.pos < length (rest k.owed)
    → copy L k c b
    ≡ record { used = 0; answer = full; copy = filled k (reached b k.pos (rest k.owed)); buf = put b k.pos (rest k.owed) }
copy_full L k c b h = copy_is L k c b ∙ turn_full L (turns_for c - 1) k c b h

-- What is owed fits: the call goes on as one that finds it out.
pub copy_settles : (L : Limits) (k : Copy) (c b : List ℕ) → length (rest k.owed) ≤ length b - k.pos
    → copy L k c b ≡ copy L (settled k (reached b k.pos (rest k.owed))) c (put b k.pos (rest k.owed))
copy_settles L k c b h =
    let pos = reached b k.pos (rest k.owed) in
    let d = put b k.pos (rest k.owed) in
    let n : length d ≡ length b = same_length b k.pos (rest k.owed) in
    copy_is L k c b ∙ turn_goes L (turns_for c - 1) k c b h
    ∙ ap (λ (m : ℕ). goes L (turns_for c - 1) (m - pos) (settled k pos) c d) (sym n)
    ∙ sym (turn_free L (turns_for c - 1) (settled k pos) c d refl)
    ∙ sym (copy_is L (settled k pos) c d)

-- A payload byte is there and no place is free: "full", and nothing alters.
pub copy-stuck : (L : Limits) (k : Copy) (c b : List ℕ) → k.owed ≡ nothing → stuck k.reader (length b - k.pos) c ≡ true
    → copy L k c b ≡ record { used = 0; answer = full; copy = k; buf = b }
unfolding goes_on
copy-stuck L k c b o t =
    copy_is L k c b ∙ turn_free L (turns_for c - 1) k c b o
    ∙ ap (goes_on L (turns_for c - 1) (length b - k.pos) k c b) t

turn-after : (L : Limits) (k : Copy) (c b : List ℕ) → FairSpot (spot_of k.reader) → stuck k.reader (length b - k.pos) c ≡ false
    → let r = call L k.reader (handed k.reader (length b - k.pos) c) in
    (e : Event) → r.answer ≡ calls.event e
    → copies L (turns_for c - 1) (gone k r.state (all_of k.reader e)) (drop r.read c) b
    ≡ copy L (gone k r.state (all_of k.reader e)) (drop r.read c) b
unfolding copy
turn-after L k c b f t e i =
    let r = call L k.reader (handed k.reader (length b - k.pos) c) in
    let q = turn-heard L k.reader (length b - k.pos) c f t in
    let x = nearer k.reader r.state r.answer r.read (length c) e i q.closes in
    let y : length (drop r.read c) ≡ length c - r.read = length-drop r.read c in
    let z = enough k.reader c in
    same_turns L (turns_for c - 1) (turns_for (drop r.read c)) (gone k r.state (all_of k.reader e)) (drop r.read c) b q.fair (omega arith) (enough r.state (drop r.read c))

-- Nothing is owed: the reader is called, and what it gives is owed.
pub copy-turn : (L : Limits) (k : Copy) (c b : List ℕ) → FairSpot (spot_of k.reader) → k.owed ≡ nothing → stuck k.reader (length b - k.pos) c ≡ false
    → let r = call L k.reader (handed k.reader (length b - k.pos) c) in
    copy L k c b ≡ heard k c b r (λ e. copy L (gone k r.state (all_of k.reader e)) (drop r.read c) b)
unfolding goes_on
copy-turn L k c b f o t =
    let r = call L k.reader (handed k.reader (length b - k.pos) c) in
    copy_is L k c b ∙ turn_free L (turns_for c - 1) k c b o
    ∙ ap (goes_on L (turns_for c - 1) (length b - k.pos) k c b) t
    ∙ heard_ext k c b r.read r.answer r.state _ _ (turn-after L k c b f t)
