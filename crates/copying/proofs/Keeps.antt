-- A call of the copier loses no byte and makes none up: what is out, with what is owed, is the bytes of the events of what is read; "full"
-- comes only with the buffer written to its end and a byte owed, the verdict once the chunk is spent, and turns never run out.
use Prim.Native.Nat.{ℕ, zero, suc, ◌+◌, ◌-◌, ◌*◌, ◌<◌, ◌≤◌, min}
use native.Mathlib.Nat.{not-suc-le-zero}
use native.Mathlib.Omega.{arith}
use mathlib.Core.Path.{◌≡◌, refl, sym, ap, ◌∙◌, subst}
use mathlib.Core.Bool.{Bool, true, false}
use mathlib.Core.Logic.{◌⊎◌, inl, inr}
use mathlib.Core.List.{List, [], ◌∷◌, ◌++◌, append_assoc, append-nil}
use lib.Dec.{leb}
use borrow.Author.Tests.{leb-true, leb-false}
use lib.ListN.{length, take, drop, length-append, length-take, length-drop, take-append-drop, drop_of_length-le}
use lib.Seq.{length-take-le, take-add, take_all, take-take, take_at, drop_at, drop-drop}
use Rattle.layout.specs.Limits.{Limits}
use Rattle.layout.specs.Event.{Event}
use Rattle.laws.specs.Events.{event_bytes, due_after_all, encode_events}
use Rattle.laws.proofs.Copying.{encode-append}
use Rattle.machine.specs.Machine.{idle}
use Rattle.machine.specs.Calls.{State, reading, owing, broke, Pace, byte, bulk, pace_of, call}
use Rattle.machine.specs.Calls as calls
use Rattle.machine.specs.Run.{given, spot_of, Follows}
use Rattle.machine.proofs.Calls.{FairSpot, fair_walk, weight, Closes, call_follows}
use Rattle.putting.specs.Put.{over, put, reached}
use Rattle.putting.proofs.Writes.{put_is, reached_is, take-over, length-put, reached_le}
use Rattle.copying.specs.Owed.{Owed, nothing, owes, rest, further, due_in}
use Rattle.copying.specs.Copy.{Copy, Said, full, verdict, invalid, unfinished, Copied, after, settled, filled, gone, handed, stuck, heard, fits, all_of, copies, turns_for, copy}
use Rattle.copying.specs.Run.{Keeps, InPayload, Bulk, Final, NoPiece, Kept}
use Rattle.copying.proofs.Turns.{goes, goes_on, turn_full, turn_goes, fits_false, fits_true, enough, handed_first, turn-heard}
use Rattle.copying.proofs.Due.{walk-due}
use Rattle.copying.proofs.Pieces.{Takes, takes_plain, given-fits}

-- ---- what goes out

reached-cut : (b : List ℕ) (p : ℕ) (o : List ℕ) → reached b p o - p ≡ min (length o) (length b - p)
reached-cut b p o = let e = reached_is b p o in omega arith

least : (x y : ℕ) → min x y ≡ min y x
least x y = omega arith

-- below the position stands what stood there, and what was put
below : (b : List ℕ) (p : ℕ) (o : List ℕ) → p ≤ length b → take (reached b p o) (put b p o) ≡ take p b ++ take (length b - p) o
below b p o h =
    let n : reached b p o ≡ p + length (take (length b - p) o) =
    reached_is b p o ∙ ap (λ (m : ℕ). p + m) (least (length o) (length b - p) ∙ sym (length-take (length b - p) o)) in
    ap (λ (m : ℕ). take m (put b p o)) n ∙ ap (take (p + length (take (length b - p) o))) (put_is b p o) ∙ take-over b p (take (length b - p) o) h

split_at : (o : List ℕ) (r : ℕ) → take r o ++ drop (min (length o) r) o ≡ o
split_at o r = go (leb r (length o)) refl
  where
    go : (t : Bool) → leb r (length o) ≡ t → take r o ++ drop (min (length o) r) o ≡ o
    go true e =
        let l = leb-true r (length o) e in
        let m : min (length o) r ≡ r = omega arith in
        ap (λ (n : ℕ). take r o ++ drop n o) m ∙ take-append-drop r o
    go false e =
        let l = leb-false r (length o) e in
        let m : min (length o) r ≡ length o = omega arith in
        ap (λ (n : ℕ). take r o ++ drop n o) m ∙ ap (λ (l : List ℕ). l ++ drop (length o) o) (take_all r o (omega arith))
        ∙ ap (λ (l : List ℕ). o ++ l) (drop_of_length-le o {i = length o} (omega arith)) ∙ append-nil o

-- what is out and what is still owed of it, before and after
put-out : (sent b : List ℕ) (p : ℕ) (o : List ℕ) → p ≤ length b → (sent ++ take (reached b p o) (put b p o)) ++ drop (reached b p o - p) o ≡ (sent ++ take p b) ++ o
put-out sent b p o h =
    ap (λ (l : List ℕ). (sent ++ l) ++ drop (reached b p o - p) o) (below b p o h)
    ∙ ap (λ (n : ℕ). (sent ++ (take p b ++ take (length b - p) o)) ++ drop n o) (reached-cut b p o)
    ∙ ap (λ (l : List ℕ). l ++ drop (min (length o) (length b - p)) o) (sym (append_assoc sent (take p b) (take (length b - p) o)))
    ∙ append_assoc (sent ++ take p b) (take (length b - p) o) (drop (min (length o) (length b - p)) o)
    ∙ ap (λ (l : List ℕ). (sent ++ take p b) ++ l) (split_at o (length b - p))

-- all else stays
pub put_below : (b : List ℕ) (p : ℕ) (o : List ℕ) → p ≤ length b → take p (put b p o) ≡ take p b
unfolding put over
put_below b p o h = take_at (take p b) _ p (length-take-le p b h)

pub put_beyond : (b : List ℕ) (p : ℕ) (o : List ℕ) → p ≤ length b → drop (reached b p o) (put b p o) ≡ drop (reached b p o) b
unfolding put over
put_beyond b p o h =
    let t = take (length b - p) o in
    let n : reached b p o ≡ p + length t = reached_is b p o ∙ ap (λ (m : ℕ). p + m) (least (length o) (length b - p) ∙ sym (length-take (length b - p) o)) in
    let m : length (take p b ++ t) ≡ p + length t = length-append (take p b) t ∙ ap (λ (x : ℕ). x + length t) (length-take-le p b h) in
    ap (λ (x : ℕ). drop x (put b p o)) n ∙ ap (drop (p + length t)) (sym (append_assoc (take p b) t (drop (p + length t) b)))
    ∙ drop_at (take p b ++ t) (drop (p + length t) b) (p + length t) m ∙ ap (λ (x : ℕ). drop x b) (sym n)

-- two buffers that are the same up to a place or from it on are so up to an earlier one and from a later one on
pub take_less : (p q : ℕ) (x y : List ℕ) → p ≤ q → take q x ≡ take q y → take p x ≡ take p y
take_less p q x y h e = sym (take-take p q x h) ∙ ap (take p) e ∙ take-take p q y h

pub drop_more : (p q : ℕ) (x y : List ℕ) → p ≤ q → drop p x ≡ drop p y → drop q x ≡ drop q y
drop_more p q x y h e =
    let n : p + (q - p) ≡ q = omega arith in
    ap (λ (m : ℕ). drop m x) (sym n) ∙ sym (drop-drop (q - p) p x) ∙ ap (drop (q - p)) e ∙ drop-drop (q - p) p y ∙ ap (λ (m : ℕ). drop m y) n

rest-further : (o : Owed) (n : ℕ) → rest (further o n) ≡ drop n (rest o)
unfolding rest further
rest-further nothing n = sym (drop_of_length-le [] {i = n} (omega arith))
rest-further (owes due e place) n = sym (drop-drop n place (event_bytes due e))

further_plain : (o : Owed) (n : ℕ) → NoPiece o → NoPiece (further o n)
unfolding further
further_plain nothing n h = tt
further_plain (owes due e place) n h = h

-- ---- the parts of a turn

follows_nil : (L : Limits) (bs c : List ℕ) (es : List Event) (s : State) → Follows L bs es s → Follows L (bs ++ take 0 c) es s
follows_nil L bs c es s f = subst (λ (l : List ℕ). Follows L l es s) (sym (append-nil bs)) f

-- it doesn't fit
kept_full : (L : Limits) (reserved bs sent : List ℕ) (k : Copy) (c b : List ℕ) → Keeps L reserved bs (sent ++ take k.pos b) k → k.pos ≤ length b → NoPiece k.owed
    → length b - k.pos < length (rest k.owed)
    → Kept L reserved bs sent k c b (record { used = 0; answer = full; copy = filled k (reached b k.pos (rest k.owed)); buf = put b k.pos (rest k.owed) })
kept_full L reserved bs sent k c b q p n h =
    let o = rest k.owed in
    let e = reached_is b k.pos o in
    let pos = reached b k.pos o in
    let f : rest (further k.owed (pos - k.pos)) ≡ drop (pos - k.pos) o = rest-further k.owed (pos - k.pos) in
    let m : length (rest (further k.owed (pos - k.pos))) ≡ length o - (pos - k.pos) = ap length f ∙ length-drop (pos - k.pos) o in
    let z : pos ≡ length b = omega arith in
    record {
      few = omega arith;
      size = length-put b k.pos o p;
      ahead = omega arith;
      within = omega arith;
      below = put_below b k.pos o p;
      beyond = put_beyond b k.pos o p;
      keeps =
          record {
            events = q.events;
            follows = follows_nil L bs c q.events k.reader q.follows;
            bytes = ap (λ (l : List ℕ). (sent ++ take pos (put b k.pos o)) ++ l) f ∙ put-out sent b k.pos o p ∙ q.bytes;
          };
      whole = further_plain k.owed (pos - k.pos) n;
      final = (z, inl (omega arith));
    }

-- it fits
keeps_settled : (L : Limits) (reserved bs sent : List ℕ) (k : Copy) (b : List ℕ) → Keeps L reserved bs (sent ++ take k.pos b) k → k.pos ≤ length b
    → length (rest k.owed) ≤ length b - k.pos
    → Keeps L reserved bs (sent ++ take (reached b k.pos (rest k.owed)) (put b k.pos (rest k.owed))) (settled k (reached b k.pos (rest k.owed)))
unfolding rest
keeps_settled L reserved bs sent k b q p h =
    let o = rest k.owed in
    let pos = reached b k.pos o in
    let e = reached_is b k.pos o in
    let z : drop (pos - k.pos) o ≡ [] = drop_of_length-le o {i = pos - k.pos} (omega arith) in
    record {
      events = q.events;
      follows = q.follows;
      bytes = ap (λ (l : List ℕ). (sent ++ take pos (put b k.pos o)) ++ l) (sym z) ∙ put-out sent b k.pos o p ∙ q.bytes;
    }

-- a call from a state and buffer that are further on
kept_from : (L : Limits) (reserved bs sent : List ℕ) (k j : Copy) (c b d : List ℕ) (r : Copied) → k.pos ≤ j.pos → length d ≡ length b → take k.pos d ≡ take k.pos b
    → drop j.pos d ≡ drop j.pos b → Kept L reserved bs sent j c d r → Kept L reserved bs sent k c b r
kept_from L reserved bs sent k j c b d r p n e f h =
    let a = h.ahead in
    let w = h.within in
    record {
      few = h.few;
      size = h.size ∙ n;
      ahead = omega arith;
      within = omega arith;
      below = take_less k.pos j.pos r.buf d p h.below ∙ e;
      beyond = h.beyond ∙ drop_more j.pos r.copy.pos d b a f;
      keeps = h.keeps;
      whole = h.whole;
      final = subst (Final r.answer r.copy r.used c) n h.final;
    }

-- the reader's event, and the turns after it
final_later : (k : Copy) (c : List ℕ) (size j n : ℕ) (a : Said) → j ≤ length c → n ≤ length (drop j c) → Final a k n (drop j c) size → Final a k (j + n) c size
final_later k c size j n full l m h =
    let e : drop n (drop j c) ≡ drop (j + n) c = drop-drop n j c in
    (h.0, subst (λ (x : List ℕ). (0 < length (rest k.owed)) ⊎ ((k.owed ≡ nothing) × InPayload k.reader × (0 < length x))) e h.1)
final_later k c size j n (verdict v) l m h = let e : j + n ≡ length c = omega (arith, h.0, length-drop j c) in (e, h.1, h.2)
final_later k c size j n invalid l m h = h
final_later k c size j n unfinished l m h = h

kept_after : (L : Limits) (reserved bs sent : List ℕ) (k j : Copy) (c b : List ℕ) (n : ℕ) (r : Copied) → j.pos ≡ k.pos → n ≤ length c → Kept L reserved (bs ++ take n c) sent j (drop n c) b r → Kept L reserved bs sent k c b (after n r)
kept_after L reserved bs sent k j c b n r p l h =
    let m : length (drop n c) ≡ length c - n = length-drop n c in
    let e : (bs ++ take n c) ++ take r.used (drop n c) ≡ bs ++ take (n + r.used) c =
    append_assoc bs (take n c) _ ∙ ap (λ (x : List ℕ). bs ++ x) (sym (take-add n r.used c)) in
    let a = h.ahead in
    let f = h.few in
    record {
      few = omega arith;
      size = h.size;
      ahead = omega arith;
      within = h.within;
      below = subst (λ (x : ℕ). take x r.buf ≡ take x b) p h.below;
      beyond = h.beyond;
      keeps = subst (λ (x : List ℕ). Keeps L reserved x (sent ++ take r.copy.pos r.buf) r.copy) e h.keeps;
      whole = h.whole;
      final = final_later r.copy c (length b) n r.used r.answer l f h.final;
    }

-- ---- the reader's part

stuck_is : (s : State) (room : ℕ) (c : List ℕ) → stuck s room c ≡ true → (room ≡ 0) × InPayload s × (0 < length c)
unfolding stuck
stuck_is (reading d p) room [] h = let w : ◌≡◌ {A = ℕ} 0 1 = cc in absurd (omega arith)
stuck_is (reading d p) (suc room) (x ∷ c) h = let w : ◌≡◌ {A = ℕ} 0 1 = cc in absurd (omega arith)
stuck_is (reading d p) zero (x ∷ c) h = (refl, go (pace_of p) h, omega arith)
  where
    go : (q : Pace) → ◌≡◌ {A = Bool} (elim q [ byte ↦ false | bulk id r total o ↦ true ]) true → Bulk q
    go byte h = let w : ◌≡◌ {A = ℕ} 0 1 = cc in absurd (omega arith)
    go (bulk id r total o) h = tt
stuck_is (owing d id r) room c h = let w : ◌≡◌ {A = ℕ} 0 1 = cc in absurd (omega arith)
stuck_is broke room c h = let w : ◌≡◌ {A = ℕ} 0 1 = cc in absurd (omega arith)

kept_stuck : (L : Limits) (reserved bs sent : List ℕ) (k : Copy) (c b : List ℕ) → Keeps L reserved bs (sent ++ take k.pos b) k → k.pos ≤ length b → k.owed ≡ nothing
    → stuck k.reader (length b - k.pos) c ≡ true → Kept L reserved bs sent k c b (record { used = 0; answer = full; copy = k; buf = b })
kept_stuck L reserved bs sent k c b q p o t =
    let s = stuck_is k.reader (length b - k.pos) c t in
    let n = s.0 in
    let z : k.pos ≡ length b = omega arith in
    record {
      few = omega arith;
      size = refl;
      ahead = omega arith;
      within = p;
      below = refl;
      beyond = refl;
      keeps = record { events = q.events; follows = follows_nil L bs c q.events k.reader q.follows; bytes = q.bytes };
      whole = subst NoPiece (sym o) tt;
      final = (z, inr (o, s.1, s.2));
    }

not_broke : (L : Limits) (s : State) (c : List ℕ) (e : Event) → (call L s c).answer ≡ calls.event e → s ≡ broke → ⊥
unfolding call
not_broke L s c e h b =
    let i : calls.invalid ≡ calls.event e = sym (ap (λ (s : State). (call L s c).answer) b) ∙ h in
    let w : ◌≡◌ {A = ℕ} 0 1 = cc in omega arith

-- an event more is owed
keeps_event : (L : Limits) (reserved bs sent : List ℕ) (k : Copy) (c b : List ℕ) (j : ℕ) (s : State) (e : Event) (q : Keeps L reserved bs (sent ++ take k.pos b) k) → k.owed ≡ nothing
    → (k.reader ≡ broke → ⊥) → Follows L (bs ++ take j c) (q.events ++ (e ∷ [])) s
    → Keeps L reserved (bs ++ take j c) (sent ++ take k.pos b) (gone k s (all_of k.reader e))
unfolding rest encode_events
keeps_event L reserved bs sent k c b j s e q o n f =
    let es = q.events in
    let d : due_after_all 0 es ≡ due_in k.reader = walk-due L bs es k.reader q.follows n in
    let z : sent ++ take k.pos b ≡ reserved ++ encode_events 0 es =
    sym (append-nil (sent ++ take k.pos b)) ∙ ap (λ (x : Owed). (sent ++ take k.pos b) ++ rest x) (sym o) ∙ q.bytes in
    record {
      events = es ++ (e ∷ []);
      follows = f;
      bytes =
          ap (λ (x : List ℕ). x ++ event_bytes (due_in k.reader) e) z
          ∙ append_assoc reserved (encode_events 0 es) (event_bytes (due_in k.reader) e)
          ∙ ap (λ (m : ℕ). reserved ++ (encode_events 0 es ++ event_bytes m e)) (sym d)
          ∙ ap (λ (x : List ℕ). reserved ++ (encode_events 0 es ++ x)) (sym (append-nil (event_bytes (due_after_all 0 es) e)))
          ∙ ap (λ (x : List ℕ). reserved ++ x) (sym (encode-append 0 es (e ∷ [])));
    }

-- no event more
keeps_end : (L : Limits) (reserved bs sent : List ℕ) (k : Copy) (c b : List ℕ) (j : ℕ) (s : State) (q : Keeps L reserved bs (sent ++ take k.pos b) k) → k.owed ≡ nothing
    → Follows L (bs ++ take j c) (q.events ++ []) s → Keeps L reserved (bs ++ take j c) (sent ++ take k.pos b) (gone k s nothing)
keeps_end L reserved bs sent k c b j s q o f =
    record {
      events = q.events;
      follows = subst (λ (es : List Event). Follows L (bs ++ take j c) es s) (append-nil q.events) f;
      bytes = ap (λ (x : Owed). (sent ++ take k.pos b) ++ rest x) (sym o) ∙ q.bytes;
    }

-- by the reader's answer
kept_heard : (L : Limits) (reserved bs sent : List ℕ) (k : Copy) (c b : List ℕ) (j : ℕ) (a : calls.Said) (s : State) (f : Event → Copied) (q : Keeps L reserved bs (sent ++ take k.pos b) k)
    → k.pos ≤ length b → k.owed ≡ nothing → j ≤ length c → Closes a k.reader s j (length c) → Follows L (bs ++ take j c) (q.events ++ given a) s
    → ((e : Event) → a ≡ calls.event e → Follows L (bs ++ take j c) (q.events ++ (e ∷ [])) s → 2 * (length c - j) + weight s < 2 * length c + weight k.reader
    → Kept L reserved (bs ++ take j c) sent (gone k s (all_of k.reader e)) (drop j c) b (f e))
    → Kept L reserved bs sent k c b (heard k c b (record { read = j; answer = a; state = s }) f)
unfolding heard
kept_heard L reserved bs sent k c b j (calls.event e) s f q p o l h g go =
    kept_after L reserved bs sent k (gone k s (all_of k.reader e)) c b j (f e) refl l (go e refl g h)
kept_heard L reserved bs sent k c b j (calls.verdict v) (reading d p') f q p o l h g go =
    record {
      few = l;
      size = refl;
      ahead = omega arith;
      within = p;
      below = refl;
      beyond = refl;
      keeps = keeps_end L reserved bs sent k c b j (reading d p') q o g;
      whole = tt;
      final = (h.0, refl, (d, p', refl, h.1));
    }
kept_heard L reserved bs sent k c b j (calls.verdict v) (owing d id r) f q p o l h g go = absurd h.1
kept_heard L reserved bs sent k c b j (calls.verdict v) broke f q p o l h g go = absurd h.1
kept_heard L reserved bs sent k c b j calls.invalid s f q p o l h g go =
    record { few = l; size = refl; ahead = omega arith; within = p; below = refl; beyond = refl; keeps = keeps_end L reserved bs sent k c b j s q o g; whole = tt; final = (refl, h) }

-- what a turn needs of the turns after it
abbrev Later : Limits → ℕ → List ℕ → ℕ → Type 0
Later L n reserved most =
    (bs sent : List ℕ) (k : Copy) (c b : List ℕ) → Keeps L reserved bs (sent ++ take k.pos b) k → k.pos ≤ length b → Takes k b → 2 * length c + weight k.reader < most
    → Kept L reserved bs sent k c b (copies L n k c b)

kept_goes : (L : Limits) (n : ℕ) (reserved bs sent : List ℕ) (k : Copy) (c b : List ℕ) → Keeps L reserved bs (sent ++ take k.pos b) k → k.pos ≤ length b → k.owed ≡ nothing
    → Later L n reserved (2 * length c + weight k.reader) → Kept L reserved bs sent k c b (goes L n (length b - k.pos) k c b)
unfolding goes_on rest
kept_goes L n reserved bs sent k c b q p o later = go (stuck k.reader (length b - k.pos) c) refl
  where
    go : (t : Bool) → stuck k.reader (length b - k.pos) c ≡ t → Kept L reserved bs sent k c b (goes_on L n (length b - k.pos) k c b t)
    go true e = kept_stuck L reserved bs sent k c b q p o e
    go false e =
        let h = handed k.reader (length b - k.pos) c in
        let r = call L k.reader h in
        let w = call_follows L bs q.events k.reader h q.follows in
        let fair : FairSpot (spot_of k.reader) = subst FairSpot q.follows.spot (fair_walk L 0 idle bs refl) in
        let v = turn-heard L k.reader (length b - k.pos) c fair e in
        let g : Follows L (bs ++ take r.read c) (q.events ++ given r.answer) r.state =
        subst (λ (l : List ℕ). Follows L (bs ++ l) (q.events ++ given r.answer) r.state) (handed_first k.reader (length b - k.pos) c r.read w.few) w.follows in
        kept_heard L reserved bs sent k c b r.read r.answer r.state _ q p o v.few v.closes g
        (λ x i y z.
        later (bs ++ take r.read c) sent (gone k r.state (all_of k.reader x)) (drop r.read c) b
        (keeps_event L reserved bs sent k c b r.read r.state x q o (not_broke L k.reader h x i) y) p (given-fits L (due_in k.reader) k.reader (length b - k.pos) c x i)
        (omega (arith, length-drop r.read c)))

-- one turn, and those after it
kept_turn : (L : Limits) (n : ℕ) (reserved bs sent : List ℕ) (k : Copy) (c b : List ℕ) → Keeps L reserved bs (sent ++ take k.pos b) k → k.pos ≤ length b → Takes k b
    → Later L n reserved (2 * length c + weight k.reader) → Kept L reserved bs sent k c b (copies L (suc n) k c b)
kept_turn L n reserved bs sent k c b q p t later = go (fits k b) refl
  where
    go : (u : Bool) → fits k b ≡ u → Kept L reserved bs sent k c b (copies L (suc n) k c b)
    go false e =
        let l = fits_false k b e in
        subst (Kept L reserved bs sent k c b) (sym (turn_full L n k c b l)) (kept_full L reserved bs sent k c b q p (takes_plain k b t l) l)
    go true e =
        let l = fits_true k b e in
        let pos = reached b k.pos (rest k.owed) in
        let d = put b k.pos (rest k.owed) in
        let m : length d ≡ length b = length-put b k.pos (rest k.owed) p in
        let i = reached_is b k.pos (rest k.owed) in
        let w = reached_le b k.pos (rest k.owed) p in
        let x : Kept L reserved bs sent (settled k pos) c d (goes L n (length d - pos) (settled k pos) c d) =
        kept_goes L n reserved bs sent (settled k pos) c d (keeps_settled L reserved bs sent k b q p l) (omega arith) refl later in
        subst (Kept L reserved bs sent k c b)
        (ap (λ (y : ℕ). goes L n (y - pos) (settled k pos) c d) m ∙ sym (turn_goes L n k c b l))
        (kept_from L reserved bs sent k (settled k pos) c b d _ (omega arith) m (put_below b k.pos (rest k.owed) p) (put_beyond b k.pos (rest k.owed) p) x)

kept_turns : (L : Limits) (n : ℕ) (reserved bs sent : List ℕ) (k : Copy) (c b : List ℕ) → Keeps L reserved bs (sent ++ take k.pos b) k → k.pos ≤ length b → Takes k b
    → 2 * length c + weight k.reader < n → Kept L reserved bs sent k c b (copies L n k c b)
kept_turns L zero reserved bs sent k c b q p t h = absurd (not-suc-le-zero h)
kept_turns L (suc n) reserved bs sent k c b q p t h =
    kept_turn L n reserved bs sent k c b q p t (λ bs' sent' k' c' b' q' p' t' h'. kept_turns L n reserved bs' sent' k' c' b' q' p' t' (omega arith))

-- THE CALL. From a state of a run, over any chunk and any buffer: no byte is lost or made up, "full" comes only with the buffer written to
-- its end and a byte owed, the verdict once the chunk is spent, and the turns of a call are enough.
pub copy_keeps : (L : Limits) (reserved bs sent : List ℕ) (k : Copy) (c b : List ℕ) → Keeps L reserved bs (sent ++ take k.pos b) k → k.pos ≤ length b → NoPiece k.owed
    → Kept L reserved bs sent k c b (copy L k c b)
unfolding copy
copy_keeps L reserved bs sent k c b q p h = kept_turns L (turns_for c) reserved bs sent k c b q p (inl h) (enough k.reader c)
