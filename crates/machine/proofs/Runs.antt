-- The reader's run theorem: for every byte string and every list of chunks that join to it, calling on ends, the events given are the
-- layout's, and the verdict after each chunk is the layout's for the bytes so far.
use Prim.Native.Nat.{ℕ, zero, suc, ◌+◌, ◌-◌, ◌*◌, ◌<◌, ◌≤◌, min}
use native.Mathlib.Nat.{not-suc-le-zero}
use native.Mathlib.Omega.{arith}
use mathlib.Core.Path.{◌≡◌, refl, sym, ap, ◌∙◌, subst}
use mathlib.Core.Logic.{◌↔◌}
use mathlib.Core.Bool.{Bool, true, false}
use mathlib.Core.List.{List, [], ◌∷◌, ◌++◌, append_assoc, append-nil}
use lib.Dec.{eqb}
use lib.ListN.{length, take, drop, length-append, length-take, length-drop, take-append-drop}
use lib.Seq.{take-add, take-length}
use Rattle.layout.specs.Limits.{Limits, pick}
use Rattle.layout.specs.Event.{Event, joined, bytewise}
use Rattle.layout.specs.Varint.{broken}
use Rattle.layout.specs.Message.{Verdict, complete, incomplete, broken_at, verdict_of, events_of, message, fields_from, verdict_by}
use Rattle.machine.specs.Machine.{Phase, idle, in_header, in_unsigned, in_signed, in_word, in_unsigned_count, in_signed_count, in_float_count, in_array_word, in_float, in_payload}
use Rattle.machine.specs.Machine.{Spot, at, broken_before, walk, ending, end_of, verdict_after}
use Rattle.machine.specs.Calls.{State, reading, owing, broke, fresh, Said, event, verdict, invalid, verdict_at, verdict_so, Standing, standing_of, standing, call}
use Rattle.machine.specs.Calls as Calls
use Rattle.machine.specs.Run.{given, due, Follows, Ending, ended, unfinished, Chunk, more, calls, chunk, Heard, status, heard_of, seen, chunks, verdicts_of, heard_all, read_of, last_heard, join}
use Rattle.layout.proofs.Joined.{joined_exactly, joined-run, bytewise_again}
use Rattle.machine.proofs.Bridge.{events-walk, verdict_walk}
use Rattle.machine.proofs.Prefix.{broken_stays}
use Rattle.machine.proofs.Calls.{Judged, Closes, weight, call_follows, fresh_follows}

-- ---- a chunk

-- how a chunk's calls end, k bytes of its m being read: a verdict comes once it is spent and is that of the spot reached
abbrev pub EndsAt : Ending Said → State → ℕ → ℕ → Type 0
EndsAt (ended (event e)) s k m = ⊥
EndsAt (ended (verdict v)) s k m = (k ≡ m) × Judged s v
EndsAt (ended invalid) s k m = s ≡ broke
EndsAt unfinished s k m = ⊥

pub record Ran (L : Limits) (bs : List ℕ) (es : List Event) (c : List ℕ) (r : Chunk) : Type 0 where
  pub few : r.read ≤ length c
  pub follows : Follows L (bs ++ take r.read c) (es ++ r.events) r.state
  pub final : EndsAt r.answer r.state r.read (length c)

-- one call, and the calls after it
later : (L : Limits) (bs : List ℕ) (es : List Event) (c : List ℕ) (e : Event) (k : ℕ) (q : Chunk) → k ≤ length c
    → Ran L (bs ++ take k c) (es ++ (e ∷ [])) (drop k c) q → Ran L bs es c (more e k q)
later L bs es c e k q l h =
    let n : length (drop k c) ≡ length c - k = length-drop k c in
    let b : (bs ++ take k c) ++ take q.read (drop k c) ≡ bs ++ take (k + q.read) c =
    append_assoc bs (take k c) _ ∙ ap (λ (l : List ℕ). bs ++ l) (sym (take-add k q.read c)) in
    let x : (es ++ (e ∷ [])) ++ q.events ≡ es ++ (e ∷ q.events) = append_assoc es (e ∷ []) q.events in
    record {
      few = omega (arith, h.few);
      follows =
          subst (λ (l : List ℕ). Follows L l (es ++ (e ∷ q.events)) q.state) b
          (subst (λ (l : List Event). Follows L ((bs ++ take k c) ++ take q.read (drop k c)) l q.state) x h.follows);
      final = final_later q.answer q.state q.read (omega (arith, h.few)) h.final;
    }
  where
    final_later : (a : Ending Said) (s : State) (j : ℕ) → j + k ≤ length c → EndsAt a s j (length (drop k c)) → EndsAt a s (k + j) (length c)
    final_later (ended (event e)) s j g f = f
    final_later (ended (verdict v)) s j g f = let z : k + j ≡ length c = omega (arith, f.0, length-drop k c) in (z, f.1)
    final_later (ended invalid) s j g f = f
    final_later unfinished s j g f = f

-- by the answer of the first call
by_answer : (L : Limits) (n : ℕ) (bs : List ℕ) (es : List Event) (s : State) (c : List ℕ) (k : ℕ) (s' : State) (a : Said)
    → k ≤ length c → Closes a s s' k (length c) → Follows L (bs ++ take k c) (es ++ given a) s'
    → ((e : Event) → Follows L (bs ++ take k c) (es ++ (e ∷ [])) s' → 2 * (length c - k) + weight s' < 2 * length c + weight s → Ran L (bs ++ take k c) (es ++ (e ∷ [])) (drop k c) (calls L n s' (drop k c)))
    → Ran L bs es c
    (elim a [
      | event e ↦ more e k (calls L n s' (drop k c))
      | verdict v ↦ record { events = []; read = k; answer = ended (verdict v); state = s' }
      | invalid ↦ record { events = []; read = k; answer = ended invalid; state = s' }
    ])
by_answer L n bs es s c k s' (event e) l h f go = later L bs es c e k (calls L n s' (drop k c)) l (go e f h)
by_answer L n bs es s c k s' (verdict v) l h f go = record { few = l; follows = f; final = h }
by_answer L n bs es s c k s' invalid l h f go = record { few = l; follows = f; final = h }

ran : (L : Limits) (n : ℕ) (bs : List ℕ) (es : List Event) (s : State) (c : List ℕ) → Follows L bs es s → 2 * length c + weight s < n → Ran L bs es c (calls L n s c)
unfolding calls
ran L zero bs es s c f h = absurd (not-suc-le-zero h)
ran L (suc n) bs es s c f h =
    let r = call L s c in
    let a = call_follows L bs es s c f in
    by_answer L n bs es s c r.read r.state r.answer a.few a.closes a.follows
    (λ e g l. ran L n (bs ++ take r.read c) (es ++ (e ∷ [])) r.state (drop r.read c) g (omega (arith, length-drop r.read c)))

-- From any state of a run, a chunk's calls end with the events given and due the layout's for the bytes read.
pub chunk_follows : (L : Limits) (bs : List ℕ) (es : List Event) (s : State) (c : List ℕ) → Follows L bs es s → Ran L bs es c (chunk L s c)
chunk_follows L bs es s c f = ran L (2 * length c + 2) bs es s c f (enough s)
  where
    enough : (s : State) → 2 * length c + weight s < 2 * length c + 2
    enough (reading d p) = omega arith
    enough (owing d id r) = omega arith
    enough broke = omega arith

-- ---- a list of chunks

-- All the bytes bs were handed, n of them read, and the events es given: the reader goes on from there, or stands broken.
data Stands (L : Limits) (bs : List ℕ) (es : List Event) (n : ℕ) : State → Type 0 where
  clear : {d : ℕ} {p : Phase} → Follows L bs es (reading d p) → n ≡ length bs → Stands L bs es n (reading d p)
  gone : verdict_of L bs ≡ broken_at n → events_of L bs ≡ bytewise es → Stands L bs es n broke

-- a verdict has no word for a broken reader, which is refused
abbrev pub unbroken : Standing → Standing
unbroken Calls.complete = Calls.complete
unbroken Calls.incomplete = Calls.incomplete
unbroken Calls.broken = Calls.incomplete

-- a spot that is not broken has its verdict whatever was read
same_verdict : (m : ℕ) (d : ℕ) (p : Phase) → verdict_after m (ending d p) ≡ verdict_at d p
unfolding verdict_after ending
same_verdict m d (in_header zero v) = refl
same_verdict m d (in_header (suc k) v) = refl
same_verdict m d (in_unsigned id left k v) = refl
same_verdict m d (in_signed id left k v) = refl
same_verdict m d (in_word id k v) = refl
same_verdict m d (in_unsigned_count id k v) = refl
same_verdict m d (in_signed_count id k v) = refl
same_verdict m d (in_float_count id k v) = refl
same_verdict m d (in_array_word id c k v) = refl
same_verdict m d (in_float id w left k v) = refl
same_verdict m d (in_payload id r total o) = refl

-- and that is complete or incomplete
abbrev pub Plain : Verdict → Type 0
Plain v = (heard_of v ≡ status v) × (standing_of v ≡ unbroken (standing_of v))

plain_pick : (t : Bool) → Plain (pick t complete incomplete)
plain_pick true = (refl, refl)
plain_pick false = (refl, refl)

pub plain_at : (d : ℕ) (p : Phase) → Plain (verdict_at d p)
unfolding verdict_after ending
plain_at d (in_header zero v) = plain_pick (eqb d 0)
plain_at d (in_header (suc k) v) = (refl, refl)
plain_at d (in_unsigned id left k v) = (refl, refl)
plain_at d (in_signed id left k v) = (refl, refl)
plain_at d (in_word id k v) = (refl, refl)
plain_at d (in_unsigned_count id k v) = (refl, refl)
plain_at d (in_signed_count id k v) = (refl, refl)
plain_at d (in_float_count id k v) = (refl, refl)
plain_at d (in_array_word id c k v) = (refl, refl)
plain_at d (in_float id w left k v) = (refl, refl)
plain_at d (in_payload id r total o) = (refl, refl)

pub verdict_at_lem : (L : Limits) (bs : List ℕ) (d : ℕ) (p : Phase) → (walk L 0 idle bs).spot ≡ at d p → verdict_of L bs ≡ verdict_at d p
unfolding end_of
verdict_at_lem L bs d p e = verdict_walk L bs ∙ ap (λ (q : Spot). verdict_after (length bs) (end_of q)) e ∙ same_verdict (length bs) d p

pub verdict_broken : (L : Limits) (bs : List ℕ) → (walk L 0 idle bs).spot ≡ broken_before [] → verdict_of L bs ≡ broken_at (length bs)
unfolding end_of verdict_after
verdict_broken L bs e =
    let z : length bs - 0 ≡ length bs = omega arith in
    verdict_walk L bs ∙ ap (λ (q : Spot). verdict_after (length bs) (end_of q)) e ∙ ap broken_at z

-- one chunk more
record Chunked (L : Limits) (bs : List ℕ) (es : List Event) (n : ℕ) (c : List ℕ) (r : Chunk) : Type 0 where
  sees : seen (n + r.read) r.answer ≡ heard_of (verdict_of L (bs ++ c))
  stands : Stands L (bs ++ c) (es ++ r.events) (n + r.read) r.state

chunked_from : (L : Limits) (bs : List ℕ) (es : List Event) (n : ℕ) (c : List ℕ) (fs : List Event) (k : ℕ) (a : Ending Said) (s : State) → n ≡ length bs → k ≤ length c
    → Follows L (bs ++ take k c) (es ++ fs) s → EndsAt a s k (length c) → Chunked L bs es n c (record { events = fs; read = k; answer = a; state = s })
chunked_from L bs es n c fs k (ended (event e)) s m l f h = absurd h
chunked_from L bs es n c fs k unfinished s m l f h = absurd h
chunked_from L bs es n c fs k (ended (verdict v)) (reading d p) m l f h =
    let w : take k c ≡ c = ap (λ (j : ℕ). take j c) h.0 ∙ take-length c in
    let g : Follows L (bs ++ c) (es ++ fs) (reading d p) = subst (λ (l : List ℕ). Follows L (bs ++ l) (es ++ fs) (reading d p)) w f in
    let z : n + k ≡ length (bs ++ c) = ap (λ (x : ℕ). x + k) m ∙ ap (λ (x : ℕ). length bs + x) h.0 ∙ sym (length-append bs c) in
    record { sees = ap status h.1 ∙ sym (ap heard_of (verdict_at_lem L (bs ++ c) d p g.spot) ∙ (plain_at d p).0); stands = clear g z }
chunked_from L bs es n c fs k (ended (verdict v)) (owing d id r) m l f h = absurd h.1
chunked_from L bs es n c fs k (ended (verdict v)) broke m l f h = absurd h.1
chunked_from L bs es n c fs k (ended invalid) s m l f h =
    let g : Follows L (bs ++ take k c) (es ++ fs) broke = subst (λ (s : State). Follows L (bs ++ take k c) (es ++ fs) s) h f in
    let z : length (bs ++ take k c) ≡ n + k = length-append bs (take k c) ∙ ap (λ (x : ℕ). length bs + x) (length-take k c ∙ low k (length c) l) ∙ ap (λ (x : ℕ). x + k) (sym m) in
    let v : verdict_of L (bs ++ take k c) ≡ broken_at (n + k) = verdict_broken L (bs ++ take k c) g.spot ∙ ap broken_at z in
    let w : (bs ++ take k c) ++ drop k c ≡ bs ++ c = append_assoc bs (take k c) (drop k c) ∙ ap (λ (l : List ℕ). bs ++ l) (take-append-drop k c) in
    let b = broken_stays L (bs ++ take k c) (drop k c) (n + k) v in
    let v' : verdict_of L (bs ++ c) ≡ broken_at (n + k) = subst (λ (l : List ℕ). verdict_of L l ≡ broken_at (n + k)) w b.0 in
    let e' : events_of L (bs ++ c) ≡ bytewise (es ++ fs) =
    subst (λ (l : List ℕ). events_of L l ≡ events_of L (bs ++ take k c)) w b.1 ∙ events-walk L (bs ++ take k c) ∙ g.events ∙ append-nil _ in
    record { sees = sym (ap heard_of v'); stands = subst (λ (s : State). Stands L (bs ++ c) (es ++ fs) (n + k) s) (sym h) (gone v' e') }
  where
    low : (a b : ℕ) → a ≤ b → min a b ≡ a
    low a b h = omega arith

broken_chunk : (L : Limits) (bs : List ℕ) (es : List Event) (n : ℕ) (c : List ℕ) → verdict_of L bs ≡ broken_at n → events_of L bs ≡ bytewise es
    → (m : ℕ) → Chunked L bs es n c (calls L (suc m) broke c)
unfolding calls call
broken_chunk L bs es n c v e m =
    let z : n + 0 ≡ n = omega arith in
    let b = broken_stays L bs c n v in
    let v' : verdict_of L (bs ++ c) ≡ broken_at (n + 0) = b.0 ∙ ap broken_at (sym z) in
    record { sees = sym (ap heard_of v'); stands = gone v' (b.1 ∙ e ∙ ap bytewise (sym (append-nil es))) }

chunked : (L : Limits) (bs : List ℕ) (es : List Event) (n : ℕ) (s : State) (c : List ℕ) → Stands L bs es n s → Chunked L bs es n c (chunk L s c)
chunked L bs es n (reading d p) c (clear f m) =
    let r = chunk L (reading d p) c in
    let h = chunk_follows L bs es (reading d p) c f in
    chunked_from L bs es n c r.events r.read r.answer r.state m h.few h.follows h.final
chunked L bs es n broke c (gone v e) =
    let m : suc (2 * length c + 1) ≡ 2 * length c + 2 = omega arith in
    subst (λ (m : ℕ). Chunked L bs es n c (calls L m broke c)) m (broken_chunk L bs es n c v e (2 * length c + 1))
chunked L bs es n (owing d id r) c x' = elim x' [ ]

stands_events : (L : Limits) (bs : List ℕ) (es : List Event) (n : ℕ) (s : State) → Stands L bs es n s → bytewise es ≡ events_of L bs
stands_events L bs es n (reading d p) (clear f m) = sym (events-walk L bs ∙ f.events ∙ append-nil (bytewise es))
stands_events L bs es n broke (gone v e) = sym e
stands_events L bs es n (owing d id r) x' = elim x' [ ]

stands_standing : (L : Limits) (bs : List ℕ) (es : List Event) (n : ℕ) (s : State) → Stands L bs es n s → standing s ≡ standing_of (verdict_of L bs)
unfolding standing
stands_standing L bs es n (reading d p) (clear f m) = ap standing_of (sym (verdict_at_lem L bs d p f.spot))
stands_standing L bs es n broke (gone v e) = ap standing_of (sym v)
stands_standing L bs es n (owing d id r) x' = elim x' [ ]

-- of a message that is not broken, all
all_read : (v : Verdict) (n : ℕ) → heard_of v ≡ status v → read_of n v ≡ n
all_read complete n e = refl
all_read incomplete n e = refl
all_read (broken_at k) n e = let z : ◌≡◌ {A = ℕ} 0 1 = cc in absurd (omega arith)

stands_read : (L : Limits) (bs : List ℕ) (es : List Event) (n : ℕ) (s : State) → Stands L bs es n s → n ≡ read_of (length bs) (verdict_of L bs)
stands_read L bs es n (reading d p) (clear f m) = m ∙ sym (ap (read_of (length bs)) (verdict_at_lem L bs d p f.spot) ∙ all_read (verdict_at d p) (length bs) (plain_at d p).0)
stands_read L bs es n broke (gone v e) = ap (read_of (length bs)) (sym v)
stands_read L bs es n (owing d id r) x' = elim x' [ ]

-- For every list of chunks: the events given, bytewise, are the layout's for the bytes handed, and so is the verdict after each chunk.
reads_from : (L : Limits) (bs : List ℕ) (es : List Event) (n : ℕ) (s : State) (cs : List (List ℕ)) → Stands L bs es n s
    → (bytewise (es ++ (chunks L s n cs).events) ≡ events_of L (bs ++ join cs)) × ((chunks L s n cs).verdicts ≡ heard_all (verdicts_of L bs cs))
    × (standing (chunks L s n cs).state ≡ standing_of (verdict_of L (bs ++ join cs))) × ((chunks L s n cs).read ≡ read_of (length (bs ++ join cs)) (verdict_of L (bs ++ join cs)))
unfolding chunks verdicts_of join
reads_from L bs es n s [] h =
    let z : bs ≡ bs ++ [] = sym (append-nil bs) in (
      ap bytewise (append-nil es) ∙ stands_events L bs es n s h ∙ ap (events_of L) z,
      refl,
      stands_standing L bs es n s h ∙ ap (λ (l : List ℕ). standing_of (verdict_of L l)) z,
      stands_read L bs es n s h ∙ ap (λ (l : List ℕ). read_of (length l) (verdict_of L l)) z,
    )
reads_from L bs es n s (c ∷ cs) h =
    let r = chunk L s c in
    let q = chunked L bs es n s c h in
    let i = reads_from L (bs ++ c) (es ++ r.events) (n + r.read) r.state cs q.stands in (
      ap bytewise (sym (append_assoc es r.events _)) ∙ i.0 ∙ ap (events_of L) (append_assoc bs c (join cs)),
      ap (λ (v : Heard). v ∷ (chunks L r.state (n + r.read) cs).verdicts) q.sees ∙ ap (λ (l : List Heard). heard_of (verdict_of L (bs ++ c)) ∷ l) i.1,
      i.2 ∙ ap (λ (l : List ℕ). standing_of (verdict_of L l)) (append_assoc bs c (join cs)),
      i.3 ∙ ap (λ (l : List ℕ). read_of (length l) (verdict_of L l)) (append_assoc bs c (join cs)),
    )

-- THE RUN THEOREM. A fresh reader that is handed the chunks in order, each to its end: the events given, payload pieces joined, are the
-- layout's; what is heard after each chunk is the layout's verdict for the bytes so far, number 2 coming at the layout's byte; and the
-- reader stands at the end as the layout's verdict for all the bytes, after no chunk at all too, with all bytes read or, of a broken
-- message, those up to the offending one.
pub reads : (L : Limits) (cs : List (List ℕ))
    → (bytewise (chunks L fresh 0 cs).events ≡ events_of L (join cs)) × ((chunks L fresh 0 cs).verdicts ≡ heard_all (verdicts_of L [] cs))
    × (standing (chunks L fresh 0 cs).state ≡ standing_of (verdict_of L (join cs))) × ((chunks L fresh 0 cs).read ≡ read_of (length (join cs)) (verdict_of L (join cs)))
reads L cs = reads_from L [] [] 0 fresh cs (clear (fresh_follows L) refl)

-- "Empty input to a fresh reader, or no chunk at all, is complete."
pub no_chunk_complete : (L : Limits) → (standing (chunks L fresh 0 []).state ≡ Calls.complete) × (verdict_of L [] ≡ complete)
unfolding chunks standing ending verdict_after verdict_of message fields_from verdict_by
no_chunk_complete L = (refl, refl)

-- ---- the verdict so far

-- After any series of calls, whole chunks or not: where no event is due, the reader stands as the layout's verdict for the bytes read;
-- where one is, its field is under way.
abbrev pub standing_with : List Event → Verdict → Standing
standing_with [] v = standing_of v
standing_with (e ∷ es) v = standing_of incomplete

pub standing_is : (L : Limits) (bs : List ℕ) (es : List Event) (s : State) → Follows L bs es s → standing s ≡ standing_with (due s) (verdict_of L bs)
unfolding standing
standing_is L bs es (reading d p) f = ap standing_of (sym (verdict_at_lem L bs d p f.spot))
standing_is L bs es (owing d id r) f = refl
standing_is L bs es broke f = ap standing_of (sym (verdict_broken L bs f.spot))

-- The verdict so far says the same of a reader that is not broken.
pub verdict_so_lem : (s : State) → standing_of (verdict_so s) ≡ unbroken (standing s)
unfolding standing verdict_so
verdict_so_lem (reading d p) = (plain_at d p).1
verdict_so_lem (owing d id r) = refl
verdict_so_lem broke = refl

-- What is heard at last is the layout's verdict for all the bytes; "no chunk at all, is complete".
last_heard_lem : (L : Limits) (bs : List ℕ) (h : Heard) (cs : List (List ℕ)) → h ≡ heard_of (verdict_of L bs) → last_heard h (heard_all (verdicts_of L bs cs)) ≡ heard_of (verdict_of L (bs ++ join cs))
unfolding last_heard verdicts_of join
last_heard_lem L bs h [] e = e ∙ ap (λ (l : List ℕ). heard_of (verdict_of L l)) (sym (append-nil bs))
last_heard_lem L bs h (c ∷ cs) e =
    last_heard_lem L (bs ++ c) (heard_of (verdict_of L (bs ++ c))) cs refl ∙ ap (λ (l : List ℕ). heard_of (verdict_of L l)) (append_assoc bs c (join cs))

pub verdicts_last : (L : Limits) (cs : List (List ℕ)) → last_heard (status complete) (heard_all (verdicts_of L [] cs)) ≡ heard_of (verdict_of L (join cs))
verdicts_last L cs = last_heard_lem L [] (status complete) cs (ap heard_of (sym (no_chunk_complete L).1))

-- ---- pieces joined

-- Payload pieces joined, the events given are the layout's,
pub reads_joined : (L : Limits) (cs : List (List ℕ)) → joined (chunks L fresh 0 cs).events ≡ joined (events_of L (join cs))
reads_joined L cs = joined-run L (join cs) (chunks L fresh 0 cs).events (reads L cs).0

-- and so the same for any two ways to cut a message into chunks.
pub same_events : (L : Limits) (cs ds : List (List ℕ)) → join cs ≡ join ds → joined (chunks L fresh 0 cs).events ≡ joined (chunks L fresh 0 ds).events
same_events L cs ds e = reads_joined L cs ∙ ap (λ (l : List ℕ). joined (events_of L l)) e ∙ sym (reads_joined L ds)

-- The layout's own events have their pieces cut into bytes already.
pub events-bytewise : (L : Limits) (bs : List ℕ) → bytewise (events_of L bs) ≡ events_of L bs
unfolding join
events-bytewise L bs =
    let r = (reads L (bs ∷ [])).0 ∙ ap (events_of L) (append-nil bs) in
    ap bytewise (sym r) ∙ bytewise_again (chunks L fresh 0 (bs ∷ [])).events ∙ r

-- So two messages have the same events with their pieces joined exactly when they have the same events.
pub joined_injective : (L : Limits) (xs ys : List ℕ) → (joined (events_of L xs) ≡ joined (events_of L ys)) ↔ (events_of L xs ≡ events_of L ys)
joined_injective L xs ys = (
  λ e. sym (events-bytewise L xs) ∙ (joined_exactly (events_of L xs) (events_of L ys)).0 e ∙ events-bytewise L ys,
  ap joined,
)
