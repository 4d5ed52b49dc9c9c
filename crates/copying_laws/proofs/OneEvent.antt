-- An event whose bytes are the very bytes that raised it is copied as it is; and such runs of bytes one after another.
use Prim.Native.Nat.{ℕ, zero, suc, ◌+◌, ◌-◌, ◌<◌, ◌≤◌, min}
use native.Mathlib.Omega.{arith}
use mathlib.Core.Path.{◌≡◌, refl, sym, ap, ◌∙◌}
use mathlib.Core.Bool.{Bool, false}
use mathlib.Core.List.{List, [], ◌∷◌, ◌++◌, append_assoc}
use lib.ListN.{length, take, drop, length-append}
use lib.Seq.{drop-append_seam, take-append-add, take_at}
use lib.Dec.{ltb}
use borrow.Author.Tests.{le-ltb}
use Rattle.layout.specs.Limits.{Limits, pick}
use Rattle.layout.specs.Event.{Event, Piece}
use Rattle.layout.specs.Field.{Raw}
use Rattle.laws.specs.Events.{event_bytes}
use Rattle.machine.specs.Machine.{Phase, in_payload, idle, on}
use Rattle.machine.specs.Calls.{State, reading, owing, broke, Pace, byte, bulk, pace_of, piece, Called, scan, scanned, raised_state, call}
use Rattle.machine.specs.Calls as calls
use Rattle.machine.specs.Run.{spot_of}
use Rattle.machine.proofs.Bridge.{Fair}
use Rattle.machine.proofs.Calls.{FairSpot}
use Rattle.putting.specs.Put.{put, reached}
use Rattle.putting.proofs.Writes.{length-put, put-put, put-none, reached_is}
use Rattle.copying.specs.Owed.{nothing, rest, depth_by, depth_once, left_in, due_in}
use Rattle.copying.specs.Copy.{Copy, Copied, after, settled, gone, handed, stuck, heard, all_of, copy}
use Rattle.copying.proofs.Turns.{paced, handed_is, copy-turn, copy_settles}
use Rattle.copying_laws.proofs.Takes.{Reads}

-- a copier that owes nothing
abbrev pub free : State → ℕ → ℕ → Copy
free s d pos = record { reader = s; depth = d; pos = pos; owed = nothing }

-- From a state and a depth, where nothing is owed, to another state and depth: wherever there is room for them, the bytes a go out as they
-- came in, and the call goes on from there.
abbrev pub AsIs : Limits → State → ℕ → List ℕ → State → ℕ → Type 0
AsIs L s d a s' d' = (pos : ℕ) (c b : List ℕ) → pos + length a ≤ length b → copy L (free s d pos) (a ++ c) b ≡ after (length a) (copy L (free s' d' (pos + length a)) c (put b pos a))

put_all : (b : List ℕ) (pos : ℕ) (a : List ℕ) → pos + length a ≤ length b → reached b pos a ≡ pos + length a
put_all b pos a h = reached_is b pos a ∙ least (length a) (length b - pos) (omega arith)
  where
    least : (m r : ℕ) → m ≤ r → pos + min m r ≡ pos + m
    least m r h = omega arith

pub after-after : (m n : ℕ) (r : Copied) → after m (after n r) ≡ after (m + n) r
after-after m n r = let e : m + (n + r.used) ≡ m + n + r.used = omega arith in ap (λ (u : ℕ). record { used = u; answer = r.answer; copy = r.copy; buf = r.buf }) e

pub none_as_is : (L : Limits) (s : State) (d : ℕ) → AsIs L s d [] s d
none_as_is L s d pos c b h =
    let p : pos ≡ pos + 0 = omega arith in
    let z : (u : ℕ) → u ≡ 0 + u = λ u. omega arith in
    let q : (r : Copied) → r ≡ after 0 r = λ r. ap (λ (u : ℕ). record { used = u; answer = r.answer; copy = r.copy; buf = r.buf }) (z r.used) in
    q (copy L (free s d pos) c b)
    ∙ ap (λ (l : List ℕ). after 0 (copy L (free s d pos) c l)) (sym (put-none b pos [] refl))
    ∙ ap (λ (k : ℕ). after 0 (copy L (free s d k) c (put b pos []))) p

-- one run after another
pub joined : (L : Limits) (s : State) (d : ℕ) (a : List ℕ) (s1 : State) (d1 : ℕ) (a1 : List ℕ) (s2 : State) (d2 : ℕ) → AsIs L s d a s1 d1 → AsIs L s1 d1 a1 s2 d2 → AsIs L s d (a ++ a1) s2 d2
joined L s d a s1 d1 a1 s2 d2 f g pos c b h =
    let n : length (a ++ a1) ≡ length a + length a1 = length-append a a1 in
    let l : length (put b pos a) ≡ length b = length-put b pos a (omega arith) in
    let w : put (put b pos a) (pos + length a) a1 ≡ put b pos (a ++ a1) =
    ap (λ (k : ℕ). put (put b pos a) k a1) (sym (put_all b pos a (omega arith))) ∙ put-put b pos a a1 (omega arith) in
    let p : pos + length a + length a1 ≡ pos + length (a ++ a1) = omega arith in
    ap (λ (l : List ℕ). copy L (free s d pos) l b) (append_assoc a a1 c)
    ∙ f pos (a1 ++ c) b (omega arith)
    ∙ ap (after (length a)) (g (pos + length a) c (put b pos a) (omega arith))
    ∙ after-after (length a) (length a1) (copy L (free s2 d2 (pos + length a + length a1)) c (put (put b pos a) (pos + length a) a1))
    ∙ ap (λ (k : ℕ). after k (copy L (free s2 d2 (pos + length a + length a1)) c (put (put b pos a) (pos + length a) a1))) (sym n)
    ∙ ap (λ (k : ℕ). after (length (a ++ a1)) (copy L (free s2 d2 k) c (put (put b pos a) (pos + length a) a1))) p
    ∙ ap (λ (l : List ℕ). after (length (a ++ a1)) (copy L (free s2 d2 (pos + length (a ++ a1))) c l)) w

-- ---- one event

-- with room for a, the reader is handed bytes that begin with a
handed_starts : (s : State) (room : ℕ) (a c : List ℕ) → length a ≤ room → (t : List ℕ) × (handed s room (a ++ c) ≡ a ++ t)
unfolding handed
handed_starts (reading d p) room a c h = go (pace_of p) (handed_is d p room (a ++ c))
  where
    go : (q : Pace) → handed (reading d p) room (a ++ c) ≡ paced q room (a ++ c) → (t : List ℕ) × (handed (reading d p) room (a ++ c) ≡ a ++ t)
    go byte e = (c, e)
    go (bulk id r total o) e =
        let m : room ≡ length a + (room - length a) = omega arith in
        (take (room - length a) c, e ∙ ap (λ (n : ℕ). take n (a ++ c)) m ∙ take-append-add a c (room - length a))
handed_starts (owing d id r) room a c h = (c, refl)
handed_starts broke room a c h = (c, refl)

-- the reader gets on: with a byte of a, or with the event that is due
abbrev Moves : State → List ℕ → Type 0
Moves (reading d p) a = 0 < length a
Moves (owing d id r) a = Unit {0}
Moves broke a = ⊥

not_stuck : (s : State) (room : ℕ) (a c : List ℕ) → Moves s a → length a ≤ room → stuck s room (a ++ c) ≡ false
unfolding stuck
not_stuck (reading d p) room [] c m h = absurd (omega arith)
not_stuck (reading d p) zero (x ∷ a) c m h = absurd (omega arith)
not_stuck (reading d p) (suc room) (x ∷ a) c m h = refl
not_stuck (owing d id r) room a c m h = refl
not_stuck broke room a c m h = absurd m

-- The reader raises e once it has read a, and a is what e is written as.
pub record Raises (L : Limits) (s : State) (a : List ℕ) (e : Event) (s' : State) : Type 0 where
  pub fair : FairSpot (spot_of s)
  pub moves : Moves s a
  pub calls_is : (t : List ℕ) → call L s (a ++ t) ≡ record { read = length a; answer = calls.event e; state = s' }
  pub bytes : event_bytes (due_in s) e ≡ a

pub one_event : (L : Limits) (s : State) (d : ℕ) (a : List ℕ) (e : Event) (s' : State) → Raises L s a e s' → AsIs L s d a s' (depth_by d e)
unfolding heard rest depth_once
one_event L s d a e s' r pos c b h =
    let k = free s d pos in
    let room = length b - pos in
    let t = handed_starts s room a c (omega arith) in
    let q : call L s (handed s room (a ++ c)) ≡ record { read = length a; answer = calls.event e; state = s' } = ap (call L s) t.1 ∙ r.calls_is t.0 in
    let o = gone k s' (all_of s e) in
    let out : rest o.owed ≡ a = r.bytes in
    let n : length (rest o.owed) ≡ length a = ap length out in
    copy-turn L k (a ++ c) b r.fair refl (not_stuck s room a c r.moves (omega arith))
    ∙ ap (λ (x : Called). heard k (a ++ c) b x (λ e. copy L (gone k x.state (all_of s e)) (drop x.read (a ++ c)) b)) q
    ∙ ap (λ (l : List ℕ). after (length a) (copy L o l b)) (drop-append_seam a c)
    ∙ ap (after (length a)) (copy_settles L o c b (omega arith))
    ∙ ap (λ (l : List ℕ). after (length a) (copy L (settled o (reached b pos l)) c (put b pos l))) out
    ∙ ap (λ (p : ℕ). after (length a) (copy L (settled o p) c (put b pos a))) (put_all b pos a h)

-- ---- an event that ends some bytes

raises : (L : Limits) (d : ℕ) (p : Phase) (a : List ℕ) (e : Event) (es : List Event) (d1 : ℕ) (p1 : Phase) → Fair p → 0 < length a → event_bytes (left_in p) e ≡ a → Reads L d p a (on (e ∷ es) d1 p1)
    → Raises L (reading d p) a e (raised_state d1 p1 es)
unfolding scanned call due_in
raises L d p a e es d1 p1 f m w r =
    let z : 0 + length a ≡ length a = omega arith in
    record {
      fair = f;
      moves = m;
      calls_is = λ t. r 0 t ∙ ap (λ (k : ℕ). record { read = k; answer = calls.event e; state = raised_state d1 p1 es }) z;
      bytes = w;
    }

module _ (L : Limits) (d : ℕ) where
  -- bytes that come to an event, and are what it is written as
  pub event_as_is : (p : Phase) (a : List ℕ) (e : Event) (es : List Event) (d1 : ℕ) (p1 : Phase) → Fair p → 0 < length a → event_bytes (left_in p) e ≡ a → Reads L d p a (on (e ∷ es) d1 p1)
      → AsIs L (reading d p) d a (raised_state d1 p1 es) (depth_by d e)
  event_as_is p a e es d1 p1 f m w r = one_event L (reading d p) d a e (raised_state d1 p1 es) (raises L d p a e es d1 p1 f m w r)

  -- a payload in one piece
  pub piece_raises : (id : ℕ) (r : Raw) (b : ℕ) (bs : List ℕ) → Raises L (reading d (in_payload id r (suc (length bs)) 0)) (b ∷ bs) (Piece id r (suc (length bs)) 0 (b ∷ bs)) (reading d idle)
  unfolding call scan event_bytes due_in
  piece_raises id r b bs = record { fair = omega arith; moves = omega arith; calls_is = all; bytes = refl }
    where
      total : ℕ
      total = suc (length bs)

      given : ℕ → List ℕ → Bool → Called
      given n l u = record { read = n; answer = calls.event (Piece id r total 0 l); state = reading d (pick u (in_payload id r total (0 + total)) idle) }

      all : (t : List ℕ) → call L (reading d (in_payload id r total 0)) (b ∷ bs ++ t) ≡ given total (b ∷ bs) false
      all t =
          let k : min (total - 0) (length (b ∷ bs ++ t)) ≡ total = omega (arith, length-append bs t) in
          let z : 0 + total ≡ total = omega arith in
          ap (λ (k : ℕ). piece 0 d id r total 0 k (b ∷ bs ++ t)) k
          ∙ ap (λ (n : ℕ). given n (take total (b ∷ bs ++ t)) (ltb (0 + total) total)) z
          ∙ ap (λ (l : List ℕ). given total l (ltb (0 + total) total)) (take_at (b ∷ bs) t total refl)
          ∙ ap (given total (b ∷ bs)) (le-ltb (0 + total) total (omega arith))

  -- an empty payload's piece
  pub empty_raises : (id : ℕ) (r : Raw) → Raises L (owing d id r) [] (Piece id r 0 0 []) (reading d idle)
  unfolding call event_bytes due_in
  empty_raises id r = record { fair = refl; moves = tt; calls_is = λ t. refl; bytes = refl }
