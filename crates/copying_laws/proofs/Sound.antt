-- A sound copier stays sound: a call from any sound state, of a run or not, hands back one whose reader's numbers, depth and owed event are
-- as the layout allows.
use Prim.Native.Nat.{ℕ, zero, suc, ◌+◌, ◌-◌, ◌*◌, ◌<◌, ◌≤◌}
use native.Mathlib.Nat.{not-suc-le-zero}
use native.Mathlib.Omega.{arith}
use mathlib.Core.Path.{◌≡◌, refl, sym, ap, ◌∙◌, subst}
use mathlib.Core.Bool.{Bool, true, false, ◌&&◌}
use mathlib.Core.Logic.{inl}
use mathlib.Core.List.{List}
use lib.Dec.{ltb}
use borrow.Author.Tests.{lt-ltb, eqb-true, eq-eqb}
use lib.ListN.{length, take, drop, length-drop}
use Rattle.layout.specs.Limits.{Limits}
use Rattle.layout.specs.Event.{Event, Unsigned, Signed, Float, Piece, Fixlen, Array, Begin, End}
use Rattle.laws.specs.Events.{event_bytes}
use Rattle.machine.specs.Machine.{within}
use Rattle.machine.specs.Calls.{State, reading, owing, broke, call}
use Rattle.machine.specs.Calls as calls
use Rattle.machine.specs.Run.{spot_of}
use Rattle.machine.proofs.Calls.{FairSpot, weight}
use Rattle.putting.specs.Put.{put, reached}
use Rattle.putting.proofs.Writes.{reached_is, length-put, reached_le}
use Rattle.copying.specs.Owed.{Owed, nothing, owes, rest, further, depth_once, due_in, legal, level, agrees, sound_owed}
use Rattle.copying.specs.Copy.{Copy, Said, full, verdict, invalid, unfinished, Copied, after, settled, filled, gone, handed, stuck, heard, fits, all_of, copies, turns_for, copy}
use Rattle.copying.specs.Run.{NotPiece, NoPiece}
use Rattle.copying.proofs.Turns.{goes, goes_on, turn_full, turn_goes, fits_false, fits_true, enough, turn-heard, nearer}
use Rattle.copying.proofs.Pieces.{Takes, takes_plain, given-fits}
use Rattle.copying.proofs.Keeps.{put_below, put_beyond, take_less, drop_more}
use Rattle.copying.proofs.Allowed.{InForce, Gave, Stood, CallOf, depth_then, all_of_lem, both, call-sound}

-- ---- sound

pub record Sound (L : Limits) (k : Copy) : Type 0 where
  pub reader : InForce L k.reader
  pub fair : FairSpot (spot_of k.reader)
  pub depth : k.depth ≤ L.depth
  pub owed : sound_owed L k.reader k.depth k.owed ≡ true

-- ---- between turns: a piece may be owed

abbrev Agree : Limits → ℕ → ℕ → Owed → Type 0
Agree L d w nothing = d ≡ w
Agree L d w (owes due e place) = (level d w e ≡ true) × (NotPiece e → legal L e ≡ true)

abbrev Even : Limits → State → ℕ → Owed → Type 0
Even L (reading d p) w o = Agree L d w o
Even L (owing d id r) w o = Agree L d w o
Even L broke w o = o ≡ nothing

record Mid (L : Limits) (k : Copy) : Type 0 where
  reader : InForce L k.reader
  fair : FairSpot (spot_of k.reader)
  depth : k.depth ≤ L.depth
  even : Even L k.reader k.depth k.owed

agrees_is : (L : Limits) (d w : ℕ) (o : Owed) → agrees L d w o ≡ true → Agree L d w o
unfolding agrees
agrees_is L d w nothing h = eqb-true d w h
agrees_is L d w (owes due e place) h =
    let x = both (level d w e) (legal L e && ltb place (length (event_bytes due e))) h in
    let y = both (legal L e) (ltb place (length (event_bytes due e))) x.1 in
    (x.0, λ n. y.0)

allowed_plain : (L : Limits) (e : Event) → legal L e ≡ true → NotPiece e
unfolding legal
allowed_plain L (Unsigned id n) h = tt
allowed_plain L (Signed id z) h = tt
allowed_plain L (Float id w x) h = tt
allowed_plain L (Piece id r total o bs) h = let w : ◌≡◌ {A = ℕ} 0 1 = cc in absurd (omega arith)
allowed_plain L (Fixlen id s n) h = tt
allowed_plain L (Array id k n) h = tt
allowed_plain L (Begin id) h = tt
allowed_plain L End h = tt

agrees_plain : (L : Limits) (d w : ℕ) (o : Owed) → agrees L d w o ≡ true → NoPiece o
unfolding agrees
agrees_plain L d w nothing h = tt
agrees_plain L d w (owes due e place) h =
    let x = both (level d w e) (legal L e && ltb place (length (event_bytes due e))) h in
    allowed_plain L e (both (legal L e) (ltb place (length (event_bytes due e))) x.1).0

sound_even : (L : Limits) (s : State) (w : ℕ) (o : Owed) → sound_owed L s w o ≡ true → Even L s w o
unfolding sound_owed
sound_even L (reading d p) w o h = agrees_is L d w o h
sound_even L (owing d id r) w o h = agrees_is L d w o h
sound_even L broke w nothing h = refl
sound_even L broke w (owes due e place) h = let w : ◌≡◌ {A = ℕ} 0 1 = cc in absurd (omega arith)

-- What a sound copier owes is no piece.
pub sound_plain : (L : Limits) (s : State) (w : ℕ) (o : Owed) → sound_owed L s w o ≡ true → NoPiece o
unfolding sound_owed
sound_plain L (reading d p) w o h = agrees_plain L d w o h
sound_plain L (owing d id r) w o h = agrees_plain L d w o h
sound_plain L broke w nothing h = tt
sound_plain L broke w (owes due e place) h = let w : ◌≡◌ {A = ℕ} 0 1 = cc in absurd (omega arith)

-- ---- what is owed goes out

agree_then : (L : Limits) (d w : ℕ) (o : Owed) → Agree L d w o → d ≡ depth_once w o
unfolding depth_once
agree_then L d w nothing h = h
agree_then L d w (owes due e place) h = depth_then d w e h.0

even_then : (L : Limits) (s : State) (w : ℕ) (o : Owed) → Even L s w o → Even L s (depth_once w o) nothing
even_then L (reading d p) w o h = agree_then L d w o h
even_then L (owing d id r) w o h = agree_then L d w o h
even_then L broke w o h = refl

depth_within : (L : Limits) (s : State) (w : ℕ) (o : Owed) → InForce L s → w ≤ L.depth → Even L s w o → depth_once w o ≤ L.depth
unfolding depth_once
depth_within L (reading d p) w o f l h = let e = agree_then L d w o h in omega (arith, f.0)
depth_within L (owing d id r) w o f l h = let e = agree_then L d w o h in omega (arith, f.0)
depth_within L broke w o f l h = subst (λ (o : Owed). depth_once w o ≤ L.depth) (sym h) l

settled_mid : (L : Limits) (k : Copy) (pos : ℕ) → Mid L k → Mid L (settled k pos)
settled_mid L k pos m =
    record {
      reader = m.reader;
      fair = m.fair;
      depth = depth_within L k.reader k.depth k.owed m.reader m.depth m.even;
      even = even_then L k.reader k.depth k.owed m.even;
    }

agree_further : (L : Limits) (d w : ℕ) (o : Owed) (n : ℕ) → NoPiece o → n < length (rest o) → Agree L d w o → agrees L d w (further o n) ≡ true
unfolding agrees further rest
agree_further L d w nothing n p l h = absurd (omega arith)
agree_further L d w (owes due e place) n p l h =
    all_of_lem _ _ h.0 (all_of_lem _ _ (h.1 p) (lt-ltb (place + n) (length (event_bytes due e)) (omega (arith, length-drop place (event_bytes due e)))))

even_further : (L : Limits) (s : State) (w : ℕ) (o : Owed) (n : ℕ) → NoPiece o → n < length (rest o) → Even L s w o → sound_owed L s w (further o n) ≡ true
unfolding sound_owed rest
even_further L (reading d p) w o n q l h = agree_further L d w o n q l h
even_further L (owing d id r) w o n q l h = agree_further L d w o n q l h
even_further L broke w o n q l h = let e : length (rest o) ≡ 0 = ap (λ (o : Owed). length (rest o)) h in absurd (omega arith)

even_free : (L : Limits) (s : State) (w : ℕ) (o : Owed) → o ≡ nothing → Even L s w o → sound_owed L s w o ≡ true
unfolding sound_owed agrees
even_free L s w o e h = ap (sound_owed L s w) e ∙ go s (subst (Even L s w) e h)
  where
    go : (s : State) → Even L s w nothing → sound_owed L s w nothing ≡ true
    go (reading d p) h = eq-eqb d w h
    go (owing d id r) h = eq-eqb d w h
    go broke h = refl

-- ---- a call of the copier

pub record Sounds (L : Limits) (k : Copy) (c b : List ℕ) (r : Copied) : Type 0 where
  pub few : r.used ≤ length c
  pub size : length r.buf ≡ length b
  pub ahead : k.pos ≤ r.copy.pos
  pub within : r.copy.pos ≤ length b
  pub below : take k.pos r.buf ≡ take k.pos b
  pub beyond : drop r.copy.pos r.buf ≡ drop r.copy.pos b
  pub sound : Sound L r.copy
  pub ends : r.answer ≡ unfinished → ⊥

free_sound : (L : Limits) (k : Copy) → k.owed ≡ nothing → Mid L k → Sound L k
free_sound L k e m = record { reader = m.reader; fair = m.fair; depth = m.depth; owed = even_free L k.reader k.depth k.owed e m.even }

sounds_full : (L : Limits) (k : Copy) (c b : List ℕ) → Mid L k → k.pos ≤ length b → NoPiece k.owed → length b - k.pos < length (rest k.owed)
    → Sounds L k c b (record { used = 0; answer = full; copy = filled k (reached b k.pos (rest k.owed)); buf = put b k.pos (rest k.owed) })
sounds_full L k c b m p n h =
    let e = reached_is b k.pos (rest k.owed) in
    record {
      few = omega arith;
      size = length-put b k.pos (rest k.owed) p;
      ahead = omega arith;
      within = omega arith;
      below = put_below b k.pos (rest k.owed) p;
      beyond = put_beyond b k.pos (rest k.owed) p;
      sound =
          record {
            reader = m.reader;
            fair = m.fair;
            depth = m.depth;
            owed = even_further L k.reader k.depth k.owed (reached b k.pos (rest k.owed) - k.pos) n (omega arith) m.even;
          };
      ends = λ q. let w : ◌≡◌ {A = ℕ} 0 1 = cc in omega arith;
    }

sounds_from : (L : Limits) (k j : Copy) (c b d : List ℕ) (r : Copied) → k.pos ≤ j.pos → length d ≡ length b → take k.pos d ≡ take k.pos b → drop j.pos d ≡ drop j.pos b
    → Sounds L j c d r → Sounds L k c b r
sounds_from L k j c b d r p n e f h =
    let a = h.ahead in
    let w = h.within in
    record {
      few = h.few;
      size = h.size ∙ n;
      ahead = omega arith;
      within = omega arith;
      below = take_less k.pos j.pos r.buf d p h.below ∙ e;
      beyond = h.beyond ∙ drop_more j.pos r.copy.pos d b a f;
      sound = h.sound;
      ends = h.ends;
    }

sounds_after : (L : Limits) (k j : Copy) (c b : List ℕ) (n : ℕ) (r : Copied) → j.pos ≡ k.pos → n ≤ length c → Sounds L j (drop n c) b r → Sounds L k c b (after n r)
sounds_after L k j c b n r p l h =
    let m : length (drop n c) ≡ length c - n = length-drop n c in
    let f = h.few in
    let a = h.ahead in
    record { few = omega arith; size = h.size; ahead = omega arith; within = h.within; below = subst (λ (x : ℕ). take x r.buf ≡ take x b) p h.below; beyond = h.beyond; sound = h.sound; ends = h.ends }

-- the state that the reader's event leaves
mid_gave : (L : Limits) (k : Copy) (d due : ℕ) (e : Event) (s : State) → d ≡ k.depth → k.depth ≤ L.depth → FairSpot (spot_of s) → Gave L d e s → Mid L (gone k s (owes due e 0))
mid_gave L k d due e (reading d' p) w l f g = record { reader = g.force; fair = f; depth = l; even = (subst (λ (x : ℕ). level d' x e ≡ true) w g.even, g.allowed) }
mid_gave L k d due e (owing d' id r) w l f g = record { reader = g.force; fair = f; depth = l; even = (subst (λ (x : ℕ). level d' x e ≡ true) w g.even, g.allowed) }
mid_gave L k d due e broke w l f g = absurd g

-- and its verdict
mid_stood : (L : Limits) (k : Copy) (d : ℕ) (s : State) → d ≡ k.depth → k.depth ≤ L.depth → FairSpot (spot_of s) → Stood L d s → Mid L (gone k s nothing)
mid_stood L k d (reading d' p) w l f g = record { reader = g.1; fair = f; depth = l; even = g.0 ∙ w }
mid_stood L k d (owing d' id r) w l f g = absurd g
mid_stood L k d broke w l f g = absurd g

mid_broke : (L : Limits) (k : Copy) (s : State) → s ≡ broke → k.depth ≤ L.depth → Mid L (gone k s nothing)
mid_broke L k s e l = subst (λ (s : State). Mid L (gone k s nothing)) (sym e) (record { reader = tt; fair = tt; depth = l; even = refl })

-- the reader's depth is the writer's where nothing is owed
abbrev DepthOf : State → ℕ → Type 0
DepthOf (reading d p) w = d ≡ w
DepthOf (owing d id r) w = d ≡ w
DepthOf broke w = Unit {0}

even_depth : (L : Limits) (s : State) (w : ℕ) (o : Owed) → o ≡ nothing → Even L s w o → DepthOf s w
even_depth L (reading d p) w o e h = subst (Agree L d w) e h
even_depth L (owing d id r) w o e h = subst (Agree L d w) e h
even_depth L broke w o e h = tt

-- by the reader's answer
sounds_heard : (L : Limits) (k : Copy) (c b : List ℕ) (s : State) (j : ℕ) (a : calls.Said) (s' : State) (f : Event → Copied) → k.pos ≤ length b → k.depth ≤ L.depth → DepthOf s k.depth
    → j ≤ length c → FairSpot (spot_of s') → CallOf L s (record { read = j; answer = a; state = s' })
    → ((e : Event) → a ≡ calls.event e → ((due : ℕ) → Mid L (gone k s' (owes due e 0))) → Sounds L (gone k s' (all_of k.reader e)) (drop j c) b (f e))
    → Sounds L k c b (heard k c b (record { read = j; answer = a; state = s' }) f)
unfolding heard
sounds_heard L k c b s j (calls.event e) s' f p l w n fair h go =
    sounds_after L k (gone k s' (all_of k.reader e)) c b j (f e) refl n (go e refl (gave_by s w h))
  where
    gave_by : (s : State) → DepthOf s k.depth → CallOf L s (record { read = j; answer = calls.event e; state = s' }) → (due : ℕ) → Mid L (gone k s' (owes due e 0))
    gave_by (reading d p) w h due = mid_gave L k d due e s' w l fair h
    gave_by (owing d id r) w h due = mid_gave L k d due e s' w l fair h
    gave_by broke w h due = let q = h.0 in let w : ◌≡◌ {A = ℕ} 0 1 = cc in absurd (omega arith)
sounds_heard L k c b s j (calls.verdict v) s' f p l w n fair h go =
    record {
      few = n;
      size = refl;
      ahead = omega arith;
      within = p;
      below = refl;
      beyond = refl;
      sound = free_sound L (gone k s' nothing) refl (stood_by s w h);
      ends = λ q. let w : ◌≡◌ {A = ℕ} 0 1 = cc in omega arith;
    }
  where
    stood_by : (s : State) → DepthOf s k.depth → CallOf L s (record { read = j; answer = calls.verdict v; state = s' }) → Mid L (gone k s' nothing)
    stood_by (reading d p) w h = mid_stood L k d s' w l fair h
    stood_by (owing d id r) w h = mid_stood L k d s' w l fair h
    stood_by broke w h = let q = h.0 in let w : ◌≡◌ {A = ℕ} 0 1 = cc in absurd (omega arith)
sounds_heard L k c b s j calls.invalid s' f p l w n fair h go =
    record {
      few = n;
      size = refl;
      ahead = omega arith;
      within = p;
      below = refl;
      beyond = refl;
      sound = free_sound L (gone k s' nothing) refl (mid_broke L k s' (broke_by s h) l);
      ends = λ q. let w : ◌≡◌ {A = ℕ} 0 1 = cc in omega arith;
    }
  where
    broke_by : (s : State) → CallOf L s (record { read = j; answer = calls.invalid; state = s' }) → s' ≡ broke
    broke_by (reading d p) h = h
    broke_by (owing d id r) h = h
    broke_by broke h = h.1

-- what a turn needs of the turns after it
abbrev Later : Limits → ℕ → ℕ → Type 0
Later L n most = (k : Copy) (c b : List ℕ) → Mid L k → k.pos ≤ length b → Takes k b → 2 * length c + weight k.reader < most → Sounds L k c b (copies L n k c b)

sounds_goes : (L : Limits) (n : ℕ) (k : Copy) (c b : List ℕ) → Mid L k → k.pos ≤ length b → k.owed ≡ nothing → Later L n (2 * length c + weight k.reader)
    → Sounds L k c b (goes L n (length b - k.pos) k c b)
unfolding goes_on rest
sounds_goes L n k c b m p o later = go (stuck k.reader (length b - k.pos) c) refl
  where
    go : (t : Bool) → stuck k.reader (length b - k.pos) c ≡ t → Sounds L k c b (goes_on L n (length b - k.pos) k c b t)
    go true e =
        record { few = omega arith; size = refl; ahead = omega arith; within = p; below = refl; beyond = refl; sound = free_sound L k o m; ends = λ q. let w : ◌≡◌ {A = ℕ} 0 1 = cc in omega arith }
    go false e =
        let h = handed k.reader (length b - k.pos) c in
        let r = call L k.reader h in
        let v = turn-heard L k.reader (length b - k.pos) c m.fair e in
        sounds_heard L k c b k.reader r.read r.answer r.state _ p m.depth (even_depth L k.reader k.depth k.owed o m.even) v.few v.fair
        (call-sound L k.reader h m.reader)
        (λ x i y.
        let z = nearer k.reader r.state r.answer r.read (length c) x i v.closes in
        later (gone k r.state (all_of k.reader x)) (drop r.read c) b (y (due_in k.reader)) p
        (given-fits L (due_in k.reader) k.reader (length b - k.pos) c x i) (omega (arith, length-drop r.read c)))

-- one turn, and those after it
sounds_turn : (L : Limits) (n : ℕ) (k : Copy) (c b : List ℕ) → Mid L k → k.pos ≤ length b → Takes k b → Later L n (2 * length c + weight k.reader) → Sounds L k c b (copies L (suc n) k c b)
sounds_turn L n k c b m p t later = go (fits k b) refl
  where
    go : (u : Bool) → fits k b ≡ u → Sounds L k c b (copies L (suc n) k c b)
    go false e =
        let l = fits_false k b e in
        subst (Sounds L k c b) (sym (turn_full L n k c b l)) (sounds_full L k c b m p (takes_plain k b t l) l)
    go true e =
        let l = fits_true k b e in
        let pos = reached b k.pos (rest k.owed) in
        let d = put b k.pos (rest k.owed) in
        let z : length d ≡ length b = length-put b k.pos (rest k.owed) p in
        let i = reached_is b k.pos (rest k.owed) in
        let w = reached_le b k.pos (rest k.owed) p in
        let x : Sounds L (settled k pos) c d (goes L n (length d - pos) (settled k pos) c d) =
        sounds_goes L n (settled k pos) c d (settled_mid L k pos m) (omega arith) refl later in
        subst (Sounds L k c b)
        (ap (λ (y : ℕ). goes L n (y - pos) (settled k pos) c d) z ∙ sym (turn_goes L n k c b l))
        (sounds_from L k (settled k pos) c b d _ (omega arith) z (put_below b k.pos (rest k.owed) p) (put_beyond b k.pos (rest k.owed) p) x)

sounds_turns : (L : Limits) (n : ℕ) (k : Copy) (c b : List ℕ) → Mid L k → k.pos ≤ length b → Takes k b → 2 * length c + weight k.reader < n → Sounds L k c b (copies L n k c b)
sounds_turns L zero k c b m p t h = absurd (not-suc-le-zero h)
sounds_turns L (suc n) k c b m p t h = sounds_turn L n k c b m p t (λ k' c' b' m' p' t' h'. sounds_turns L n k' c' b' m' p' t' (omega arith))

-- A call from any sound state, with any chunk and buffer, hands back a sound one, and never runs out of turns.
pub copy-sound : (L : Limits) (k : Copy) (c b : List ℕ) → Sound L k → k.pos ≤ length b → Sounds L k c b (copy L k c b)
unfolding copy
copy-sound L k c b s p =
    sounds_turns L (turns_for c) k c b
    (record { reader = s.reader; fair = s.fair; depth = s.depth; even = sound_even L k.reader k.depth k.owed s.owed }) p
    (inl (sound_plain L k.reader k.depth k.owed s.owed)) (enough k.reader c)
