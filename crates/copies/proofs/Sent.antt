-- What was sent, for any bytes and any acts: the reserved bytes and the layout's events so far, whatever the verdict; and how many drains.
use Prim.Native.Nat.{ℕ, ◌+◌, ◌≤◌, ◌<◌, min}
use native.Mathlib.Omega.{arith}
use mathlib.Core.Path.{◌≡◌, refl, sym, ap, ◌∙◌, subst}
use mathlib.Core.Bool.{true}
use mathlib.Core.List.{List, [], ◌∷◌, ◌++◌, append_assoc, append-nil}
use lib.ListN.{length, take, length-take}
use lib.Seq.{take-append_seam, take-append-le}
use Rattle.layout.specs.Limits.{Limits, base}
use Rattle.layout.specs.Event.{Event, bytewise}
use Rattle.layout.specs.Message.{All, Bytes, verdict_of, broken_at, events_of}
use Rattle.laws.specs.Events.{event_bytes, due_after_all, encode_events}
use Rattle.laws.proofs.Copying.{encode-append, bytewise_bytes}
use Rattle.machine.specs.Calls.{State, reading, owing, broke}
use Rattle.machine.specs.Run.{due, Follows, join, verdicts_of, heard_all}
use Rattle.machine.proofs.Bridge.{events-walk}
use Rattle.machine.proofs.Prefix.{broken_stays}
use Rattle.machine.proofs.Runs.{verdict_broken}
use Rattle.istream.specs.Stream.{state_of}
use Rattle.copying.specs.Owed.{rest, sound_owed}
use Rattle.copying_laws.proofs.Bound.{out_bound}
use Rattle.copier.specs.Copier.{copy_of}
use Rattle.copier.specs.Calls.{Started, started, Sent}
use Rattle.copies.specs.Desk.{Desk, opened_at, Act, feed, drain, change, stray, sending, act, acts, MayStand, Allowed}
use Rattle.copies.specs.Stands.{out, whole, Stands}
use Rattle.copies.proofs.Sound.{is_sound, drain_is, start_is, started-sound}
use Rattle.copies.proofs.Runs.{Fine, fine_fresh, fine_act, fine_acts, broken_owes, same_size}

-- ---- from the start

pub fine_start : (offset : ℕ) (b : List ℕ) (cs : List (List ℕ)) → offset < length b → All Bytes cs → Fine (take offset b) cs (opened_at offset b cs)
fine_start offset b cs h a =
    fine_fresh offset b cs h a (started (length b) offset).copier (ap (λ (r : Started). r.copier) (start_is (length b) offset h))
    (is_sound (started (length b) offset).copier (length b) (started-sound (length b) offset))

pub fine_run : (offset : ℕ) (b : List ℕ) (cs : List (List ℕ)) (as' : List Act) → offset < length b → All Bytes cs → Allowed as' (opened_at offset b cs)
    → Fine (take offset b) cs (acts as' (opened_at offset b cs))
fine_run offset b cs as' h a p = fine_acts (take offset b) cs as' (opened_at offset b cs) p (fine_start offset b cs h a)

-- THE RUN THEOREM. After any feeds, drains, buffer changes and refused calls, from a fresh copier over any buffer at any offset that fits,
-- whatever bytes the chunks hold.
pub stands : (offset : ℕ) (b : List ℕ) (cs : List (List ℕ)) (as' : List Act) → offset < length b → All Bytes cs → Allowed as' (opened_at offset b cs)
    → Stands (take offset b) cs (acts as' (opened_at offset b cs))
stands offset b cs as' h a p = (fine_run offset b cs as' h a p).stands

-- ---- the events so far

-- an event that is due has no byte
due_bytes : (n : ℕ) (s : State) → encode_events n (due s) ≡ []
unfolding encode_events event_bytes
due_bytes n (reading d p) = refl
due_bytes n (owing d id r) = refl
due_bytes n broke = refl

pub events_bytes : (L : Limits) (bs : List ℕ) (es : List Event) (s : State) → Follows L bs es s → encode_events 0 (events_of L bs) ≡ encode_events 0 es
events_bytes L bs es s f =
    ap (encode_events 0) (events-walk L bs ∙ f.events)
    ∙ encode-append 0 (bytewise es) (due s)
    ∙ ap (λ (l : List ℕ). encode_events 0 (bytewise es) ++ l) (due_bytes (due_after_all 0 (bytewise es)) s)
    ∙ append-nil (encode_events 0 (bytewise es))
    ∙ bytewise_bytes 0 es

-- all the bytes that were to be handed on: those read, those never read, and those to come
pub all_bytes : (reserved : List ℕ) (cs : List (List ℕ)) (d : Desk) → (s : Stands reserved cs d) → join cs ≡ (s.read ++ s.unread) ++ join d.chunks
unfolding join
all_bytes reserved cs d s = ap join s.chunks ∙ join-append s.done (whole s.begun d.chunks) ∙ go d.chunks refl
  where
    join-append : (xs ys : List (List ℕ)) → join (xs ++ ys) ≡ join xs ++ join ys
    join-append [] ys = refl
    join-append (x ∷ xs) ys = ap (λ (l : List ℕ). x ++ l) (join-append xs ys) ∙ sym (append_assoc x (join xs) (join ys))

    go : (l : List (List ℕ)) → d.chunks ≡ l → join s.done ++ join (whole s.begun l) ≡ (s.read ++ s.unread) ++ join l
    go [] e =
        ap (λ (l : List ℕ). join s.done ++ l) (sym (s.settled e).0) ∙ s.handed ∙ sym (append-nil (s.read ++ s.unread))
    go (c ∷ l) e =
        ap (λ (x : List ℕ). join s.done ++ x) (append_assoc s.begun c (join l)) ∙ sym (append_assoc (join s.done) s.begun (c ++ join l))
        ∙ ap (λ (x : List ℕ). x ++ (c ++ join l)) s.handed

-- once all is read, or an offending byte is: the events so far are the message's
all_events : (reserved : List ℕ) (cs : List (List ℕ)) (d : Desk) → (s : Stands reserved cs d) → (state_of d.copier.reader ≡ broke → ⊥) → d.chunks ≡ [] → events_of base (join cs) ≡ events_of base s.read
unfolding join
all_events reserved cs d s n e =
    ap (events_of base)
    (all_bytes reserved cs d s ∙ ap (λ (l : List (List ℕ)). (s.read ++ s.unread) ++ join l) e ∙ append-nil (s.read ++ s.unread)
    ∙ ap (λ (l : List ℕ). s.read ++ l) (s.live n) ∙ append-nil s.read)

broken_events : (reserved : List ℕ) (cs : List (List ℕ)) (d : Desk) → (s : Stands reserved cs d) → state_of d.copier.reader ≡ broke → events_of base (join cs) ≡ events_of base s.read
broken_events reserved cs d s e =
    let g : Follows base s.read s.keeps.events broke = subst (Follows base s.read s.keeps.events) e s.keeps.follows in
    let v : verdict_of base s.read ≡ broken_at (length s.read) = verdict_broken base s.read g.spot in
    ap (events_of base) (all_bytes reserved cs d s ∙ append_assoc s.read s.unread (join d.chunks))
    ∙ (broken_stays base s.read (s.unread ++ join d.chunks) (length s.read) v).1

-- ---- what is out

-- once nothing is owed: the reserved bytes and those of the layout's events so far
pub all_out : (reserved : List ℕ) (cs : List (List ℕ)) (d : Desk) → (s : Stands reserved cs d) → rest (copy_of d.copier).owed ≡ []
    → out d ≡ reserved ++ encode_events 0 (events_of base s.read)
all_out reserved cs d s e =
    sym (append-nil (out d)) ∙ ap (λ (l : List ℕ). out d ++ l) (sym e) ∙ s.keeps.bytes
    ∙ ap (λ (l : List ℕ). reserved ++ l) (sym (events_bytes base s.read s.keeps.events (state_of d.copier.reader) s.keeps.follows))

-- Each chunk has its verdict: all of the message's events are out, whatever the verdict.
pub at_the_end : (reserved : List ℕ) (cs : List (List ℕ)) (d : Desk) → Stands reserved cs d → d.chunks ≡ []
    → (out d ≡ reserved ++ encode_events 0 (events_of base (join cs))) × (d.heard ≡ heard_all (verdicts_of base [] cs))
at_the_end reserved cs d s e =
    let z : cs ≡ s.done = s.chunks ∙ ap (λ (l : List (List ℕ)). s.done ++ whole s.begun l) e ∙ append-nil s.done in
    (all_out reserved cs d s (s.settled e).1 ∙ ap (λ (l : List Event). reserved ++ encode_events 0 l) (sym (go (state_of d.copier.reader) refl)), s.heard ∙ ap (λ (l : List (List ℕ)). heard_all (verdicts_of base [] l)) (sym z))
  where
    go : (st : State) → state_of d.copier.reader ≡ st → events_of base (join cs) ≡ events_of base s.read
    go broke h = broken_events reserved cs d s h
    go (reading dep p) h = all_events reserved cs d s (λ x. cc) e
    go (owing dep id r) h = all_events reserved cs d s (λ x. cc) e

-- a drain sends what is out
drain_sends : (reserved : List ℕ) (cs : List (List ℕ)) (d : Desk) → Fine reserved cs d → (act drain d).sent ≡ out d
unfolding act
drain_sends reserved cs d f = ap (λ (r : Sent). (sending d r.sends r.copier d.buf).sent) (drain_is d.copier (length d.buf) f.sound.writer)

-- no more is out than the message's events come to
pub up_to : (reserved : List ℕ) (cs : List (List ℕ)) (d : Desk) → Stands reserved cs d → length (out d) ≤ length reserved + length (encode_events 0 (events_of base (join cs)))
up_to reserved cs d s =
    let t : List ℕ = s.unread ++ join d.chunks in
    let e : join cs ≡ s.read ++ t = all_bytes reserved cs d s ∙ append_assoc s.read s.unread (join d.chunks) in
    let n = ap (λ (l : List ℕ). length (encode_events 0 (events_of base l))) e in
    omega (arith, out_bound base reserved s.read t (out d) (copy_of d.copier) s.keeps)

-- ---- the buffer's length

abbrev pub OneBuffer : Act → Type 0
OneBuffer feed = Unit {0}
OneBuffer drain = Unit {0}
OneBuffer (change b) = ⊥
OneBuffer (stray x) = Unit {0}

size_act : (reserved : List ℕ) (cs : List (List ℕ)) (a : Act) (d : Desk) → MayStand a d → OneBuffer a → Fine reserved cs d → length (act a d).buf ≡ length d.buf
unfolding act
size_act reserved cs feed d h o f = same_size reserved cs d d.chunks f refl
size_act reserved cs drain d h o f = ap (λ (r : Sent). length (sending d r.sends r.copier d.buf).buf) (drain_is d.copier (length d.buf) f.sound.writer)
size_act reserved cs (change b) d h o f = absurd o
size_act reserved cs (stray x) d h o f = refl

-- Where no other buffer is lent, the buffer stays as long as it was.
pub same_length : (reserved : List ℕ) (cs : List (List ℕ)) (as' : List Act) (d : Desk) → Allowed as' d → All OneBuffer as' → Fine reserved cs d → length (acts as' d).buf ≡ length d.buf
unfolding acts
same_length reserved cs [] d h o f = refl
same_length reserved cs (a ∷ as') d h o f =
    same_length reserved cs as' (act a d) h.1 o.1 (fine_act reserved cs a d h.0 f) ∙ size_act reserved cs a d h.0 o.0 f

-- ---- for a run

module _ (offset : ℕ) (b : List ℕ) (cs : List (List ℕ)) (as' : List Act) (h : offset < length b) (a : All Bytes cs) (p : Allowed as' (opened_at offset b cs)) where
  abbrev d : Desk
  d = acts as' (opened_at offset b cs)

  fine : Fine (take offset b) cs d
  fine = fine_run offset b cs as' h a p

  -- Once each chunk has its verdict, a last drain has sent all: the reserved bytes, and those of the layout's events, broken or not.
  pub all_sent : d.chunks ≡ [] → (act drain d).sent ≡ take offset b ++ encode_events 0 (events_of base (join cs))
  all_sent e = drain_sends (take offset b) cs d fine ∙ (at_the_end (take offset b) cs d fine.stands e).0

  -- "Calling on so always ends in the layout's verdict after that chunk": 2 at the layout's byte, and ever after.
  pub all_heard : d.chunks ≡ [] → d.heard ≡ heard_all (verdicts_of base [] cs)
  all_heard e = (at_the_end (take offset b) cs d fine.stands e).1

  -- "Before a 2, every earlier event's bytes are out or in the buffer."
  pub before_two : state_of d.copier.reader ≡ broke → out d ≡ take offset b ++ encode_events 0 (events_of base (join cs))
  before_two e =
      all_out (take offset b) cs d fine.stands (broken_owes d.copier.writer.depth (copy_of d.copier).owed (subst (λ (st : State). sound_owed base st d.copier.writer.depth (copy_of d.copier).owed ≡ true) e fine.sound.owed))
      ∙ ap (λ (l : List Event). take offset b ++ encode_events 0 l) (sym (broken_events (take offset b) cs d fine.stands e))

  -- The reserved bytes go out with the first drain, as they came: whatever was sent begins with them.
  pub reserved_first : take offset (act drain d).sent ≡ take offset b
  reserved_first =
      let n : length (take offset b) ≡ offset = length-take offset b ∙ least offset (length b) (omega arith) in
      let w = rest (copy_of d.copier).owed in
      ap (take offset) (drain_sends (take offset b) cs d fine)
      ∙ ap (λ (m : ℕ). take m (out d)) (sym n)
      ∙ sym (take-append-le (length (take offset b)) (out d) w fine.ahead)
      ∙ ap (take (length (take offset b))) fine.stands.keeps.bytes
      ∙ take-append_seam (take offset b) (encode_events 0 fine.stands.keeps.events)
    where
      least : (x y : ℕ) → x ≤ y → min x y ≡ x
      least x y h = omega arith

  -- "A message of n bytes costs at most n drains, the last flush included unless it has no byte to send": for whatever was sent so far.
  pub few_drains : d.drains ≤ length d.sent
  few_drains = fine.few
