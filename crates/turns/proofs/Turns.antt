-- A turn of the loop that is an event, or what stands in its shortest form already, is a turn of the definition: it goes out and the call
-- goes on, or the call stops where the definition does.
use mathlib.Core.Path.{◌≡◌, refl, sym, ap, ◌∙◌, subst}
use mathlib.Core.Bool.{Bool, true, false}
use mathlib.Core.List.{List, [], ◌∷◌, ◌++◌}
use Prim.Native.Nat.{ℕ, zero, suc, ◌+◌, ◌-◌, ◌*◌, ◌<◌, ◌≤◌, min}
use native.Mathlib.Omega.{arith}
use lib.Dec.{leb, eqb}
use lib.ListN.{length, take, drop, length-take, take-append-drop}
use lib.Seq.{take-take}
use borrow.Author.Tests.{leb-true, leb-false}
use Rattle.std.specs.Prelude.{Ok}
use Rattle.layout.specs.Limits.{base, pick}
use Rattle.layout.specs.Event.{Event}
use Rattle.layout.specs.Message.{Verdict, complete, incomplete}
use Rattle.machine.specs.Machine.{Phase, in_header, in_unsigned, in_signed, in_word, in_unsigned_count, in_signed_count, in_float_count, in_array_word, in_float, in_payload, verdict_after, ending}
use Rattle.machine.specs.Calls as calls
use Rattle.machine.specs.Calls.{State, reading, owing, broke, Called, event, verdict, invalid, verdict_at, Pace, byte, bulk, call}
use Rattle.machine.specs.Run.{spot_of}
use Rattle.machine.proofs.Calls.{FairSpot, weight, light, Judged, Closes}
use Rattle.event.specs.Event.{declared}
use Rattle.event.proofs.Laws.{declared_back}
use Rattle.istream.specs.declared.IStream.{IStream}
use Rattle.istream.specs.declared.Fed.{Fed}
use Rattle.phase.specs.Steps.{covered}
use Rattle.istream.specs.Stream.{state_of, stream_in, sound_stream, status_in, fed_in, fed_of}
use Rattle.phase.specs.Sound.{SoundState}
use Rattle.phase.proofs.Phases.{Live}
use Rattle.istream.proofs.Calls.{state_of_stream, stream_back}
use Rattle.istream.proofs.Laws.{is_sound, sound_is, fed-sound, feed_keeps}
use Rattle.reading.proofs.Feeds.{Ranged, call_range}
use Rattle.putting.specs.Put.{put, reached}
use Rattle.putting.proofs.Writes.{same_length, reached_le, reached_is}
use Rattle.laws.specs.Events.{event_bytes}
use Rattle.copying.specs.Owed.{nothing, owes, rest, further, depth_by, depth_once, due_in}
use Rattle.copying.specs.Copy as copying
use Rattle.copying.specs.Copy.{Copy, after, settled, filled, gone, handed, stuck, heard, copy}
use Rattle.copying.proofs.Turns.{copy_full, copy_settles, copy-turn, Heard, turn-heard, paced, handed_is}
use Rattle.copying_laws.proofs.OneEvent.{AsIs}
use Rattle.as_is.specs.Ahead.{Ahead}
use Rattle.owed.specs.declared.Owed.{Owed}
use Rattle.owed.specs.Owed.{owe, output_of}
use Rattle.output.specs.Output.{output_bytes}
use Rattle.owed.proofs.Laws.{spelled_event}
use Rattle.owing.proofs.Laws.{owe_any}
use Rattle.owed.specs.declared.Owed.TheVariants.{Nothing}
use Rattle.turns.specs.declared.Stop.{Stop}
use Rattle.turns.specs.declared.Turn.TheVariants as turns
use Rattle.turns.specs.declared.Answer.TheVariants.{Status}
use Rattle.turns.specs.Said.{Said, said_of}
use Rattle.turns.specs.Turns.{standing, Ended, ended_in, full_stop, event_turn, event_buf, heard_turn, heard_buf, Stops, Went, Turned, later}
use Rattle.turns.proofs.Events.{AtEvent, Bytes, Steady, call-level, fair}
use Rattle.shortest.proofs.Spans.{all_bytes}

-- ---- what the reader is handed

still-handed : (st : State) (room : ℕ) (c : List ℕ) → Steady st → handed st room c ≡ c
unfolding handed
still-handed (reading d p) room c a = handed_is d p room c ∙ ap (λ (q : Pace). paced q room c) a.1.1
still-handed (owing d id r) room c a = refl
still-handed broke room c a = absurd a

not_stuck : (st : State) (room : ℕ) (c : List ℕ) → Steady st → stuck st room c ≡ false
unfolding stuck
not_stuck (reading d p) room [] a = refl
not_stuck (reading d p) zero (b ∷ c) a = ap (λ (q : Pace). elim q [ byte ↦ false | bulk id r total o ↦ true ]) a.1.1
not_stuck (reading d p) (suc room) (b ∷ c) a = refl
not_stuck (owing d id r) room c a = refl
not_stuck broke room c a = absurd a

-- ---- verdicts

said-pick : (t : Bool) → Said.verdict (pick t complete incomplete) ≡ said_of (Ok (Status (status_in (pick t complete incomplete))))
said-pick true = refl
said-pick false = refl

said_at : (d : ℕ) (p : Phase) → Said.verdict (verdict_at d p) ≡ said_of (Ok (Status (status_in (verdict_at d p))))
unfolding verdict_after ending
said_at d (in_header zero v) = said-pick (eqb d 0)
said_at d (in_header (suc k) v) = refl
said_at d (in_unsigned id left k v) = refl
said_at d (in_signed id left k v) = refl
said_at d (in_word id k v) = refl
said_at d (in_unsigned_count id k v) = refl
said_at d (in_signed_count id k v) = refl
said_at d (in_float_count id k v) = refl
said_at d (in_array_word id c k v) = refl
said_at d (in_float id w left k v) = refl
said_at d (in_payload id r total o) = refl

said-judged : (st : State) (v : Verdict) → Judged st v → Said.verdict v ≡ said_of (Ok (Status (status_in v)))
said-judged (reading d p) v e = subst (λ (x : Verdict). Said.verdict x ≡ said_of (Ok (Status (status_in x)))) (sym e) (said_at d p)
said-judged (owing d id r) v e = absurd e
said-judged broke v e = absurd e

-- ---- a stop

-- n bytes of the chunk earlier
pub ended-later : (n : ℕ) (x y : copying.Copied) (t : Stop) (b : List ℕ) → x ≡ after n y → Stops y t b → Stops x (later n t) b
ended-later n x y t b e q =
    ap ended_in e ∙ ap (λ (r : Ended). record { used = n + r.used; said = r.said; reader = r.reader; depth = r.depth; pos = r.pos; owed = r.owed; place = r.place; buf = r.buf }) q

-- ---- one event

rest_is : (left : ℕ) (e : Event) → rest (owes left e 0) ≡ event_bytes left e
unfolding rest
rest_is left e = refl

-- the event is out: the definition goes on as one that finds nothing owed
settled_is : (k : Copy) (st : State) (left : ℕ) (e : Event) (pos : ℕ) → depth_by k.depth e ≡ (stream_in st).carried.depth → settled (gone k st (owes left e 0)) pos ≡ standing (stream_in st) pos
unfolding depth_once
settled_is k st left e pos h = λ i. record { reader = sym (state_of_stream st) i; depth = h i; pos = pos; owed = nothing }

-- the event fills the buffer, and n bytes of the chunk are used
filled_is : (k : Copy) (st : State) (left : ℕ) (e : Event) (n end : ℕ) (b : List ℕ) → ended_in (record { used = n; answer = copying.full; copy = filled (gone k st (owes left e 0)) end; buf = b })
    ≡ record { used = n; said = Said.full; reader = stream_in st; depth = k.depth; pos = end; owed = owe left e; place = end - k.pos; buf = b }
unfolding further
filled_is k st left e n end b =
    let z : 0 + (end - k.pos) ≡ end - k.pos = omega arith in
    ap (λ (x : ℕ). record { used = n; said = Said.full; reader = stream_in st; depth = k.depth; pos = end; owed = owe left e; place = x; buf = b }) z

module _ (s : IStream) (pos : ℕ) (c b : List ℕ) where
  -- the call up to an event
  abbrev Gives : ℕ → Event → State → Type 0
  Gives n e st = copy base (standing s pos) c b ≡ after n (copy base (gone (standing s pos) st (owes (due_in (state_of s)) e 0)) (drop n c) b)

  pub goes_out : (n : ℕ) (e : Event) (st : State) (out : List ℕ) → event_bytes (due_in (state_of s)) e ≡ out → length out ≤ length b - pos → Gives n e st → n ≤ length c
      → Closes (event e) (state_of s) st n (length c) → depth_by s.carried.depth e ≡ (stream_in st).carried.depth → Live st → SoundState base st
      → Went s pos c b (stream_in st) n (reached b pos out) (put b pos out)
  goes_out n e st out z f q few cl dp lv ss =
      let k = gone (standing s pos) st (owes (due_in (state_of s)) e 0) in
      let y : rest (owes (due_in (state_of s)) e 0) ≡ out = rest_is (due_in (state_of s)) e ∙ z in
      let back = state_of_stream st in
      record {
        same =
            q ∙ ap (after n)
            (copy_settles base k (drop n c) b (subst (λ (l : List ℕ). length l ≤ length b - pos) (sym y) f)
            ∙ ap (λ (l : List ℕ). copy base (settled k (reached b pos l)) (drop n c) (put b pos l)) y
            ∙ ap (λ (j : Copy). copy base j (drop n c) (put b pos out)) (settled_is (standing s pos) st (due_in (state_of s)) e (reached b pos out) dp));
        few = few;
        nearer = subst (λ (x : State). 2 * (length c - n) + weight x < 2 * length c + weight (state_of s)) (sym back) cl;
        sound = sound_is base st ss;
        live = subst Live (sym back) lv;
        size = same_length b pos out;
        within = λ h. reached_le b pos out h;
      }

  by_room : (t : Bool) (n : ℕ) (e : Event) (st : State) → let o = owe (due_in (state_of s)) e in leb (length (output_bytes (output_of o))) (length b - pos) ≡ t → Gives n e st → n ≤ length c
      → Closes (event e) (state_of s) st n (length c) → AtEvent s.carried.depth (event e) st → SoundState base st
      → Turned s pos c b (pick t (turns.On (stream_in st) n (reached b pos (output_bytes (output_of o)))) (turns.Stop (full_stop s.carried.depth o n (stream_in st) pos b))) (event_buf o pos b)
  by_room true n e st t q few cl ae ss =
      goes_out n e st (output_bytes (output_of (owe (due_in (state_of s)) e))) (spelled_event (due_in (state_of s)) e ae.1.0) (leb-true _ _ t) q few cl ae.0 ae.1.1 ss
  by_room false n e st t q few cl ae ss =
      let out = output_bytes (output_of (owe (due_in (state_of s)) e)) in
      let k = gone (standing s pos) st (owes (due_in (state_of s)) e 0) in
      let y : rest (owes (due_in (state_of s)) e 0) ≡ out = rest_is (due_in (state_of s)) e ∙ spelled_event (due_in (state_of s)) e ae.1.0 in
      let f : length b - pos < length (rest (owes (due_in (state_of s)) e 0)) = subst (λ (l : List ℕ). length b - pos < length l) (sym y) (leb-false _ _ t) in
      let z : n + 0 ≡ n = omega arith in
      let full : copy base (standing s pos) c b ≡ record { used = n; answer = copying.full; copy = filled k (reached b pos out); buf = put b pos out } =
      q ∙ ap (after n) (copy_full base k (drop n c) b f) ∙ ap (λ (l : List ℕ). record { used = n + 0; answer = copying.full; copy = filled k (reached b pos l); buf = put b pos l }) y
      ∙ ap (λ (m : ℕ). record { used = m; answer = copying.full; copy = filled k (reached b pos out); buf = put b pos out }) z in
      (ap ended_in full ∙ filled_is (standing s pos) st (due_in (state_of s)) e n (reached b pos out) (put b pos out), few, same_length b pos out)

  at_event : (n : ℕ) (e : Event) (st : State) (o : Owed) → o ≡ owe (due_in (state_of s)) e → Gives n e st → n ≤ length c → Closes (event e) (state_of s) st n (length c)
      → AtEvent s.carried.depth (event e) st → SoundState base st → Turned s pos c b (event_turn s.carried.depth o n (stream_in st) pos b) (event_buf o pos b)
  at_event n e st o i q few cl ae ss =
      subst (λ (x : Owed). Turned s pos c b (event_turn s.carried.depth x n (stream_in st) pos b) (event_buf x pos b)) (sym i)
      (by_room (leb (length (output_bytes (output_of (owe (due_in (state_of s)) e)))) (length b - pos)) n e st refl q few cl ae ss)

  by_answer : (n : ℕ) (a : calls.Said) (st : State)
      → copy base (standing s pos) c b ≡ heard (standing s pos) c b (record { read = n; answer = a; state = st }) (λ e. copy base (gone (standing s pos) st (owes (due_in (state_of s)) e 0)) (drop n c) b)
      → n ≤ length c → Closes a (state_of s) st n (length c) → Ranged c n a → AtEvent s.carried.depth a st → SoundState base st
      → let f = fed_in (record { read = n; answer = a; state = st }) in Turned s pos c b (heard_turn s.carried.depth (due_in (state_of s)) f pos b) (heard_buf (due_in (state_of s)) f pos b)
  unfolding heard fed_in
  by_answer n (event e) st q few cl rg ae ss =
      at_event n e st _ (owe_any (due_in (state_of s)) c (declared (n - covered e) e) ∙ ap (owe (due_in (state_of s))) (declared_back c (n - covered e) e rg)) q few cl ae ss
  by_answer n (verdict v) st q few cl rg ae ss = (
    ap ended_in q ∙ ap (λ (x : Said). record { used = n; said = x; reader = stream_in st; depth = s.carried.depth; pos = pos; owed = Nothing; place = 0; buf = b }) (said-judged st v cl.1),
    few,
    refl,
  )
  by_answer n invalid st q few cl rg ae ss = (ap ended_in q, few, refl)

  depth_there : Live (state_of s) → (stream_in (state_of s)).carried.depth ≡ s.carried.depth
  depth_there l = ap (λ (x : IStream). x.carried.depth) (stream_back s.carried.depth s.phase l)

  -- a call of the reader that is handed the chunk
  called : (r : Called) → copy base (standing s pos) c b ≡ heard (standing s pos) c b r (λ e. copy base (gone (standing s pos) r.state (owes (due_in (state_of s)) e 0)) (drop r.read c) b)
      → Heard base (state_of s) c r → Ranged c r.read r.answer → AtEvent s.carried.depth r.answer r.state → SoundState base r.state
      → Turned s pos c b (heard_turn s.carried.depth (due_in (state_of s)) (fed_in r) pos b) (heard_buf (due_in (state_of s)) (fed_in r) pos b)
  called r q hd rg ae ss = by_answer r.read r.answer r.state q hd.few hd.closes rg ae ss

  call-sound : Bytes c → sound_stream base s ≡ true → Live (state_of s) → SoundState base (call base (state_of s) c).state
  unfolding fed_in
  call-sound bs t l =
      let e : sound_stream base (stream_in (call base (state_of s) c).state) ≡ true =
      ap (λ (f : Fed). sound_stream base f.stream) (fed-sound base s (state_of s) c refl l t) ∙ feed_keeps base s c bs t in
      subst (SoundState base) (state_of_stream (call base (state_of s) c).state) (is_sound base (stream_in (call base (state_of s) c).state) e)

  -- where no payload is under way
  pub steady_turn : sound_stream base s ≡ true → Live (state_of s) → Steady (state_of s) → Bytes c
      → Turned s pos c b (heard_turn s.carried.depth (due_in (state_of s)) (fed_of base s c) pos b) (heard_buf (due_in (state_of s)) (fed_of base s c) pos b)
  steady_turn t l a bs =
      let st = state_of s in
      let room = length b - pos in
      let i : handed st room c ≡ c = still-handed st room c a in
      let f : FairSpot (spot_of st) = fair st (is_sound base s t) in
      let k = standing s pos in
      let q = subst (λ (x : List ℕ). copy base k c b ≡ heard k c b (call base st x) (λ e. copy base (gone k (call base st x).state (owes (due_in st) e 0)) (drop (call base st x).read c) b)) i (copy-turn base k c b f refl (not_stuck st room c a)) in
      let hd = subst (λ (x : List ℕ). Heard base st c (call base st x)) i (turn-heard base st room c f (not_stuck st room c a)) in
      subst (λ (x : Fed). Turned s pos c b (heard_turn s.carried.depth (due_in st) x pos b) (heard_buf (due_in st) x pos b)) (fed-sound base s st c refl l t)
      (called (call base st c) q hd (call_range base st c (is_sound base s t) (all_bytes c bs)) (subst (λ (x : ℕ). AtEvent x (call base st c).answer (call base st c).state) (depth_there l) (call-level st c bs a)) (call-sound bs t l))

-- what stands in its shortest form goes as it came
pub ahead_went : (s : IStream) (pos m : ℕ) (c b : List ℕ) (n : ℕ) (s' : IStream) → m ≡ min (length c) (length b - pos) → Ahead s (take m c) n s' → 0 < n
    → Went s pos c b s' n (reached b pos (take n c)) (put b pos (take n c))
ahead_went s pos m c b n s' e a z =
    let f : n ≤ length (take m c) = a.few in
    let t : length (take m c) ≡ min m (length c) = length-take m c in
    let l : n ≤ length c = omega arith in
    let i : take n (take m c) ≡ take n c = take-take n m c (omega arith) in
    let u : length (take n c) ≡ n = length-take n c ∙ least n (length c) l in
    let j : pos + length (take n c) ≤ length b = omega arith in
    let q : copy base (standing s pos) (take n c ++ drop n c) b ≡ after (length (take n c)) (copy base (standing s' (pos + length (take n c))) (drop n c) (put b pos (take n c))) =
    subst (λ (x : List ℕ). AsIs base (state_of s) s.carried.depth x (state_of s') s'.carried.depth) i a.same pos (drop n c) b j in
    let r : reached b pos (take n c) ≡ pos + length (take n c) = reached_is b pos (take n c) ∙ ap (λ (x : ℕ). pos + x) (least (length (take n c)) (length b - pos) (omega arith)) in
    record {
      same =
          ap (λ (x : List ℕ). copy base (standing s pos) x b) (sym (take-append-drop n c)) ∙ q
          ∙ ap (λ (x : ℕ). after x (copy base (standing s' (pos + length (take n c))) (drop n c) (put b pos (take n c)))) u
          ∙ ap (λ (x : ℕ). after n (copy base (standing s' x) (drop n c) (put b pos (take n c)))) (sym r);
      few = l;
      nearer = let w = light (state_of s') in omega arith;
      sound = a.sound;
      live = a.live;
      size = same_length b pos (take n c);
      within = λ h. reached_le b pos (take n c) h;
    }
  where
    least : (x y : ℕ) → x ≤ y → min x y ≡ x
    least x y h = omega arith
