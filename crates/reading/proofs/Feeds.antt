-- The reader's calls are the machine's, event for event, so that the machine's run theorem is the reader's.
use Prim.Native.Nat.{ℕ, zero, suc, ◌+◌, ◌-◌, ◌*◌, ◌/◌, ◌%◌, ◌^◌, ◌<◌, ◌≤◌, min}
use native.Mathlib.Omega.{arith}
use mathlib.Core.Path.{◌≡◌, refl, sym, ap, ◌∙◌, subst}
use mathlib.Core.Logic.{◌↔◌}
use mathlib.Core.Bool.{Bool, true, false}
use mathlib.Core.List.{List, [], ◌∷◌, ◌++◌}
use lib.ListN.{length, take, drop, get_or, length-take}
use lib.Dec.{ltb, leb, eqb}
use borrow.Author.Tests.{ltb-false}
use Rattle.std.specs.Prelude.{Result, Ok, Err}
use Rattle.layout.specs.Limits.{Limits, pick}
use Rattle.layout.specs.Varint.{Push, more, value, overrun, push}
use Rattle.layout.specs.Field.{Width, fp32, fp64, Raw, Subtyped, Wire, bytes_of, subtype_of, wire_of, float, raw, known, unknown}
use Rattle.layout.specs.Field.{t_unsigned, t_signed, t_fixlen, t_unsigneds, t_signeds, t_floats, t_begin, t_end}
use Rattle.layout.specs.Event.{Event, Unsigned, Signed, Float, Piece, Fixlen, Array, Begin, End, joined, bytewise}
use Rattle.layout.specs.Message.{All, Bytes, complete, incomplete, events_of, verdict_of}
use Rattle.layout.proofs.Joined.{joined-run}
use Rattle.machine.specs.Machine.{Phase, in_header, in_unsigned, in_signed, in_word, in_unsigned_count, in_signed_count, in_float_count, in_array_word, in_float, in_payload}
use Rattle.machine.specs.Machine.{Stepped, on, bad, next_or, at_wire, at_header, at_payload, at_subtype, at_word, at_unsigned_count, at_signed_count, at_float_count}
use Rattle.machine.specs.Machine.{at_element, at_array_word, at_unsigned, at_signed, within, at_float, step, ending, verdict_after}
use Rattle.machine.specs.Calls.{State, reading, owing, broke, fresh, Said, event, verdict, invalid, Called, verdict_at, Pace, byte, bulk, pace_of, piece, scanned, scan, call}
use Rattle.machine.specs.Calls.{standing_of, standing}
use Rattle.machine.specs.Run.{given, due, Follows, Ending, ended, unfinished, Chunk, calls, Heard, status, seen, chunks, verdicts_of, heard_of, heard_all, read_of, last_heard, join}
use Rattle.machine.proofs.Calls.{call_follows, fresh_follows}
use Rattle.machine.proofs.Runs.{standing_with, standing_is, reads, verdicts_last, joined_injective}
use Rattle.event.specs.Event.{event_of}
use Rattle.event.proofs.Laws.{InRange, declared_back}
use Rattle.istream.specs.declared.IStream.{IStream}
use Rattle.call_end.specs.declared.Answer.TheVariants as Answers
use Rattle.istream.specs.declared.Fed as Given
use Rattle.types.specs.declared.Error.{Error}
use Rattle.types.specs.Types.{refusal}
use Rattle.istream.specs.Stream.{state_of, stream_in, sound_stream, standing_in, status_of, status_in, answer_in, fed_in, fed_of}
use Rattle.phase.specs.Steps.{covered}
use Rattle.phase.specs.Sound.{SoundAt, SoundState, AtBytes, Kept}
use Rattle.phase.proofs.Phases.{byte_below}
use Rattle.phase.proofs.Keeps.{step_keeps}
use Rattle.istream.proofs.Calls.{state_of_stream}
use Rattle.istream.proofs.Laws.{is_sound, sound_is, fresh-sound, fed-sound, fed_broken, feed_keeps}
use Rattle.reading.specs.Feeds.{Fed, feeds, told, Run, feed_all, given_by, Reached, start, called}

-- ---- a byte raises no piece, and a float's bits are of its width

abbrev Small : Event → Type 0
Small (Unsigned id n) = Unit {0}
Small (Signed id z) = Unit {0}
Small (Float id w x) = x < 256 ^ bytes_of w
Small (Piece id r total o bs) = ⊥
Small (Fixlen id s n) = Unit {0}
Small (Array id k n) = Unit {0}
Small (Begin id) = Unit {0}
Small End = Unit {0}

abbrev SmallStep : Stepped → Type 0
SmallStep (on [] d p) = Unit {0}
SmallStep (on (e ∷ es) d p) = Small e
SmallStep bad = Unit {0}

small_pick : (t : Bool) (s s' : Stepped) → SmallStep s → SmallStep s' → SmallStep (pick t s s')
small_pick true s s' h h' = h
small_pick false s s' h h' = h'

small_within : (d : ℕ) (q : Push) (p : ℕ → ℕ → Phase) (g : ℕ → Stepped) → ((x : ℕ) → SmallStep (g x)) → SmallStep (within d q p g)
unfolding within
small_within d (more k v) p g h = tt
small_within d (value x) p g h = h x
small_within d overrun p g h = tt

-- ---- an answer, and how calls end

abbrev pub Ranged : List ℕ → ℕ → Said → Type 0
Ranged c n (event e) = InRange c (n - covered e) e
Ranged c n (verdict v) = Unit {0}
Ranged c n invalid = Unit {0}

-- the machine's last answer as the reader's
abbrev final : Ending Said → Ending (Result Rattle.call_end.specs.declared.Answer.Answer Error)
final (ended (event e)) = unfinished
final (ended (verdict v)) = ended (Ok (Answers.Status (status_in v)))
final (ended invalid) = ended (Err (refusal 2))
final unfinished = unfinished

abbrev image : Chunk → Fed
image r = record { events = r.events; read = r.read; answer = final r.answer; stream = stream_in r.state }

-- a verdict that comes with an answer is complete or incomplete
abbrev Plain : Said → Type 0
Plain (event e) = Unit {0}
Plain (verdict v) = (n : ℕ) → told n (ended (Ok (Answers.Status (status_in v)))) ≡ status v
Plain invalid = Unit {0}

abbrev PlainEnd : Ending Said → Type 0
PlainEnd (ended a) = Plain a
PlainEnd unfinished = Unit {0}

-- a reader that calls have reached is the machine's state that the same calls reach
record Follow (L : Limits) (bs : List ℕ) (es : List Event) (s : IStream) : Type 0 where
  state : State
  is : s ≡ stream_in state
  sound : SoundState L state
  follows : Follows L bs es state

-- ---- bytes

pub each_byte : (c : List ℕ) → Bytes c → (i : ℕ) → get_or c i 0 < 256
each_byte [] h zero = omega arith
each_byte [] h (suc i) = omega arith
each_byte (b ∷ bs) h zero = h.0
each_byte (b ∷ bs) h (suc i) = each_byte bs h.1 i

pub bytes_drop : (k : ℕ) (c : List ℕ) → Bytes c → Bytes (drop k c)
bytes_drop zero c h = h
bytes_drop (suc k) [] h = tt
bytes_drop (suc k) (b ∷ bs) h = bytes_drop k bs h.1

module _ (L : Limits) where
  small_wire : (d id : ℕ) (t : Wire) → SmallStep (at_wire L d id t)
  small_wire d id t_unsigned = tt
  small_wire d id t_signed = tt
  small_wire d id t_fixlen = tt
  small_wire d id t_unsigneds = tt
  small_wire d id t_signeds = tt
  small_wire d id t_floats = tt
  small_wire d id t_begin = small_pick (ltb d L.depth) _ bad tt tt
  small_wire d id t_end = small_pick (eqb d 0) bad _ tt tt

  small_payload : (d id : ℕ) (r : Raw) (m : ℕ) → SmallStep (at_payload d id r m)
  small_payload d id r zero = tt
  small_payload d id r (suc m) = tt

  small_subtype : (d id m : ℕ) (s : Subtyped) → SmallStep (at_subtype L d id m s)
  small_subtype d id m (known (float w)) = small_pick (eqb m (bytes_of w)) _ bad tt tt
  small_subtype d id m (known (raw r)) = small_pick (leb m L.size) _ bad (small_payload d id r m) tt
  small_subtype d id m unknown = tt

  small_element : (d id c m : ℕ) (s : Subtyped) → SmallStep (at_element d id c m s)
  small_element d id c m (known (float w)) = small_pick (eqb m (bytes_of w)) _ bad tt tt
  small_element d id c m (known (raw r)) = tt
  small_element d id c m unknown = tt

  -- the last byte of a float
  small_float : (d id : ℕ) (w : Width) (left k x : ℕ) → k < bytes_of w → x < 256 ^ (k + 1) → SmallStep (at_float d id w left k x)
  unfolding at_float
  small_float d id w left k x h l = go (ltb (k + 1) (bytes_of w)) refl
    where
      go : (t : Bool) → ltb (k + 1) (bytes_of w) ≡ t → SmallStep (pick t (on [] d (in_float id w left (k + 1) x)) (on (Float id w x ∷ []) d (next_or left (λ m. in_float id w m 0 0))))
      go true e = tt
      go false e = let m : k + 1 ≡ bytes_of w = omega (arith, ltb-false (k + 1) (bytes_of w) e) in subst (λ (n : ℕ). x < 256 ^ n) m l

  small_step : (d : ℕ) (p : Phase) (b : ℕ) → SoundAt L p → pace_of p ≡ byte → b < 256 → SmallStep (step L d p b)
  unfolding step at_header at_word at_unsigned_count at_signed_count at_float_count at_array_word at_unsigned at_signed
  small_step d (in_header k v) b s c l = small_within d (push L k v b) in_header (at_header L d) (λ h. small_pick (leb (h / 8) L.id) _ bad (small_wire d (h / 8) (wire_of (h % 8))) tt)
  small_step d (in_unsigned id left k v) b s c l = small_within d (push L k v b) (in_unsigned id left) (at_unsigned d id left) (λ x. tt)
  small_step d (in_signed id left k v) b s c l = small_within d (push L k v b) (in_signed id left) (at_signed d id left) (λ x. tt)
  small_step d (in_word id k v) b s c l = small_within d (push L k v b) (in_word id) (at_word L d id) (λ w. small_subtype d id (w / 8) (subtype_of (w % 8)))
  small_step d (in_unsigned_count id k v) b s c l = small_within d (push L k v b) (in_unsigned_count id) (at_unsigned_count L d id) (λ n. small_pick (leb n L.count) _ bad tt tt)
  small_step d (in_signed_count id k v) b s c l = small_within d (push L k v b) (in_signed_count id) (at_signed_count L d id) (λ n. small_pick (leb n L.count) _ bad tt tt)
  small_step d (in_float_count id k v) b s c l = small_within d (push L k v b) (in_float_count id) (at_float_count L d id) (λ n. small_pick (leb n L.count) _ bad tt tt)
  small_step d (in_array_word id n k v) b s c l = small_within d (push L k v b) (in_array_word id n) (at_array_word d id n) (λ w. small_element d id n (w / 8) (subtype_of (w % 8)))
  small_step d (in_float id w left k v) b s c l = small_float d id w left k (v + b * 256 ^ k) s.1.1.0 (byte_below v b k l s.1.1.1)
  small_step d (in_payload id r total o) b s c l = let z : ◌≡◌ {A = ℕ} 0 1 = cc in absurd (omega arith)

  -- ---- an answer's event is in range of the chunk

  small_range : (c : List ℕ) (n : ℕ) (e : Event) → Small e → InRange c n e
  small_range c n (Unsigned id x) h = tt
  small_range c n (Signed id z) h = tt
  small_range c n (Float id fp32 x) h = h
  small_range c n (Float id fp64 x) h = h
  small_range c n (Piece id r total o bs) h = absurd h
  small_range c n (Fixlen id s x) h = tt
  small_range c n (Array id k x) h = tt
  small_range c n (Begin id) h = tt
  small_range c n End h = tt

  scanned_range : (c : List ℕ) (n : ℕ) (s : Stepped) (f : ℕ → Phase → Called) → SmallStep s → Kept L s → ((d : ℕ) (p : Phase) → AtBytes L (reading d p) → Ranged c (f d p).read (f d p).answer)
      → Ranged c (scanned n s f).read (scanned n s f).answer
  unfolding scanned
  scanned_range c n (on [] d p) f h k g = g d p k
  scanned_range c n (on (e ∷ es) d p) f h k g = small_range c (n - covered e) e h
  scanned_range c n bad f h k g = tt

  scan_range : (c : List ℕ) (n d : ℕ) (p : Phase) (bs : List ℕ) → Bytes bs → AtBytes L (reading d p) → Ranged c (scan L n d p bs).read (scan L n d p bs).answer
  unfolding scan
  scan_range c n d p [] h k = tt
  scan_range c n d p (b ∷ bs) h k =
      by_pace (pace_of p) k.1.1
      (scanned_range c (suc n) (step L d p b) (λ d' p'. scan L (suc n) d' p' bs) (small_step d p b k.1.0 k.1.1 h.0) (step_keeps L d p b k h.0) (λ d' p' k'. scan_range c (suc n) d' p' bs h.1 k'))
    where
      by_pace : (q : Pace) → q ≡ byte → Ranged c (scanned (suc n) (step L d p b) (λ d' p'. scan L (suc n) d' p' bs)).read (scanned (suc n) (step L d p b) (λ d' p'. scan L (suc n) d' p' bs)).answer
          → Ranged c
          (elim q as (λ x. Called) [ byte ↦ scanned (suc n) (step L d p b) (λ d' p'. scan L (suc n) d' p' bs) | bulk id r total o ↦ piece n d id r total o (min (total - o) (length (b ∷ bs))) (b ∷ bs) ]).read
          (elim q as (λ x. Called) [ byte ↦ scanned (suc n) (step L d p b) (λ d' p'. scan L (suc n) d' p' bs) | bulk id r total o ↦ piece n d id r total o (min (total - o) (length (b ∷ bs))) (b ∷ bs) ]).answer
      by_pace byte e g = g
      by_pace (bulk id r total o) e g = let z : ◌≡◌ {A = ℕ} 0 1 = cc in absurd (omega arith)

  -- a piece's bounds are its bytes
  piece_range : (c : List ℕ) (d id : ℕ) (r : Raw) (total o k : ℕ) → k ≤ length c → Ranged c (piece 0 d id r total o k c).read (piece 0 d id r total o k c).answer
  piece_range c d id r total o k h =
      let m : length (take k c) ≡ k = length-take k c ∙ least k (length c) h in
      let z : 0 + k - length (take k c) ≡ 0 = omega arith in
      let w : 0 + k - length (take k c) + length (take k c) ≡ k = omega arith in
      ap (λ (f : ℕ). drop f (take (0 + k - length (take k c) + length (take k c)) c)) z ∙ ap (λ (t : ℕ). take t c) w
    where
      least : (x y : ℕ) → x ≤ y → min x y ≡ x
      least x y h = omega arith

  payload_range : (c : List ℕ) (d id : ℕ) (r : Raw) (total o : ℕ) → Ranged c (scan L 0 d (in_payload id r total o) c).read (scan L 0 d (in_payload id r total o) c).answer
  unfolding scan
  payload_range [] d id r total o = tt
  payload_range (b ∷ bs) d id r total o = piece_range (b ∷ bs) d id r total o (min (total - o) (length (b ∷ bs))) (omega arith)

  pub call_range : (st : State) (c : List ℕ) → SoundState L st → Bytes c → Ranged c (call L st c).read (call L st c).answer
  unfolding call
  call_range (reading d (in_header k v)) c h b = scan_range c 0 d _ c b (h.0, (h.1, refl))
  call_range (reading d (in_unsigned id left k v)) c h b = scan_range c 0 d _ c b (h.0, (h.1, refl))
  call_range (reading d (in_signed id left k v)) c h b = scan_range c 0 d _ c b (h.0, (h.1, refl))
  call_range (reading d (in_word id k v)) c h b = scan_range c 0 d _ c b (h.0, (h.1, refl))
  call_range (reading d (in_unsigned_count id k v)) c h b = scan_range c 0 d _ c b (h.0, (h.1, refl))
  call_range (reading d (in_signed_count id k v)) c h b = scan_range c 0 d _ c b (h.0, (h.1, refl))
  call_range (reading d (in_float_count id k v)) c h b = scan_range c 0 d _ c b (h.0, (h.1, refl))
  call_range (reading d (in_array_word id n k v)) c h b = scan_range c 0 d _ c b (h.0, (h.1, refl))
  call_range (reading d (in_float id w left k v)) c h b = scan_range c 0 d _ c b (h.0, (h.1, refl))
  call_range (reading d (in_payload id r total o)) c h b = payload_range c d id r total o
  call_range (owing d id r) c h b = refl
  call_range broke c h b = tt

  -- ---- one call

  fed_is : (st : State) (c : List ℕ) → SoundState L st → fed_of L (stream_in st) c ≡ fed_in (call L st c)
  unfolding fed_in call
  fed_is (reading d p) c h = sym (fed-sound L (stream_in (reading d p)) (reading d p) c (state_of_stream (reading d p)) tt (sound_is L (reading d p) h))
  fed_is (owing d id r) c h = sym (fed-sound L (stream_in (owing d id r)) (owing d id r) c (state_of_stream (owing d id r)) tt (sound_is L (owing d id r) h))
  fed_is broke c h = sym (fed_broken L (stream_in broke) c refl)

  pub call-sound : (st : State) (c : List ℕ) → SoundState L st → Bytes c → SoundState L (call L st c).state
  unfolding fed_in
  call-sound st c h b =
      let k : sound_stream L (fed_of L (stream_in st) c).stream ≡ true = feed_keeps L (stream_in st) c (each_byte c b) (sound_is L st h) in
      let e : sound_stream L (stream_in (call L st c).state) ≡ true = sym (ap (λ (r : Given.Fed). sound_stream L r.stream) (fed_is st c h)) ∙ k in
      subst (SoundState L) (state_of_stream (call L st c).state) (is_sound L (stream_in (call L st c).state) e)

  -- ---- a chunk

  -- what follows a call
  after : ℕ → List ℕ → Given.Fed → Fed
  after n c r =
      elim r.answer [
        | Ok (Answers.Event e) ↦ (let q = feeds L n r.stream (drop r.read c) in record { events = event_of c e ∷ q.events; read = r.read + q.read; answer = q.answer; stream = q.stream })
        | Ok (Answers.Status v) ↦ record { events = []; read = r.read; answer = ended (Ok (Answers.Status v)); stream = r.stream }
        | Err e ↦ record { events = []; read = r.read; answer = ended (Err e); stream = r.stream }
      ]

  -- by the machine's answer
  after_is : (n : ℕ) (c : List ℕ) (k : ℕ) (a : Said) (st : State) → Ranged c k a → feeds L n (stream_in st) (drop k c) ≡ image (calls L n st (drop k c))
      → after n c (record { read = k; answer = answer_in k a; stream = stream_in st })
      ≡ image
      (elim a as (λ x. Chunk) [
        | event e ↦ Rattle.machine.specs.Run.more e k (calls L n st (drop k c))
        | verdict v ↦ record { events = []; read = k; answer = ended (verdict v); state = st }
        | invalid ↦ record { events = []; read = k; answer = ended invalid; state = st }
      ])
  unfolding after
  after_is n c k (event e) st g ih =
      ap (λ (x : Event). record { events = x ∷ (feeds L n (stream_in st) (drop k c)).events; read = k + (feeds L n (stream_in st) (drop k c)).read; answer = (feeds L n (stream_in st) (drop k c)).answer; stream = (feeds L n (stream_in st) (drop k c)).stream }) (declared_back c (k - covered e) e g)
      ∙ ap (λ (q : Fed). record { events = e ∷ q.events; read = k + q.read; answer = q.answer; stream = q.stream }) ih
  after_is n c k (verdict v) st g ih = refl
  after_is n c k invalid st g ih = refl

  feeds_is : (n : ℕ) (st : State) (c : List ℕ) → SoundState L st → Bytes c → feeds L n (stream_in st) c ≡ image (calls L n st c)
  unfolding feeds calls after fed_in
  feeds_is zero st c h b = refl
  feeds_is (suc n) st c h b =
      let r = call L st c in
      ap (after n c) (fed_is st c h)
      ∙ after_is n c r.read r.answer r.state (call_range st c h b) (feeds_is n r.state (drop r.read c) (call-sound st c h b) (bytes_drop r.read c b))

  -- a chunk's calls keep the state sound
  calls-sound : (n : ℕ) (st : State) (c : List ℕ) → SoundState L st → Bytes c → SoundState L (calls L n st c).state
  unfolding calls
  calls-sound zero st c h b = h
  calls-sound (suc n) st c h b =
      let r = call L st c in
      by_answer r.answer (call-sound st c h b) (calls-sound n r.state (drop r.read c) (call-sound st c h b) (bytes_drop r.read c b))
    where
      by_answer : (a : Said) → SoundState L (call L st c).state → SoundState L (calls L n (call L st c).state (drop (call L st c).read c)).state
          → SoundState L
          (elim a as (λ x. Chunk) [
            | event e ↦ Rattle.machine.specs.Run.more e (call L st c).read (calls L n (call L st c).state (drop (call L st c).read c))
            | verdict v ↦ record { events = []; read = (call L st c).read; answer = ended (verdict v); state = (call L st c).state }
            | invalid ↦ record { events = []; read = (call L st c).read; answer = ended invalid; state = (call L st c).state }
          ]).state
      by_answer (event e) s t = t
      by_answer (verdict v) s t = s
      by_answer invalid s t = s

  -- ---- verdicts

  plain_pick : (t : Bool) (n : ℕ) → told n (ended (Ok (Answers.Status (status_in (pick t complete incomplete))))) ≡ status (pick t complete incomplete)
  plain_pick true n = refl
  plain_pick false n = refl

  plain_at : (d : ℕ) (p : Phase) (n : ℕ) → told n (ended (Ok (Answers.Status (status_in (verdict_at d p))))) ≡ status (verdict_at d p)
  unfolding verdict_after ending
  plain_at d (in_header zero v) n = plain_pick (eqb d 0) n
  plain_at d (in_header (suc k) v) n = refl
  plain_at d (in_unsigned id left k v) n = refl
  plain_at d (in_signed id left k v) n = refl
  plain_at d (in_word id k v) n = refl
  plain_at d (in_unsigned_count id k v) n = refl
  plain_at d (in_signed_count id k v) n = refl
  plain_at d (in_float_count id k v) n = refl
  plain_at d (in_array_word id c k v) n = refl
  plain_at d (in_float id w left k v) n = refl
  plain_at d (in_payload id r total o) n = refl

  plain_scanned : (n : ℕ) (s : Stepped) (f : ℕ → Phase → Called) → ((d : ℕ) (p : Phase) → Plain (f d p).answer) → Plain (scanned n s f).answer
  unfolding scanned
  plain_scanned n (on [] d p) f h = h d p
  plain_scanned n (on (e ∷ es) d p) f h = tt
  plain_scanned n bad f h = tt

  plain_scan : (n d : ℕ) (p : Phase) (bs : List ℕ) → Plain (scan L n d p bs).answer
  unfolding scan
  plain_scan n d p [] = plain_at d p
  plain_scan n d p (b ∷ bs) = by_pace (pace_of p) (plain_scanned (suc n) (step L d p b) (λ d' p'. scan L (suc n) d' p' bs) (λ d' p'. plain_scan (suc n) d' p' bs))
    where
      by_pace : (q : Pace) → Plain (scanned (suc n) (step L d p b) (λ d' p'. scan L (suc n) d' p' bs)).answer
          → Plain (elim q as (λ x. Called) [ byte ↦ scanned (suc n) (step L d p b) (λ d' p'. scan L (suc n) d' p' bs) | bulk id r total o ↦ piece n d id r total o (min (total - o) (length (b ∷ bs))) (b ∷ bs) ]).answer
      by_pace byte g = g
      by_pace (bulk id r total o) g = tt

  plain_call : (st : State) (c : List ℕ) → Plain (call L st c).answer
  unfolding call
  plain_call (reading d p) c = plain_scan 0 d p c
  plain_call (owing d id r) c = tt
  plain_call broke c = tt

  plain_calls : (n : ℕ) (st : State) (c : List ℕ) → PlainEnd (calls L n st c).answer
  unfolding calls
  plain_calls zero st c = tt
  plain_calls (suc n) st c = by_answer (call L st c).answer (plain_call st c) (plain_calls n (call L st c).state (drop (call L st c).read c))
    where
      by_answer : (a : Said) → Plain a → PlainEnd (calls L n (call L st c).state (drop (call L st c).read c)).answer
          → PlainEnd
          (elim a as (λ x. Chunk) [
            | event e ↦ Rattle.machine.specs.Run.more e (call L st c).read (calls L n (call L st c).state (drop (call L st c).read c))
            | verdict v ↦ record { events = []; read = (call L st c).read; answer = ended (verdict v); state = (call L st c).state }
            | invalid ↦ record { events = []; read = (call L st c).read; answer = ended invalid; state = (call L st c).state }
          ]).answer
      by_answer (event e) s t = t
      by_answer (verdict v) s t = s
      by_answer invalid s t = s

  told_is : (n : ℕ) (a : Ending Said) → PlainEnd a → told n (final a) ≡ seen n a
  told_is n (ended (event e)) h = refl
  told_is n (ended (verdict v)) h = h n
  told_is n (ended invalid) h = refl
  told_is n unfinished h = refl

  -- ---- a list of chunks

  feed_all_is : (st : State) (n : ℕ) (cs : List (List ℕ)) → SoundState L st → All Bytes cs
      → feed_all L (stream_in st) n cs ≡ record { events = (chunks L st n cs).events; verdicts = (chunks L st n cs).verdicts; read = (chunks L st n cs).read; stream = stream_in (chunks L st n cs).state }
  unfolding feed_all chunks
  feed_all_is st n [] h b = refl
  feed_all_is st n (c ∷ cs) h b =
      let r : Chunk = calls L (2 * length c + 2) st c in
      let after : Heard → Run → Run = λ v q. record { events = r.events ++ q.events; verdicts = v ∷ q.verdicts; read = q.read; stream = q.stream } in
      let s = calls-sound (2 * length c + 2) st c h b.0 in
      ap (λ (f : Fed). record { events = f.events ++ (feed_all L f.stream (n + f.read) cs).events; verdicts = told (n + f.read) f.answer ∷ (feed_all L f.stream (n + f.read) cs).verdicts; read = (feed_all L f.stream (n + f.read) cs).read; stream = (feed_all L f.stream (n + f.read) cs).stream }) (feeds_is (2 * length c + 2) st c h b.0)
      ∙ ap (after (told (n + r.read) (final r.answer))) (feed_all_is r.state (n + r.read) cs s b.1)
      ∙ ap (λ (v : Heard). after v (record { events = (chunks L r.state (n + r.read) cs).events; verdicts = (chunks L r.state (n + r.read) cs).verdicts; read = (chunks L r.state (n + r.read) cs).read; stream = stream_in (chunks L r.state (n + r.read) cs).state })) (told_is (n + r.read) r.answer (plain_calls (2 * length c + 2) st c))

  sound-start : SoundState L fresh
  sound-start = is_sound L (stream_in fresh) (fresh-sound L)

  -- THE READER'S RUN THEOREM. A fresh reader that is handed chunks in order, each to its end: the events given, payload pieces joined and
  -- floats by their bits, are the layout's for the bytes handed; what is heard after each chunk is the layout's verdict for the bytes so
  -- far, a broken message by number 2 at the layout's byte and by no other number; and the reader stands at the end as the layout's
  -- verdict for all the bytes, after no chunk at all too, with all bytes read or, of a broken message, those up to the offending one.
  pub feeds_read : (cs : List (List ℕ)) → All Bytes cs
      → (bytewise (feed_all L (stream_in fresh) 0 cs).events ≡ events_of L (join cs)) × ((feed_all L (stream_in fresh) 0 cs).verdicts ≡ heard_all (verdicts_of L [] cs))
      × (standing (state_of (feed_all L (stream_in fresh) 0 cs).stream) ≡ standing_of (verdict_of L (join cs)))
      × ((feed_all L (stream_in fresh) 0 cs).read ≡ read_of (length (join cs)) (verdict_of L (join cs)))
  feeds_read cs b =
      let e = feed_all_is fresh 0 cs sound-start b in
      let m = reads L cs in (
        ap (λ (r : Run). bytewise r.events) e ∙ m.0,
        ap (λ (r : Run). r.verdicts) e ∙ m.1,
        ap (λ (r : Run). standing (state_of r.stream)) e ∙ ap standing (state_of_stream (chunks L fresh 0 cs).state) ∙ m.2,
        ap (λ (r : Run). r.read) e ∙ m.3,
      )

  -- Payload pieces joined, those are the layout's events,
  pub feeds-joined : (cs : List (List ℕ)) → All Bytes cs → joined (feed_all L (stream_in fresh) 0 cs).events ≡ joined (events_of L (join cs))
  feeds-joined cs b = joined-run L (join cs) (feed_all L (stream_in fresh) 0 cs).events (feeds_read cs b).0

  -- so that two readers of any chunks have given the same events, joined, exactly when the layout's are the same;
  pub feeds_same : (cs ds : List (List ℕ)) → All Bytes cs → All Bytes ds
      → (joined (feed_all L (stream_in fresh) 0 cs).events ≡ joined (feed_all L (stream_in fresh) 0 ds).events) ↔ (events_of L (join cs) ≡ events_of L (join ds))
  feeds_same cs ds b d =
      let i = joined_injective L (join cs) (join ds) in
      (λ e. i.0 (sym (feeds-joined cs b) ∙ e ∙ feeds-joined ds d), λ e. feeds-joined cs b ∙ i.1 e ∙ sym (feeds-joined ds d))

  -- and what is heard at last is the verdict for all the bytes. "No chunk at all, is complete."
  pub feeds_last : (cs : List (List ℕ)) → All Bytes cs → last_heard (status complete) (feed_all L (stream_in fresh) 0 cs).verdicts ≡ heard_of (verdict_of L (join cs))
  feeds_last cs b = ap (last_heard (status complete)) (feeds_read cs b).1 ∙ verdicts_last L cs

  -- ---- any calls

  given_is : (c : List ℕ) (k : ℕ) (a : Said) → Ranged c k a → given_by c (answer_in k a) ≡ given a
  given_is c k (event e) g = ap (λ (x : Event). x ∷ []) (declared_back c (k - covered e) e g)
  given_is c k (verdict v) g = refl
  given_is c k invalid g = refl

  -- after one call more, in whatever words its answer stands
  follow_by : (bs : List ℕ) (es : List Event) (c : List ℕ) (st : State) (f : Given.Fed) → f ≡ fed_in (call L st c) → Bytes c → SoundState L st → Follows L bs es st
      → Follow L (bs ++ take f.read c) (es ++ given_by c f.answer) f.stream
  unfolding fed_in
  follow_by bs es c st f e b h w =
      let r = call L st c in
      let g : given_by c (answer_in r.read r.answer) ≡ given r.answer = given_is c r.read r.answer (call_range st c h b) in
      subst (λ (x : Given.Fed). Follow L (bs ++ take x.read c) (es ++ given_by c x.answer) x.stream) (sym e)
      (record {
        state = r.state;
        is = refl;
        sound = call-sound st c h b;
        follows = subst (λ (l : List Event). Follows L (bs ++ take r.read c) (es ++ l) r.state) (sym g) (call_follows L bs es st c w).follows;
      })

  reached-follow : {bs : List ℕ} {es : List Event} {s : IStream} → Reached L bs es s → Follow L bs es s
  reached-follow start = record { state = fresh; is = refl; sound = sound-start; follows = fresh_follows L }
  reached-follow (called {bs} {es} {s} h c b) =
      let i = reached-follow h in
      follow_by bs es c i.state (fed_of L s c) (ap (λ (x : IStream). fed_of L x c) i.is ∙ fed_is i.state c i.sound) b i.sound i.follows

  -- After any calls on any chunks: the events given, with the one due, are the layout's for the bytes read.
  pub reached_follows : {bs : List ℕ} {es : List Event} {s : IStream} → Reached L bs es s → Follows L bs es (state_of s)
  reached_follows {bs} {es} {s} h =
      let i = reached-follow h in
      subst (Follows L bs es) (sym (ap state_of i.is ∙ state_of_stream i.state)) i.follows

  -- And the reader stands as the layout's verdict for the bytes read, or within a field while an event is due.
  pub reached-standing : {bs : List ℕ} {es : List Event} {s : IStream} → Reached L bs es s → standing (state_of s) ≡ standing_with (due (state_of s)) (verdict_of L bs)
  reached-standing {bs} {es} {s} h = standing_is L bs es (state_of s) (reached_follows h)

  -- What `IStream::status` answers after any calls,
  pub reached_status : {bs : List ℕ} {es : List Event} {s : IStream} → Reached L bs es s → status_of s ≡ standing_in (standing_with (due (state_of s)) (verdict_of L bs))
  unfolding status_of
  reached_status h = ap standing_in (reached-standing h)

  -- and after chunks, each handed in to its end, or none: the layout's verdict for all the bytes.
  pub feeds_status : (cs : List (List ℕ)) → All Bytes cs → status_of (feed_all L (stream_in fresh) 0 cs).stream ≡ standing_in (standing_of (verdict_of L (join cs)))
  unfolding status_of
  feeds_status cs b = ap standing_in (feeds_read cs b).2
