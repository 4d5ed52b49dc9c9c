-- A series of writes as its caller makes it: opened over a buffer, each call carried on from its place through every "full", a refused
-- one passed over, over any buffers, with drains, buffer changes and refused calls anywhere. The caller stores what each call returns.
use Rattle.std.specs.Prelude.{ℕ, zero, suc, ◌≤◌, ◌<◌, ◌≡◌, Bool, true, false, ◌&&◌, ◌||◌, List, [], ◌∷◌, ◌++◌, ltb, length, take, drop, Result, Ok, Err}
use Rattle.layout.specs.Limits.{pick}
use Rattle.types.specs.Types.{number_of}
use Rattle.ostream.specs.declared.OStream.{OStream}
use Rattle.ostream.specs.declared.Answer.{Answer}
use Rattle.ostream.specs.declared.Answer.TheVariants.{Done, Full}
use Rattle.types.specs.declared.Error.{Error}
use Rattle.ostream.specs.Stream.{at, sound_stream, lazy_depth}
use Rattle.ostream.specs.Emission as calls
use Rattle.ostream.specs.Emission.{Test, Judgement, accepted, refused_with, judged, Call, through, full, number, said_of, written}
use Rattle.ostream.specs.Buffer.{opening, draining, changing}

-- ---- a write

-- a state that a call leaves over a buffer of this length: sound, with its eight places
abbrev pub Able : OStream → ℕ → Type 0
Able s size = (sound_stream s size ≡ true) × (length s.pending ≡ lazy_depth)

-- what a writing call tests, puts out and leaves, from any state
pub record Op : Type 0 where
  pub tests : OStream → ℕ → List Test
  pub output : OStream → List ℕ
  pub done : OStream → OStream

abbrev pub call_of : Op → OStream → ℕ → Call
call_of op s size = record { tests = op.tests s size; output = op.output s; done = op.done s }

-- What its tests say where it stands. The buffer is one that ends at the position: by `Steady`, any other that holds the position is as good.
abbrev pub judgement : Op → OStream → Judgement
judgement op s = judged (op.tests s s.offset)

-- what it puts out and leaves there, and its number where it is refused: "state and buffer unaltered"
abbrev pub output_by : Judgement → Op → OStream → List ℕ
output_by accepted op s = op.output s
output_by (refused_with e) op s = []

abbrev pub done_by : Judgement → Op → OStream → OStream
done_by accepted op s = op.done s
done_by (refused_with e) op s = s

abbrev pub numbers_by : Judgement → List ℕ
numbers_by accepted = []
numbers_by (refused_with e) = number_of e ∷ []

-- It looks at depth and held ids, and at the position only to see that it lies in the buffer; and it leaves a sound state sound.
pub record Steady (op : Op) : Type 0 where
  pub tests : (s : OStream) (p size : ℕ) → p ≤ size → judged (op.tests (at s p) size) ≡ judgement op s
  pub outputs : (s : OStream) (p : ℕ) → op.output (at s p) ≡ op.output s
  pub leaves : (s : OStream) (p q : ℕ) → at (op.done (at s p)) q ≡ at (op.done s) q
  pub sound : (s : OStream) (size p q : ℕ) → Able s size → judgement op s ≡ accepted → p ≤ q → Able (at (op.done s) p) q

-- The whole output of some writes, one after another, those that are refused passed over; the numbers of these; and the state that is left.
unfoldable pub outputs : OStream → List Op → List ℕ
outputs s [] = []
outputs s (op ∷ ops) = output_by (judgement op s) op s ++ outputs (done_by (judgement op s) op s) ops

unfoldable pub refusals : OStream → List Op → List ℕ
refusals s [] = []
refusals s (op ∷ ops) = numbers_by (judgement op s) ++ refusals (done_by (judgement op s) op s) ops

unfoldable pub finally : OStream → List Op → OStream
finally s [] = s
finally s (op ∷ ops) = finally (done_by (judgement op s) op s) ops

-- ---- the caller's side

-- The writer and its buffer, of which the first bytes, `reserved` as they came, are no message's; the bytes sent, without those that were
-- reserved, and what each transfer sent, with them; the writes to be made, of which the first goes on from `place`; whether it answered
-- "full" and no other buffer was lent since; the drains counted, those at "full" and the last one, where it has a byte to send; the
-- numbers of the writes that were refused, and those of all other calls that were.
pub record Desk : Type 0 where
  pub stream : OStream
  pub buf : List ℕ
  pub reserved : List ℕ
  pub sent : List ℕ
  pub transfers : List (List ℕ)
  pub ops : List Op
  pub place : ℕ
  pub full : Bool
  pub drains : ℕ
  pub refused : List ℕ
  pub others : List ℕ

-- the number that a call refuses with
abbrev pub numbers_in : calls.Said → List ℕ
numbers_in through = []
numbers_in (full p) = []
numbers_in (number n) = n ∷ []

abbrev pub numbers_of : Result ℕ Error → List ℕ
numbers_of (Ok n) = []
numbers_of (Err e) = number_of e ∷ []

-- a call with another buffer than the one lent
pub data Other : Type 0 where
  writes : (op : Op) (buf : List ℕ) (place : ℕ) → Other
  drains : (buf : List ℕ) → Other
  changes : (old new : List ℕ) (offset : ℕ) (drained : Bool) → Other

-- The next write or the one to go on with; a drain; a buffer change; another write, over the lent buffer; a call with another buffer.
pub data Act : Type 0 where
  write drain : Act
  change : (buf : List ℕ) (offset : ℕ) (drained : Bool) → Act
  aside : (op : Op) (place : ℕ) → Act
  other : Other → Act

-- ---- what a call's answer does

-- after a call of the series: the state and the buffer that it returns, the writes left, the place, whether it is full, its number
abbrev pub after : Desk → OStream → List ℕ → List Op → ℕ → Bool → List ℕ → Desk
after d s b ops place isFull numbers =
    record {
      stream = s;
      buf = b;
      reserved = d.reserved;
      sent = d.sent;
      transfers = d.transfers;
      ops = ops;
      place = place;
      full = isFull;
      drains = d.drains;
      refused = d.refused ++ numbers;
      others = d.others;
    }

abbrev pub wrote : Desk → List Op → calls.Said → OStream → List ℕ → Desk
wrote d rest through s b = after d s b rest 0 false []
wrote d rest (full p) s b = after d s b d.ops p true []
wrote d rest (number n) s b = after d s b rest 0 false (n ∷ [])

-- after a call beside the series: the state and the buffer that it returns, and its number
abbrev pub beside : Desk → OStream → List ℕ → List ℕ → Desk
beside d s b numbers =
    record {
      stream = s;
      buf = b;
      reserved = d.reserved;
      sent = d.sent;
      transfers = d.transfers;
      ops = d.ops;
      place = d.place;
      full = d.full;
      drains = d.drains;
      refused = d.refused;
      others = d.others ++ numbers;
    }

abbrev pub none : List Op → Bool
none [] = true
none (op ∷ ops) = false

-- whether a drain counts
abbrev pub counts : Desk → Bool
counts d = d.full || (none d.ops && ltb 0 d.stream.offset)

-- As many bytes of the buffer as were answered are sent, and another is lent with some of its bytes reserved.
abbrev pub sending : Desk → Result ℕ Error → OStream → List ℕ → List ℕ → Desk
sending d (Ok n) s b reserved =
    record {
      stream = s;
      buf = b;
      reserved = reserved;
      sent = d.sent ++ drop (length d.reserved) (take n d.buf);
      transfers = d.transfers ++ (take n d.buf ∷ []);
      ops = d.ops;
      place = d.place;
      full = false;
      drains = pick (counts d) (suc d.drains) d.drains;
      refused = d.refused;
      others = d.others;
    }
sending d (Err e) s b reserved = beside d s d.buf (number_of e ∷ [])

-- ---- the acts

unfoldable pub writing : Desk → List Op → Desk
writing d [] = d
writing d (op ∷ rest) =
    let r = written (call_of op d.stream (length d.buf)) d.stream d.buf d.place in
    wrote d rest r.said r.stream r.buf

-- what a call with another buffer answers, as far as it is a refusal, and the state that it returns
pub record Returned : Type 0 where
  pub numbers : List ℕ
  pub stream : OStream

abbrev pub returned : Other → OStream → Returned
returned (writes op b place) s = let r = written (call_of op s (length b)) s b place in record { numbers = numbers_in r.said; stream = r.stream }
returned (drains b) s = let r = draining s (length b) in record { numbers = numbers_of r.answer; stream = r.stream }
returned (changes old new o drained) s = let r = changing s (length old) (length new) o drained in record { numbers = numbers_of r.answer; stream = r.stream }

unfoldable pub act : Act → Desk → Desk
act write d = writing d d.ops
act drain d = let r = draining d.stream (length d.buf) in sending d r.answer r.stream d.buf []
act (change b o drained) d = let r = changing d.stream (length d.buf) (length b) o drained in sending d r.answer r.stream b (take o b)
act (aside op place) d =
    let r = written (call_of op d.stream (length d.buf)) d.stream d.buf place in
    beside d r.stream r.buf (numbers_in r.said)
act (other x) d = let r = returned x d.stream in beside d r.stream d.buf r.numbers

unfoldable pub acts : List Act → Desk → Desk
acts [] d = d
acts (a ∷ as') d = acts as' (act a d)

-- Calls beside the series are those that are refused, with whatever number: "calls refused with 5 or 6 for another buffer, may stand
-- anywhere". One that isn't refused is the caller's own affair.
abbrev pub Refusal : List ℕ → Type 0
Refusal numbers = (n : ℕ) × (numbers ≡ n ∷ [])

unfoldable pub Allowed : Act → Desk → Type 0
Allowed write d = Unit {0}
Allowed drain d = Unit {0}
Allowed (change b o drained) d = Unit {0}
Allowed (aside op place) d = Refusal (numbers_in (written (call_of op d.stream (length d.buf)) d.stream d.buf place).said)
Allowed (other x) d = Refusal (returned x d.stream).numbers

unfoldable pub Lawful : List Act → Desk → Type 0
Lawful [] d = Unit {0}
Lawful (a ∷ as') d = Allowed a d × Lawful as' (act a d)

-- "Every buffer lent has at least one byte and starts at offset 0".
abbrev pub Plain : Act → Type 0
Plain write = Unit {0}
Plain drain = Unit {0}
Plain (change b o drained) = (1 ≤ length b) × (o ≡ 0)
Plain (aside op place) = Unit {0}
Plain (other x) = Unit {0}

-- No other buffer is lent.
abbrev pub Stays : Act → Type 0
Stays write = Unit {0}
Stays drain = Unit {0}
Stays (change b o drained) = ⊥
Stays (aside op place) = Unit {0}
Stays (other x) = Unit {0}

-- ---- from the opening to the end

-- the bytes that an opening reserves: none where it is refused, which leaves a writer at 0
abbrev pub reserved_by : Result Answer Error → List ℕ → ℕ → List ℕ
reserved_by (Ok Done) b o = take o b
reserved_by (Ok (Full p)) b o = []
reserved_by (Err e) b o = []

-- a writer that has sent nothing yet
abbrev pub fresh : OStream → List ℕ → List ℕ → List Op → List ℕ → Desk
fresh s b reserved ops numbers =
    record {
      stream = s;
      buf = b;
      reserved = reserved;
      sent = [];
      transfers = [];
      ops = ops;
      place = 0;
      full = false;
      drains = 0;
      refused = [];
      others = numbers;
    }

-- A series begins with an opening, taken or refused with 5; of one refused, the state that it returns is stored as well.
unfoldable pub begun : List ℕ → ℕ → Bool → List Op → Desk
begun b o drained ops = let r = opening (length b) o drained in fresh r.stream b (reserved_by r.answer b o) ops (numbers_in (said_of r.answer))

-- What a caller may do at "full": a drain, or another buffer lent with a byte free.
abbrev pub Frees : Act → Type 0
Frees write = ⊥
Frees drain = Unit {0}
Frees (change b o drained) = o < length b
Frees (aside op place) = ⊥
Frees (other x) = ⊥

-- "Calling again with that place goes on", and "a sink drains there": at "full" what the sink does, else the next call.
abbrev pub next : (Desk → Act) → Desk → Act
next sink d = pick d.full (sink d) write

-- Carrying on for a number of turns comes to the desk where no write is left; where the turns run out before, it is under way.
pub data Ending : Type 0 where
  ended : Desk → Ending
  unfinished : Ending

unfoldable pub carried : (Desk → Act) → ℕ → Desk → Ending
carried sink zero d = unfinished
carried sink (suc n) d = elim (none d.ops) [ true ↦ ended d | false ↦ carried sink n (act (next sink d) d) ]

-- n turns are enough to come to the end e, and more change nothing
pub record Ends (sink : Desk → Act) (n : ℕ) (d e : Desk) : Type 0 where
  pub enough : (m : ℕ) → n ≤ m → carried sink m d ≡ ended e
  pub no_more : e.ops ≡ []

-- transfers joined
unfoldable pub join : List (List ℕ) → List ℕ
join [] = []
join (x ∷ xs) = x ++ join xs
