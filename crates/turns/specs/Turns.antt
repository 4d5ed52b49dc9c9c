-- What a turn of the loop comes to, and the loop itself: cited by the copier's own code alone. `feed` has its equation in copier's `Calls`.
use Rattle.std.specs.Prelude.{ℕ, ◌+◌, ◌-◌, ◌*◌, ◌<◌, ◌≤◌, ◌≡◌, true, List, [], leb, ltb, length, drop, Result, Ok, Err}
use Rattle.layout.specs.Limits.{base, pick}
use Rattle.machine.specs.Machine.{in_payload, idle}
use Rattle.machine.proofs.Calls.{weight}
use Rattle.types.specs.declared.Error.{Error}
use Rattle.types.specs.declared.RawType.{RawType}
use Rattle.types.specs.Types.{raw_sort}
use Rattle.event.specs.Event.{event_of}
use Rattle.phase.specs.declared.Phase.{Phase}
use Rattle.phase.specs.declared.Phase.TheVariants as phases
use Rattle.phase.specs.Phases.{phase_in}
use Rattle.phase.proofs.Phases.{Live}
use Rattle.istream.specs.declared.IStream.{IStream}
use Rattle.istream.specs.declared.Fed.{Fed}
use Rattle.call_end.specs.declared.Answer as heard
use Rattle.call_end.specs.declared.Answer.TheVariants as answers
use Rattle.call_end.specs.declared.Status.TheVariants.{Incomplete}
use Rattle.istream.specs.Stream.{state_of, stream_in, sound_stream}
use Rattle.putting.specs.Put.{put, reached}
use Rattle.copying.specs.Owed.{nothing}
use Rattle.copying.specs.Copy.{Copy, after, copy}
use Rattle.copying.specs.Copy as copying
use Rattle.owed.specs.declared.Owed.{Owed}
use Rattle.owed.specs.declared.Owed.TheVariants.{Nothing}
use Rattle.owed.specs.Owed.{owe, owed_in, place_in, output_of}
use Rattle.output.specs.Output.{output_bytes}
use Rattle.turns.specs.declared.Answer.{Answer}
use Rattle.turns.specs.declared.Answer.TheVariants.{Full, Status}
use Rattle.turns.specs.declared.Stop.{Stop}
use Rattle.turns.specs.declared.Turn.{Turn}
use Rattle.turns.specs.declared.Turn.TheVariants as turns
use Rattle.turns.specs.Said.{Said, said_of, said_in}

-- ---- between turns

-- the copier where nothing is owed
abbrev pub standing : IStream → ℕ → Copy
standing s pos = record { reader = state_of s; depth = s.carried.depth; pos = pos; owed = nothing }

-- what a call uses, says and leaves, but for the writer's places
pub record Ended : Type 0 where
  pub used : ℕ
  pub said : Said
  pub reader : IStream
  pub depth : ℕ
  pub pos : ℕ
  pub owed : Owed
  pub place : ℕ
  pub buf : List ℕ

-- by the code's stop, and by the definition's call
abbrev pub ended_by : Stop → List ℕ → Ended
ended_by s b = record { used = s.used; said = said_of s.answer; reader = s.reader; depth = s.depth; pos = s.pos; owed = s.owed; place = s.place; buf = b }

abbrev pub ended_in : copying.Copied → Ended
ended_in r =
    record {
      used = r.used;
      said = said_in r.answer;
      reader = stream_in r.copy.reader;
      depth = r.copy.depth;
      pos = r.copy.pos;
      owed = owed_in r.copy.owed;
      place = place_in r.copy.owed;
      buf = r.buf;
    }

-- a stop is what the call comes to
abbrev pub Stops : copying.Copied → Stop → List ℕ → Type 0
Stops r s b = ended_in r ≡ ended_by s b

abbrev pub later : ℕ → Stop → Stop
later n s = record { used = n + s.used; answer = s.answer; reader = s.reader; depth = s.depth; pos = s.pos; owed = s.owed; place = s.place }

-- a stop with nothing owed
abbrev pub pause : ℕ → ℕ → Result Answer Error → IStream → ℕ → Stop
pause d used a s pos = record { used = used; answer = a; reader = s; depth = d; pos = pos; owed = Nothing; place = 0 }

-- ---- an event

abbrev pub full_stop : ℕ → Owed → ℕ → IStream → ℕ → List ℕ → Stop
full_stop d o n s pos b =
    let end = reached b pos (output_bytes (output_of o)) in
    record { used = n; answer = Ok Full; reader = s; depth = d; pos = end; owed = o; place = end - pos }

abbrev pub event_turn : ℕ → Owed → ℕ → IStream → ℕ → List ℕ → Turn
event_turn d o n s pos b =
    pick (leb (length (output_bytes (output_of o))) (length b - pos)) (turns.On s n (reached b pos (output_bytes (output_of o)))) (turns.Stop (full_stop d o n s pos b))

abbrev pub event_buf : Owed → ℕ → List ℕ → List ℕ
event_buf o pos b = put b pos (output_bytes (output_of o))

-- by what the reader answers
abbrev pub turn_by : ℕ → ℕ → Result heard.Answer Error → ℕ → IStream → ℕ → List ℕ → Turn
turn_by d left (Ok (answers.Event e)) n s pos b = event_turn d (owe left (event_of [] e)) n s pos b
turn_by d left (Ok (answers.Status v)) n s pos b = turns.Stop (pause d n (Ok (Status v)) s pos)
turn_by d left (Err e) n s pos b = turns.Stop (pause d n (Err e) s pos)

abbrev pub buf_by : ℕ → Result heard.Answer Error → ℕ → List ℕ → List ℕ
buf_by left (Ok (answers.Event e)) pos b = event_buf (owe left (event_of [] e)) pos b
buf_by left (Ok (answers.Status v)) pos b = b
buf_by left (Err e) pos b = b

abbrev pub heard_turn : ℕ → ℕ → Fed → ℕ → List ℕ → Turn
heard_turn d left f pos b = turn_by d left f.answer f.read f.stream pos b

abbrev pub heard_buf : ℕ → Fed → ℕ → List ℕ → List ℕ
heard_buf left f pos b = buf_by left f.answer pos b

-- a sound reader that goes on
abbrev pub GoesOn : IStream → Type 0
GoesOn s = (sound_stream base s ≡ true) × Live (state_of s)

-- ---- a payload

-- a sound reader within a payload
abbrev pub InPayload : IStream → ℕ → RawType → ℕ → ℕ → Type 0
InPayload s id r total o = (sound_stream base s ≡ true) × (s.phase ≡ phases.Payload id r total o)

-- a payload's phase, n of its bytes later
abbrev pub past_piece : ℕ → RawType → ℕ → ℕ → ℕ → Phase
past_piece id r total o n = phase_in (pick (ltb (o + n) total) (in_payload id (raw_sort r) total (o + n)) idle)

-- what is said where it goes on after n bytes of a chunk of that length
abbrev pub cut_off : ℕ → ℕ → Answer
cut_off n len = pick (ltb n len) Full (Status Incomplete)

-- ---- a turn

-- what was read is out, with n bytes of the chunk: the call goes on from there, nearer to its end
pub record Went (s : IStream) (pos : ℕ) (c b : List ℕ) (s' : IStream) (n pos' : ℕ) (b' : List ℕ) : Type 0 where
  pub same : copy base (standing s pos) c b ≡ after n (copy base (standing s' pos') (drop n c) b')
  pub few : n ≤ length c
  pub nearer : 2 * (length c - n) + weight (state_of s') < 2 * length c + weight (state_of s)
  pub sound : sound_stream base s' ≡ true
  pub live : Live (state_of s')
  pub size : length b' ≡ length b
  pub within : pos ≤ length b → pos' ≤ length b

abbrev pub Turned : IStream → ℕ → List ℕ → List ℕ → Turn → List ℕ → Type 0
Turned s pos c b (turns.On s' n pos') b' = Went s pos c b s' n pos' b'
Turned s pos c b (turns.Stop t) b' = Stops (copy base (standing s pos) c b) t b' × (t.used ≤ length c) × (length b' ≡ length b)

-- the loop
abbrev pub Ran : IStream → ℕ → List ℕ → List ℕ → Stop → List ℕ → Type 0
Ran s pos c b t b' = Stops (copy base (standing s pos) c b) t b'
