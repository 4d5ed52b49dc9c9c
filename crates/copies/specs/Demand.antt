-- Demand 3, whole: for every complete message, every list of chunks that join to it, every buffer of one byte or more and every schedule of
-- feeds, drains and refused calls, the bytes sent are the plain copy; and what follows from it. proofs/Demand has one value of `Demand`.
-- In the owner's words T is a ticket and M, the bytes sent, its manifest.
use Rattle.std.specs.Prelude.{ℕ, ◌≤◌, ◌≡◌, ◌⊎◌, ◌↔◌, List, [], ◌∷◌, ◌++◌, length}
use Rattle.layout.specs.Limits.{base}
use Rattle.layout.specs.Event.{Event, joined}
use Rattle.layout.specs.Message.{Bytes, Complete, complete, events_of}
use Rattle.layout.specs.Copy.{plain_copy}
use Rattle.machine.specs.Calls.{fresh, standing}
use Rattle.machine.specs.Calls as calls
use Rattle.machine.specs.Run.{join, verdicts_of, status, heard_all, last_heard}
use Rattle.istream.specs.Stream.{state_of, stream_in}
use Rattle.reading.specs.Feeds.{feed_all}
use Rattle.copier.specs.Calls.{taken, started}
use Rattle.copies.specs.Desk.{Desk, start, Act, drain, act, acts, Allowed}
use Rattle.copies.specs.Stands.{goings, enough, turns}

-- "A ticket is complete when it is whole fields, none broken, ending at depth 0." It is a byte string.
abbrev pub Whole : List ℕ → Type 0
Whole T = Bytes T × Complete base T

-- "Its events are the layout's, each payload's pieces joined." Floats are in them by their bits.
abbrev pub events : List ℕ → List Event
events T = joined (events_of base T)

-- A run of the copier over T: "every list of chunks, empty ones too, that join to T, and every buffer of one byte or more, whatever stood in
-- it: a fresh copier, opened at offset 0, is handed the chunks in order and drained whenever full and at the end, with more drains, and the
-- refused calls that 01 allows, anywhere between". Feeds hand on the chunks, each through every "full" to its verdict (Desk), until none
-- is left; another buffer may be lent between, too.
pub record Run (T : List ℕ) : Type 0 where
  pub chunks : List (List ℕ)
  pub joins : join chunks ≡ T
  pub buf : List ℕ
  pub room : 1 ≤ length buf
  pub schedule : List Act
  pub allowed : Allowed schedule (start buf chunks)
  pub finished : (acts schedule (start buf chunks)).chunks ≡ []

-- the desk once every chunk has its verdict
abbrev pub after : {T : List ℕ} → Run T → Desk
after r = acts r.schedule (start r.buf r.chunks)

-- M: "the last drain sends the rest"
abbrev pub output : {T : List ℕ} → Run T → List ℕ
output r = (act drain (after r)).sent

-- Chunks that the reader's own calls read as complete, with these events, pieces joined; no chunk at all too.
pub record ReadAs (cs : List (List ℕ)) (es : List Event) : Type 0 where
  pub events : joined (feed_all base (stream_in fresh) 0 cs).events ≡ es
  pub said : last_heard (status complete) (feed_all base (stream_in fresh) 0 cs).verdicts ≡ status complete
  pub stands : standing (state_of (feed_all base (stream_in fresh) 0 cs).stream) ≡ calls.Standing.complete

pub record Demand : Type 0 where
  -- the opening is not refused
  pub opens : (b : List ℕ) → 1 ≤ length b → (started (length b) 0).opens ≡ taken
  -- "Calling on so always ends": any schedule that has fed often enough has finished, whatever the bytes,
  pub ends : (b : List ℕ) (cs : List (List ℕ)) (as' : List Act) → 1 ≤ length b → Bytes (join cs) → Allowed as' (start b cs) → enough cs ≤ goings as' (start b cs)
      → (acts as' (start b cs)).chunks ≡ []
  -- and from any schedule on, a drain and then feed and drain in turn finish.
  pub goes : (b : List ℕ) (cs : List (List ℕ)) (as' : List Act) (n : ℕ) → 1 ≤ length b → Bytes (join cs) → Allowed as' (start b cs) → enough cs ≤ n
      → Allowed (as' ++ (drain ∷ turns n)) (start b cs) × ((acts (as' ++ (drain ∷ turns n)) (start b cs)).chunks ≡ [])
  -- "in the layout's verdict after that chunk"
  pub says : (T : List ℕ) → Whole T → (r : Run T) → (after r).heard ≡ heard_all (verdicts_of base [] r.chunks)
  -- "Then the bytes sent, the manifest M, equal the plain copy of T that 01 defines, so they are the same for all cuts, buffers and drains."
  pub copies : (T : List ℕ) → Whole T → (r : Run T) → output r ≡ plain_copy base T
  -- "T and M, in whatever chunks, are read as complete with the same events (payload pieces joined, floats compared by bits);"
  pub reads : (T : List ℕ) → Whole T → (r : Run T) (cs : List (List ℕ)) → (join cs ≡ T) ⊎ (join cs ≡ output r) → ReadAs cs (events T)
  -- "M's own manifest is M;"
  pub again : (T : List ℕ) → Whole T → (r : Run T) (s : Run (output r)) → output s ≡ output r
  -- "every complete ticket with those events has at least as many bytes as M;"
  pub shortest : (T : List ℕ) → Whole T → (r : Run T) (U : List ℕ) → Whole U → events U ≡ events T → length (output r) ≤ length U
  -- "and any two complete tickets have equal manifests exactly when their events are equal."
  pub exactly : (T U : List ℕ) → Whole T → Whole U → (r : Run T) (s : Run U) → (output r ≡ output s) ↔ (events T ≡ events U)
