-- What is read at once: where a varint stands whole in the chunk, and an answer that is the call's wherever there is one. Only the
-- reader's own code cites these: `feed` has its equation in istream's `Stream`.
use Rattle.std.specs.Prelude.{ℕ, ◌-◌, ◌≤◌, ◌≡◌, true, List, length, drop, Option, Some, None}
use Rattle.layout.specs.Limits.{Limits}
use Rattle.layout.specs.Varint.{push}
use Rattle.layout.specs.Event as layout
use Rattle.machine.specs.Machine.{Phase, Stepped, within, step}
use Rattle.machine.specs.Calls.{State, Called, call, scan, scanned, pace_of, byte, verdict_so}
use Rattle.machine.specs.Calls as calls
use Rattle.event.specs.declared.Event as Given
use Rattle.event.specs.Event.{declared}
use Rattle.phase.specs.declared.Carried.{Carried}
use Rattle.phase.specs.declared.Phase as phases
use Rattle.phase.specs.Phases.{state_at, phase_of, carried_of, sound_phase}
use Rattle.phase.specs.declared.Stepped as given
use Rattle.phase.specs.declared.Stepped.TheVariants.{On, Raised}
use Rattle.phase.specs.Steps.{covered}
use Rattle.read_at_once.specs.declared.Once.{Once}
use Rattle.read_at_once.specs.declared.Once.TheVariants as Onces

-- phases that take a varint at depth d: P within it, k bytes having come to v, and F where its value is known
pub record Varying (L : Limits) (d : ℕ) (P : ℕ → ℕ → Phase) (F : ℕ → Stepped) : Type 0 where
  pub paced : (k v : ℕ) → pace_of (P k v) ≡ byte
  pub steps : (k v b : ℕ) → step L d (P k v) b ≡ within d (push L k v b) P F

-- reading on in the chunk c, after its first n bytes, the last of which came to m
abbrev pub read_on : Limits → List ℕ → ℕ → Stepped → Called
read_on L c n m = scanned n m (λ d p. scan L n d p (drop n c))

-- a varint at a place of the chunk is whole with v, and n is where it ends: whatever takes it reads on there with v
pub record Reads (L : Limits) (c : List ℕ) (at v n : ℕ) : Type 0 where
  pub within-chunk : n ≤ length c
  pub reads : (d : ℕ) (P : ℕ → ℕ → Phase) (F : ℕ → Stepped) → Varying L d P F → scan L at d (P 0 0) (drop at c) ≡ read_on L c n (F v)

-- a call stops at an event after n bytes, in this phase and with this carried along
pub record StopsAt (p : phases.Phase) (k : Carried) (e : Given.Event) (n : ℕ) (c : Called) : Type 0 where
  pub event : layout.Event
  pub answered : c.answer ≡ calls.event event
  pub raised : e ≡ declared (c.read - covered event) event
  pub read : n ≡ c.read
  pub phase : p ≡ phase_of c.state
  pub carried : k ≡ carried_of c.state

-- an answer about some bytes is the call's
abbrev pub Right : Option Once → Called → Type 0
Right (Some (Onces.Done p k e n)) c = StopsAt p k e n c
Right (Some Onces.Spent) c = ⊥
Right None c = Unit

-- nothing is read, and the state stays
abbrev pub spent_at : State → Called
spent_at st = record { read = 0; answer = calls.verdict (verdict_so st); state = st }

-- an answer is the call's, and the phase that it starts from, at depth d, is sound
abbrev pub RightFrom : Limits → ℕ → phases.Phase → Option Once → List ℕ → Type 0
RightFrom L d from (Some (Onces.Done p k e n)) c = (sound_phase L from ≡ true) × StopsAt p k e n (call L (state_at d from) c)
RightFrom L d from (Some Onces.Spent) c = (sound_phase L from ≡ true) × (call L (state_at d from) c ≡ spent_at (state_at d from))
RightFrom L d from None c = Unit

-- the answer of a call that stops at an event
abbrev pub raised_of : ℕ → Option given.Stepped → Option Once
raised_of n (Some (On p k)) = None
raised_of n (Some (Raised e p k)) = Some (Onces.Done p k e n)
raised_of n None = None
