-- What a call comes to: its answer from the machine's, and where a byte leaves it. Of these only `status_in` and `answer_in` stand behind
-- `feed`, which has its equation in istream's `Stream`.
use Rattle.std.specs.Prelude.{ℕ, ◌-◌, Option, Some, None, Result, Ok, Err}
use Rattle.layout.specs.Message.{Verdict, complete, incomplete, broken_at}
use Rattle.machine.specs.Calls.{broke, Called, verdict_so}
use Rattle.machine.specs.Calls as calls
use Rattle.types.specs.declared.Error.{Error}
use Rattle.types.specs.Types.{refusal}
use Rattle.event.specs.Event.{declared}
use Rattle.phase.specs.declared.Carried.{Carried}
use Rattle.phase.specs.declared.Phase.{Phase}
use Rattle.phase.specs.Phases.{state_at, phase_of, carried_of}
use Rattle.phase.specs.Steps.{covered}
use Rattle.phase.specs.declared.Stepped.{Stepped}
use Rattle.phase.specs.declared.Stepped.TheVariants.{On, Raised}
use Rattle.call_end.specs.declared.Status as Statuses
use Rattle.call_end.specs.declared.Status.TheVariants.{Complete, Incomplete}
use Rattle.call_end.specs.declared.Answer.{Answer}
use Rattle.call_end.specs.declared.Answer.TheVariants.{Event, Status}
use Rattle.call_end.specs.declared.CallEnd.{CallEnd}

-- a verdict so far is never broken: a broken reader is refused
abbrev pub status_in : Verdict → Statuses.Status
status_in complete = Complete
status_in incomplete = Incomplete
status_in (broken_at n) = Incomplete

-- the machine's answer after n bytes as this crate's: a piece ends at the bytes read
abbrev pub answer_in : ℕ → calls.Said → Result Answer Error
answer_in n (calls.event e) = Ok (Event (declared (n - covered e) e))
answer_in n (calls.verdict v) = Ok (Status (status_in v))
answer_in n calls.invalid = Err (refusal 2)

unfoldable pub end_in : Called → CallEnd
end_in c = record { read = c.read; answer = answer_in c.read c.answer; phase = phase_of c.state; carried = carried_of c.state }

abbrev pub end_at : ℕ → Result Answer Error → Phase → Carried → CallEnd
end_at n a p k = record { read = n; answer = a; phase = p; carried = k }

-- where a byte leaves a call that has read n: at the chunk's end, at an event, or broken
abbrev pub stopped : ℕ → Option Stepped → CallEnd
stopped n (Some (On p k)) = end_at n (Ok (Status (status_in (verdict_so (state_at k.depth p))))) p k
stopped n (Some (Raised e p k)) = end_at n (Ok (Event e)) p k
stopped n None = end_at n (Err (refusal 2)) (phase_of broke) (carried_of broke)

-- refused: nothing is read and the state stays as it is
abbrev pub refused : ℕ → Phase → Carried → CallEnd
refused e p k = end_at 0 (Err (refusal e)) p k
