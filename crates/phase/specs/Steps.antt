-- What a byte comes to, as the machine has it and as this crate's type.
use Rattle.std.specs.Prelude.{ℕ, [], ◌∷◌, length, Option, Some, None}
use Rattle.layout.specs.Limits.{Limits}
use Rattle.layout.specs.Event as layout
use Rattle.machine.specs.Machine as machine
use Rattle.machine.specs.Machine.{on, bad}
use Rattle.machine.specs.Calls.{State, reading, owing, broke, raised_state}
use Rattle.event.specs.Event.{declared}
use Rattle.phase.specs.Phases.{phase_in, phase_of, carried_at, carried_of}
use Rattle.phase.specs.declared.Stepped.{Stepped}
use Rattle.phase.specs.declared.Stepped.TheVariants.{On, Raised}

-- what the machine makes of a byte, as this crate's: the first event, and the state with the second one still due; none of a broken message
abbrev pub stepped : machine.Stepped → Option Stepped
stepped (on [] d p) = Some (On (phase_in p) (carried_at d))
stepped (on (e ∷ es) d p) = Some (Raised (declared 0 e) (phase_of (raised_state d p es)) (carried_of (raised_state d p es)))
stepped bad = None

-- a byte in a state that reads on
abbrev pub step_on : Limits → State → ℕ → machine.Stepped
step_on L (reading d p) b = machine.step L d p b
step_on L (owing d id r) b = bad
step_on L broke b = bad

-- how many bytes of the chunk an event covers
abbrev pub covered : layout.Event → ℕ
covered (layout.Unsigned id n) = 0
covered (layout.Signed id z) = 0
covered (layout.Float id w n) = 0
covered (layout.Piece id r total o bs) = length bs
covered (layout.Fixlen id s n) = 0
covered (layout.Array id k n) = 0
covered (layout.Begin id) = 0
covered layout.End = 0
