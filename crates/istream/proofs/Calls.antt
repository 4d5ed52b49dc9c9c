-- The reader's state as the machine's, there and back.
use mathlib.Core.Path.{◌≡◌, refl, ap}
use Prim.Native.Nat.{ℕ}
use Rattle.machine.specs.Calls.{State, reading, owing, broke}
use Rattle.phase.specs.declared.Phase.{Phase}
use Rattle.phase.specs.Phases.{state_at, carried_at}
use Rattle.phase.proofs.Phases.{sort_back, state_back, Live, phase_back, depth_back}
use Rattle.istream.specs.Stream.{state_of, stream_in}

pub state_of_stream : (st : State) → state_of (stream_in st) ≡ st
state_of_stream (reading d p) = state_back d p
state_of_stream (owing d id r) = ap (owing d id) (sort_back r)
state_of_stream broke = refl

pub stream_back : (d : ℕ) (p : Phase) → Live (state_at d p) → stream_in (state_at d p) ≡ record { phase = p; carried = carried_at d }
stream_back d p l = λ i. record { phase = phase_back d p l i; carried = carried_at (depth_back d p l i) }
