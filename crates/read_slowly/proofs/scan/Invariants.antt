-- `read_slowly::scan` meets its contract: each turn, the call is what reading on from the state reached comes to.
use mathlib.Core.Path.{◌≡◌}
use lib.ListN.{drop}
use Rattle.layout.specs.Limits.{base}
use Rattle.machine.specs.Calls.{call}
use Rattle.phase.specs.Phases.{state_at}
use Rattle.phase.specs.Sound.{AtBytes}
use Rattle.read_slowly.proofs.Calls.{scan_on}
use Rattle.read_slowly.proofs.scan.Given as goal

abbrev pub invariant-loop-n : goal.invariant-loop-n
invariant-loop-n l = AtBytes base (state_at l.carried.depth l.phase) × (call base (state_at l.initial.carried.depth l.initial.phase) l.chunk ≡ scan_on base l.n (state_at l.carried.depth l.phase) (drop l.n l.chunk))
