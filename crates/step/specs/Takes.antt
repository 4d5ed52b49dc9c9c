-- A varint's byte, whatever takes the varint. Only private functions cite this: `step` has its equation in the machine's words.
use Rattle.std.specs.Prelude.{ℕ, ◌^◌, ◌<◌, ◌≡◌, Option}
use Rattle.layout.specs.Limits.{base}
use Rattle.layout.specs.Varint.{push}
use Rattle.machine.specs.Machine as machine
use Rattle.machine.specs.Machine.{within}
use Rattle.varint.specs.declared.Acc.{Acc}
use Rattle.phase.specs.declared.Phase.{Phase}
use Rattle.phase.specs.declared.Stepped.{Stepped}
use Rattle.phase.specs.Phases.{phase_in}
use Rattle.phase.specs.Steps.{stepped}

-- where `more` makes the machine's phase P of a longer varint, and `whole` the machine's F of a value, r is what the byte comes to
abbrev pub Takes : (Acc → Phase → Type 0) → (ℕ → Option Stepped → Type 0) → ℕ → Acc → ℕ → Option Stepped → Type 0
Takes more whole d a b r =
    (P : ℕ → ℕ → machine.Phase) (F : ℕ → machine.Stepped)
    → ((x : Acc) (q : Phase) → more x q → q ≡ phase_in (P x.taken x.value))
    → ((v : ℕ) (q : Option Stepped) → v < 2 ^ 64 → whole v q → q ≡ stepped (F v))
    → r ≡ stepped (within d (push base a.taken a.value b) P F)
