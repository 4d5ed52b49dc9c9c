-- `read_at_once::unsigned_at` meets its contract.
use Rattle.layout.specs.Limits.{base}
use Rattle.read_at_once.proofs.AtOnce.{unsigned_element}
use Rattle.phase.specs.Phases.{phase_in}
use Rattle.machine.specs.Machine.{first_or, in_unsigned}
use mathlib.Core.Path.{ap, ◌∙◌}
use Prim.Native.Nat.{ℕ}
use Rattle.read_at_once.proofs.unsigned_at.Goals as goal

pub returns : goal.returns
returns c =
    unsigned_element base c.args.chunk.now c.args.carried.depth c.args.id c.args.left _ _ c.unsigneds.result c.done.result c.in_ok-v.ensures (c.unsigneds.ensures ∙ ap (λ (n : ℕ). phase_in (first_or n (λ m. in_unsigned c.args.id m 0 0))) c.less.ensures) c.done.ensures
