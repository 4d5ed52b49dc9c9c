-- `read_at_once::signed_at` meets its contract.
use Rattle.std.specs.Prelude.{Some}
use Rattle.layout.specs.Limits.{base}
use Rattle.read_at_once.specs.AtOnce.{raised_of}
use Rattle.read_at_once.proofs.AtOnce.{signed_element}
use Rattle.phase.specs.Phases.{phase_in}
use Rattle.phase.specs.declared.Stepped.TheVariants.{Raised}
use Rattle.event.specs.declared.Event.TheVariants as Events
use Rattle.machine.specs.Machine.{first_or, in_signed}
use mathlib.Core.Path.{◌≡◌, ap, ◌∙◌}
use lib.IntN.{ℤ}
use mir.Syntax.{w64}
use mir.Val.{of_z, to_z}
use Prim.Native.Nat.{ℕ}
use borrow.Author.Rules.{rules}
use Rattle.read_at_once.proofs.signed_at.Goals as goal

pub returns : goal.returns
returns c =
    let z : to_z w64 (of_z w64 c.zigzag_decode.result) ≡ c.zigzag_decode.result = search rules in
    signed_element base c.args.chunk.now c.args.carried.depth c.args.id c.args.left _ _ c.signeds.result c.done.result c.in_ok-v.ensures (c.signeds.ensures ∙ ap (λ (n : ℕ). phase_in (first_or n (λ m. in_signed c.args.id m 0 0))) c.less.ensures) (c.done.ensures ∙ ap (λ (z : ℤ). raised_of c.in_ok-v.n (Some (Raised (Events.Signed c.args.id z) c.signeds.result c.args.carried))) (z ∙ c.zigzag_decode.ensures))
