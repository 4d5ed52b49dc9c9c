-- `step::float` meets its contract: the next byte, or the float whole.
use mathlib.Core.Path.{◌≡◌, sym, ap, ◌∙◌, subst}
use Prim.Native.Nat.{ℕ, ◌+◌, ◌*◌, ◌^◌, ◌<◌}
use native.Mathlib.Omega.{arith}
use Rattle.std.specs.Prelude.{Some}
use Rattle.layout.specs.Field.{bytes_of}
use Rattle.layout.specs.Event as layout
use Rattle.machine.specs.Machine.{step, first_or, next_or, in_float}
use Rattle.types.specs.Types.{width}
use Rattle.event.specs.declared.Event.{Event}
use Rattle.event.specs.Event.{declared}
use Rattle.phase.specs.declared.Phase.TheVariants.{Float}
use Rattle.phase.specs.declared.Stepped.TheVariants.{On, Raised}
use Rattle.phase.specs.Phases.{phase_in}
use Rattle.phase.proofs.Phases.{bytes_8, byte_below, next_first}
use Rattle.step.proofs.Steps.{joined_byte, float_more, float_whole}
use Rattle.phase.proofs.Steps.{raised}
use Rattle.step.proofs.float.Goals as goal

pub float_event-requires : goal.float_event-requires
float_event-requires c =
    let e : c.args.k + 1 ≡ bytes_of (width c.args.w) = omega (arith, c.requires.0, c.if-k-bytes.false, c.bytes.ensures) in
    subst (λ (n : ℕ). n < 256 ^ bytes_of (width c.args.w)) (sym (joined_byte c.args.v c.args.b c.args.k (omega (arith, bytes_8 c.args.w, c.requires.0)) c.ranges.b.fits c.requires.1)) (subst (λ (j : ℕ). c.args.v + c.args.b * 256 ^ c.args.k < 256 ^ j) e (byte_below c.args.v c.args.b c.args.k c.ranges.b.fits c.requires.1))

pub returns-then-k-bytes : goal.returns-then-k-bytes
unfolding step
returns-then-k-bytes c =
    ap (λ (x : ℕ). Some (On (Float c.args.id c.args.w c.args.left (c.args.k + 1) x) c.args.carried)) (joined_byte c.args.v c.args.b c.args.k (omega (arith, bytes_8 c.args.w, c.requires.0)) c.ranges.b.fits c.requires.1) ∙ float_more c.args.carried.depth c.args.id c.args.w c.args.left c.args.k _ (subst (λ (n : ℕ). c.args.k + 1 < n) c.bytes.ensures c.if-k-bytes.true)

pub returns-else-k-bytes : goal.returns-else-k-bytes
unfolding step
returns-else-k-bytes c =
    let e = joined_byte c.args.v c.args.b c.args.k (omega (arith, bytes_8 c.args.w, c.requires.0)) c.ranges.b.fits c.requires.1 in
    raised _ _ (c.floats-next.ensures ∙ ap (λ (n : ℕ). phase_in (first_or n (λ m. in_float c.args.id (width c.args.w) m 0 0))) c.less.ensures ∙ ap phase_in (next_first c.args.left (λ m. in_float c.args.id (width c.args.w) m 0 0)))
    ∙ ap (λ (v : Event). Some (Raised v (phase_in (next_or c.args.left (λ m. in_float c.args.id (width c.args.w) m 0 0))) c.args.carried)) (c.float_event.ensures ∙ ap (λ (x : ℕ). declared 0 (layout.Float c.args.id (width c.args.w) x)) e)
    ∙ float_whole c.args.carried.depth c.args.id c.args.w c.args.left c.args.k _ (omega (arith, c.if-k-bytes.false, c.bytes.ensures))
