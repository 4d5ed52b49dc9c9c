-- `own::body_at` meets its contract, type by type.
use mathlib.Core.Path.{sym}
use native.Mathlib.Omega.{arith}
use borrow.Author.Tests.{eqb-true}
use Rattle.layout.specs.Field.{t_fixlen, t_floats}
use Rattle.shortest.proofs.Spans.{ends_as}
use Rattle.own.proofs.Bodies.{with_header}
use Rattle.own.proofs.Parts.{scalar-field, array_field, open_ends, close_ends}
use Rattle.own.proofs.body_at.Goals as goal

pub returns-in_ok-scalar_at-in-0 : goal.returns-in_ok-scalar_at-in-0
returns-in_ok-scalar_at-in-0 c = ends_as c.in_ok-scalar_at-in-0.ensures (λ bs. scalar-field _ c.args.depth bs c.requires (omega arith))

pub returns-in_ok-fixlen_at-in-2 : goal.returns-in_ok-fixlen_at-in-2
returns-in_ok-fixlen_at-in-2 c = ends_as c.in_ok-fixlen_at-in-2.ensures (λ bs. with_header _ c.args.depth t_fixlen bs c.requires (omega (arith, c.in-2.is)))

pub returns-in_ok-array_at-in-3 : goal.returns-in_ok-array_at-in-3
returns-in_ok-array_at-in-3 c = ends_as c.in_ok-array_at-in-3.ensures (λ bs. array_field _ c.args.depth bs c.requires (omega arith) (omega arith))

pub returns-in_ok-float_array_at-in-5 : goal.returns-in_ok-float_array_at-in-5
returns-in_ok-float_array_at-in-5 c = ends_as c.in_ok-float_array_at-in-5.ensures (λ bs. with_header _ c.args.depth t_floats bs c.requires (omega (arith, c.in-5.is)))

pub returns-in_ok-checked_add-in-6 : goal.returns-in_ok-checked_add-in-6
returns-in_ok-checked_add-in-6 c = rw c.in_ok-checked_add-in-6.ensures.1 (open_ends _ _ c.args.depth c.requires (omega (arith, c.in-6.is)) (omega (arith, c.in_ok-checked_add-in-6.ensures.0)))

pub returns-in_ok-checked_sub-in_default : goal.returns-in_ok-checked_sub-in_default
returns-in_ok-checked_sub-in_default c =
    rw c.in_ok-checked_sub-in_default.ensures.1 (close_ends _ _ c.args.depth (eqb-true _ _ (sym c.if-is_close.ensures)) c.in_ok-checked_sub-in_default.ensures.0)
