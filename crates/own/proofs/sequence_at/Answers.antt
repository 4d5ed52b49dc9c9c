-- `own::sequence_at` meets its contract.
use mathlib.Core.Path.{sym, ◌∙◌}
use native.Mathlib.Omega.{arith}
use borrow.Author.Tests.{eqb-true}
use Rattle.own.proofs.Parts.{small_open, small_close}
use Rattle.own.proofs.sequence_at.Goals as goal

pub returns-then-h-eq-T_SEQUENCE_START : goal.returns-then-h-eq-T_SEQUENCE_START
returns-then-h-eq-T_SEQUENCE_START c =
    rw c.in_ok-checked_add.ensures.1
    (small_open _ c.args.depth c.in-0-to-127.len_at_least (omega arith) c.if-h-eq-T_SEQUENCE_START.true (omega (arith, c.in_ok-checked_add.ensures.0)))

pub returns-then-is_close : goal.returns-then-is_close
returns-then-is_close c =
    rw c.in_ok-checked_sub.ensures.1
    (small_close _ c.args.depth c.in-0-to-127.len_at_least (sym c.from.ensures ∙ eqb-true _ _ (sym c.if-is_close.ensures)) c.in_ok-checked_sub.ensures.0)
