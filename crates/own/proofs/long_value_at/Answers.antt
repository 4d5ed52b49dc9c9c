-- `own::long_value_at` meets its contract: the bytes so far go on, and any number above 0 may follow them.
use mathlib.Core.Path.{sym}
use native.Mathlib.Omega.{arith}
use Rattle.shortest.proofs.Spans.{ends_behind}
use Rattle.own.proofs.Values.{coming_more, coming_value, coming_one}
use Rattle.own.proofs.long_value_at.Goals as goal
use Rattle.own.proofs.long_value_at.Goals.{else-b-eq0-via-then-b-eq0+else-k-gt0, else-b-eq0-via-else-b-eq0}

pub loop-k-preserved : goal.loop-k-preserved
loop-k-preserved c = coming_more c.loop-k.invariant c.loop-k-test.true _ (c.type_inv.t _).fits (sym c.in-More.ensures)

pub returns-else-b-eq0 : goal.returns-else-b-eq0
returns-else-b-eq0 c =
    ends_behind _
    (elim c.else-b-eq0.branch [
      | else-b-eq0-via-then-b-eq0+else-k-gt0 w ↦ coming_one c.loop-k.invariant c.loop-k-test.true _ (sym c.in-Value.ensures) (omega (arith, w.if-k-gt0.false))
      | else-b-eq0-via-else-b-eq0 w ↦ coming_value c.loop-k.invariant c.loop-k-test.true _ (sym c.in-Value.ensures) (omega (arith, w.if-b-eq0.false))
    ])
