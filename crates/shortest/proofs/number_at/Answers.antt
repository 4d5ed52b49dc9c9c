-- `shortest::number_at` meets its contract: the bytes so far go on, and any number above 0 may follow them.
use native.Mathlib.Omega.{arith}
use Rattle.shortest.proofs.Spans.{ends_behind}
use Rattle.shortest.proofs.Varints.{going_start, going_more, going_ends, going_one, going_last}
use Rattle.shortest.proofs.number_at.Goals as goal
use Rattle.shortest.proofs.number_at.Goals.{else-b-eq0-via-then-b-eq0+else-k-gt0, else-b-eq0-via-else-b-eq0}

pub loop-k-init : goal.loop-k-init
loop-k-init c = going_start c.args.t.now

pub returns-then-b-eq1 : goal.returns-then-b-eq1
returns-then-b-eq1 c = ends_behind _ (going_last c.loop-k.invariant c.loop-k-test.true c.if-b-eq1.true c.if-k.true)

pub returns-else-b-eq0 : goal.returns-else-b-eq0
returns-else-b-eq0 c =
    ends_behind _
    (elim c.else-b-eq0.branch [
      | else-b-eq0-via-then-b-eq0+else-k-gt0 w ↦ going_one c.loop-k.invariant c.loop-k-test.true c.if-b-lt128.true (omega (arith, w.if-k-gt0.false))
      | else-b-eq0-via-else-b-eq0 w ↦ going_ends c.loop-k.invariant c.loop-k-test.true c.if-b-lt128.true c.if-k.false w.if-b-eq0.false
    ])

pub loop-k-preserved : goal.loop-k-preserved
loop-k-preserved c = going_more c.loop-k.invariant c.loop-k-test.true c.if-b-lt128.false (c.type_inv.t _).fits c.if-k.false
