-- `whole::field_at` meets its contract: a header, and what follows it.
use Rattle.whole.specs.Whole.{Walks}
use Rattle.passing.proofs.Ends.{passed_on}
use Rattle.whole.proofs.Fields.{field_then, field_stops, further}
use Rattle.whole.proofs.field_at.Goals as goal

pub returns-in_err-h : goal.returns-in_err-h
returns-in_err-h g c n k =
    passed_on (Walks g.C.Count.counts _) _ _ c.from_residual.ensures (field_stops c.args.depth n _ _ c.in_err-h.ensures)

pub returns : goal.returns
returns g c n k = further g.C.Count.counts c.body_at.result (field_then c.args.depth n _ c.in_ok-h.ensures) (c.body_at.ensures n k)
