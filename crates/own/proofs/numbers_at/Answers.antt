-- `own::numbers_at` meets its contract: so many numbers stand before the rest.
use Rattle.layout.specs.Limits.{base}
use Rattle.shortest.proofs.Spans.{here}
use Rattle.own.proofs.Runs.{numbers_none}
use Rattle.own.proofs.Parts.{numbers_next}
use Rattle.own.proofs.numbers_at.Goals as goal

pub loop-count-init : goal.loop-count-init
loop-count-init c = here _ (numbers_none base)

pub loop-count-preserved : goal.loop-count-preserved
loop-count-preserved c = numbers_next c.loop-count.invariant c.in-Some.ensures
