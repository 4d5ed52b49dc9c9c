-- `own::fields` meets its contract: whole fields in their shortest form stand before the rest.
use Rattle.layout.specs.Limits.{base}
use Rattle.shortest.proofs.Spans.{here}
use Rattle.own.proofs.Runs.{fields_none}
use Rattle.own.proofs.Parts.{ran_next}
use Rattle.own.proofs.fields.Goals as goal

pub loop-next-init : goal.loop-next-init
loop-next-init c = here _ (fields_none base _)

pub loop-next-preserved : goal.loop-next-preserved
loop-next-preserved c = ran_next c.loop-next.invariant c.in-Some.ensures.1
