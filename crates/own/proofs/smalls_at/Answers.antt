-- `own::smalls_at` meets its contract: small scalars stand before the rest.
use native.Mathlib.Omega.{arith}
use Rattle.layout.specs.Limits.{base}
use Rattle.shortest.proofs.Spans.{here}
use Rattle.own.proofs.Runs.{fields_none}
use Rattle.own.proofs.Parts.{smalls_next}
use Rattle.own.proofs.smalls_at.Goals as goal

pub loop-rest-init : goal.loop-rest-init
loop-rest-init c = here _ (λ d. fields_none base d)

pub loop-rest-preserved : goal.loop-rest-preserved
loop-rest-preserved c =
    smalls_next c.loop-rest.rest.now c.loop-rest.invariant c.in-0-to-127.len_at_least (omega arith) (omega (arith, c.if-h-le-T_VARINT_SIGNED.true)) (omega arith)
