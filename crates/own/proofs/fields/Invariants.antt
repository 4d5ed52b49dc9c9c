-- `own::fields` meets its contract: whole fields in their shortest form stand before the rest.
use lib.ListN.{length}
use Rattle.layout.specs.Limits.{base}
use Rattle.shortest.specs.Own.{OwnFields, Ends}
use Rattle.own.proofs.fields.Given as goal

abbrev pub invariant-loop-next : goal.invariant-loop-next
invariant-loop-next l = Ends l.bytes (λ bs. OwnFields base l.fn.depth bs l.reached) l.rest

abbrev pub decreases-loop-next : goal.decreases-loop-next
decreases-loop-next l = length l.rest
