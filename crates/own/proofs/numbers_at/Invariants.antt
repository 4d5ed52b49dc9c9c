-- `own::numbers_at` meets its contract: so many numbers stand before the rest.
use Rattle.layout.specs.Limits.{base}
use Rattle.shortest.specs.Own.{Numbers, Ends}
use Rattle.own.proofs.numbers_at.Given as goal

abbrev pub invariant-loop-count : goal.invariant-loop-count
invariant-loop-count l = Ends l.t (Numbers base l.count) l.rest
