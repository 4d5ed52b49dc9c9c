-- `held::Held::len`: the lengths of the held headers, summed up.
use Rattle.layout.specs.Limits.{base, longest}
use Rattle.layout.specs.Field.{header, t_begin}
use Rattle.emit.proofs.Elements.{Counted}
use Rattle.held.proofs.Held.len.Given as goal

abbrev pub invariant-loop-id : goal.invariant-loop-id
invariant-loop-id l = Counted (λ id. header id t_begin) (longest base) l.id-items l.len l.id-index
