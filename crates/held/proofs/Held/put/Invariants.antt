-- `held::Held::put`: the held headers, one after another.
use lib.ListN.{drop}
use Rattle.layout.specs.Field.{header, each, t_begin}
use Rattle.emit.proofs.Elements.{Owing}
use Rattle.held.proofs.Held.put.Given as goal

abbrev pub invariant-loop-id : goal.invariant-loop-id
invariant-loop-id l = Owing l.initial.cursor l.initial.buf (each (λ id. header id t_begin) l.id-items) l.cursor l.buf (each (λ id. header id t_begin) (drop l.id-index l.id-items))
