-- `own::number_at` meets its contract.
use native.Mathlib.Omega.{arith}
use Rattle.shortest.proofs.Spans.{ends_as}
use Rattle.own.proofs.Parts.{one_at, two_at}
use Rattle.own.proofs.number_at.Goals as goal

pub returns-in-0-to-127 : goal.returns-in-0-to-127
returns-in-0-to-127 c = ends_as (one_at c.args.t.now (grind arith) (grind arith)) (λ bs q. (_, grind arith, q))

pub returns-in-1-to-127 : goal.returns-in-1-to-127
returns-in-1-to-127 c =
    ends_as (two_at c.args.t.now c.in-1-to-127.len_at_least (omega arith) (c.type_inv.t 0).fits (omega arith) (omega arith)) (λ bs q. (_, omega arith, q))
