-- `own::short_value_at` meets its contract.
use mathlib.Core.Path.{◌≡◌, sym, ap, ◌∙◌}
use native.Mathlib.Omega.{arith}
use Prim.Native.Nat.{◌+◌, ◌*◌, ◌%◌}
use lib.ListN.{get_or}
use Rattle.layout.specs.Varint.{shortest}
use Rattle.shortest.proofs.Spans.{ends_as}
use Rattle.own.proofs.Parts.{one_at, two_at}
use Rattle.own.proofs.short_value_at.Goals as goal

pub returns-in-0-to-127 : goal.returns-in-0-to-127
returns-in-0-to-127 c =
    ends_as (one_at c.args.t.now (grind arith) (grind arith)) (λ bs q. (grind (arith, c.from-in-0-to-127.ensures), q ∙ ap shortest (sym c.from-in-0-to-127.ensures)))

pub returns-in-1-to-127 : goal.returns-in-1-to-127
returns-in-1-to-127 c =
    let e : get_or c.args.t.now 0 0 % 128 + get_or c.args.t.now 1 0 * 128 ≡ c.from.result + c.from-in-1-to-127.result * 128 = omega (arith, c.from.ensures, c.from-in-1-to-127.ensures) in
    ends_as (two_at c.args.t.now c.in-1-to-127.len_at_least (omega arith) (c.type_inv.t 0).fits (omega arith) (omega arith)) (λ bs q. (omega arith, q ∙ ap shortest e))
