-- `host::sofab_drains` meets its contract: a number for each answer.
use native.Mathlib.Omega.{arith}
use mathlib.Core.Path.{◌≡◌, ◌∙◌}
use mir.Syntax.{w64}
use mir.Val.{to_z, of_z}
use Rattle.shortest.proofs.Spans.{all_bytes}
use Rattle.host.proofs.Drains.{drains_small}
use borrow.Author.Rules.{rules}
use Rattle.host.proofs.sofab_drains.Goals as goal

pub drains-requires : goal.drains-requires
drains-requires c =
    drains_small c.args.ticket.now (all_bytes c.args.ticket.now (λ i. (c.type_inv.ticket i).fits)) (omega (arith, c.well_formed.0.1)) _ _ c.drains_of.ensures

pub returns : goal.returns
returns c = let f : to_z w64 (of_z w64 c.drains.result) ≡ c.drains.result = search rules in f ∙ c.drains.ensures _ _ _ c.drains_of.ensures
