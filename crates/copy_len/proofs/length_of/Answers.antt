-- `copy_len::length_of` meets its contract: the message is complete where the walk ends.
use native.Mathlib.Omega.{arith}
use Rattle.shortest.proofs.Spans.{all_bytes}
use Rattle.copy_len.proofs.Fields.{length_told}
use Rattle.copy_len.proofs.length_of.Goals as goal

pub returns : goal.returns
returns c = length_told _ (all_bytes _ (λ i. (c.type_inv.message i).fits)) (omega (arith, c.well_formed.0.0)) c.in_ok-len.ensures
