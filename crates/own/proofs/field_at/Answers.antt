-- `own::field_at` meets its contract.
use Rattle.std.proofs.lemmas.Option.{IfSome_then}
use Rattle.own.proofs.Parts.{further}
use Rattle.own.proofs.field_at.Goals as goal

pub returns : goal.returns
returns c = IfSome_then _ c.body_at.ensures (λ r e. further _ _ _ c.in_ok-h.ensures e)
