-- `own::float_array_at` meets its contract.
use Rattle.std.proofs.lemmas.Option.{IfSome_then}
use Prim.Native.Nat.{ℕ, ◌*◌}
use mathlib.Core.Path.{ap, ◌∙◌}
use Rattle.shortest.proofs.Spans.{ends_as}
use Rattle.own.proofs.Parts.{floats_ends}
use Rattle.own.proofs.float_array_at.Goals as goal

pub returns : goal.returns
returns c =
    IfSome_then _ c.jump.ensures
    (λ r j.
    floats_ends c.in_ok-n.ensures (λ k. (c.type_inv.t k).fits) c.in_ok-word.ensures c.in_ok-float_bytes.ensures.float
    (ends_as j (λ bs q. q ∙ ap (λ (x : ℕ). x * c.in_ok-float_bytes.field-0) c.from.ensures)))
