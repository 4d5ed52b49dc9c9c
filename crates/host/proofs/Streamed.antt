-- What the export writes is what the streaming copier sends, for every list of chunks that join to the message, every buffer and every
-- schedule: both are the message's plain copy.
use mathlib.Core.Path.{◌≡◌, sym, ap, ◌∙◌}
use mathlib.Core.List.{List}
use Prim.Native.Nat.{ℕ}
use Rattle.layout.specs.Limits.{base}
use Rattle.layout.specs.Message.{Verdict, verdict_of}
use Rattle.layout.specs.Copy.{plain_copy}
use Rattle.laws.proofs.Laws.{complete_iff}
use Rattle.copies.specs.Demand.{Whole, Run, output}
use Rattle.copies.proofs.Demand.{demand}
use Rattle.exports.specs.Exports.{filled, copied}

pub as_streamed : (T : List ℕ) → Whole T → (r : Run T) (out : List ℕ) → copied (verdict_of base T) (plain_copy base T) out ≡ filled (output r) out
unfolding copied
as_streamed T w r out =
    ap (λ (v : Verdict). copied v (plain_copy base T) out) ((complete_iff base T w.0).1 w.1) ∙ ap (λ (m : List ℕ). filled m out) (sym (demand.copies T w r))
