-- `low_bytes::put_low`: the first bytes of the number's eight, as a block.
use mathlib.Core.Path.{sym, ◌∙◌}
use native.Mathlib.Omega.{arith}
use Rattle.layout.specs.Field.{low_bytes}
use Rattle.low_bytes.proofs.Low.{length_low, first_low, take_low}
use Rattle.low_bytes.proofs.Stores.{stored}
use Rattle.low_bytes.proofs.put_low.Goals as goal

pub returns : goal.returns
returns c =
    let l = length_low c.args.n c.args.x in
    let whole = take_low c.args.n c.args.n c.args.x (omega arith) in
    stored _ _ (low_bytes c.args.n c.args.x) _ _ _ (omega arith) (omega arith) (omega arith) (c.copy_from_slice.ensures.after ∙ first_low c.args.n c.args.x _ c.requires.0 c.to_le_bytes.ensures ∙ sym whole)
