-- `varint::payload_at` meets its contract: the mask is a remainder, and nothing is shifted out.
use Rattle.varint.proofs.Digits.{shifted}
use Rattle.varint.proofs.payload_at.Goals as goal

pub returns : goal.returns
returns c = rw c.from.ensures (shifted c.args.b c.args.k c.requires)
