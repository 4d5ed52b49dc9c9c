-- `varint::width` meets its contract.
use Rattle.std.proofs.Common.{sym, arith}
use Rattle.varint.proofs.Shortest.{length_one, length-at_most, length_above}
use Rattle.varint.proofs.width.Goals as goal

pub returns-in-0-to-127 : goal.returns-in-0-to-127
returns-in-0-to-127 c = sym (length_one _ (omega arith))

pub returns-in-128-to-16383 : goal.returns-in-128-to-16383
returns-in-128-to-16383 c = omega (arith, length-at_most 2 c.args.v (omega arith) (omega arith), length_above 1 c.args.v (omega arith))
