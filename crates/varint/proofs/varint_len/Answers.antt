-- `varint::varint_len` meets its contract.
use Rattle.std.proofs.Common.{lit≤}
use Rattle.varint.proofs.Zeros.{width_is}
use Rattle.varint.proofs.varint_len.Goals as goal

pub returns : goal.returns
returns c = width_is 64 c.args.v (lit≤ tt) c.ranges.v.fits
