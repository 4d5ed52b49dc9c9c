-- `event::fp32` meets its contract: its test is that for NaN patterns.
use lib.Ieee.{binary32}
use Rattle.event.proofs.Bits.{above_nan, below_nan, no_nan}
use Rattle.event.proofs.fp32.Goals as goal

pub float_from_bits-result : goal.float_from_bits-result
float_from_bits-result c = no_nan binary32 c.args.bits c.if-bits-gt2139095040.false

pub returns-then-bits-gt2139095040 : goal.returns-then-bits-gt2139095040
returns-then-bits-gt2139095040 c = simp (above_nan binary32 c.args.bits c.if-bits-gt2139095040.true)

pub returns-else-bits-gt2139095040 : goal.returns-else-bits-gt2139095040
returns-else-bits-gt2139095040 c = simp (below_nan binary32 c.args.bits c.if-bits-gt2139095040.false)
