-- `event::fp64` meets its contract: its test is that for NaN patterns.
use lib.Ieee.{binary64}
use Rattle.event.proofs.Bits.{above_nan, below_nan, no_nan}
use Rattle.event.proofs.fp64.Goals as goal

pub float_from_bits-result : goal.float_from_bits-result
float_from_bits-result c = no_nan binary64 c.args.bits c.if-bits-gt9218868437227405312.false

pub returns-then-bits-gt9218868437227405312 : goal.returns-then-bits-gt9218868437227405312
returns-then-bits-gt9218868437227405312 c = simp (above_nan binary64 c.args.bits c.if-bits-gt9218868437227405312.true)

pub returns-else-bits-gt9218868437227405312 : goal.returns-else-bits-gt9218868437227405312
returns-else-bits-gt9218868437227405312 c = simp (below_nan binary64 c.args.bits c.if-bits-gt9218868437227405312.false)
