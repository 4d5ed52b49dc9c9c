-- `event::fp64_bits` meets its contract: every NaN has the same bits.
use mathlib.Core.Path.{sym, ◌∙◌}
use lib.Ieee.{binary64, to_bits}
use Rattle.event.proofs.Bits.{bits_of_nan}
use Rattle.event.proofs.fp64_bits.Goals as goal

pub returns-then-is_nan : goal.returns-then-is_nan
unfolding to_bits
returns-then-is_nan c = bits_of_nan binary64 c.args.x (sym c.is_nan.ensures.value ∙ c.if-is_nan.true)
