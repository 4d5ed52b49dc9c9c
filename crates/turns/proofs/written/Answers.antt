-- `turns::written`: the event fits or fills the buffer.
use native.Mathlib.Omega.{arith}
use lib.ListN.{drop}
use Rattle.output.specs.Output.{output_bytes}
use Rattle.putting.proofs.Writes.{reached_is}
use Rattle.turns.proofs.written.Goals as goal

pub overflow_sub-result : goal.overflow_sub-result
overflow_sub-result c = let r = reached_is c.args.buf.now c.args.pos (drop 0 (output_bytes c.output-output.result)) in omega arith

pub overflow_cast-result-then-room-len : goal.overflow_cast-result-then-room-len
overflow_cast-result-then-room-len c = let r = reached_is c.args.buf.now c.args.pos (drop 0 (output_bytes c.output-output.result)) in record { fits = omega (arith, c.len-len.ensures.0, c.len-len.ensures.1) }
