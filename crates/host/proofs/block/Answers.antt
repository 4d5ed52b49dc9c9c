-- `host::block` meets its contract: the message stands from the output's start on, as far as there is room.
use native.Mathlib.Omega.{arith}
use Rattle.host.proofs.Filled.{block_whole, block_start, block_small}
use borrow.Author.Rules.{rules}
use Rattle.host.proofs.block.Goals as goal

pub returns-then-end-ticket : goal.returns-then-end-ticket
returns-then-end-ticket c = block_start _ _ (omega (arith, c.well_formed.1.0.1)) _ _ c.put_rest-end.ensures c.if-end-ticket.true

pub overflow_cast-result : goal.overflow_cast-result
overflow_cast-result c = let h = block_small _ _ (omega (arith, c.well_formed.1.0.1)) _ _ c.put_rest-end.ensures in search rules

pub returns : goal.returns
returns c = block_whole _ _ (omega (arith, c.well_formed.1.0.1)) _ _ c.put_rest-end.ensures c.if-end-ticket.false
