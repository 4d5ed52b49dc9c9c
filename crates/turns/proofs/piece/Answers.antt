-- `turns::piece`: a payload goes on or ends.
use native.Mathlib.Omega.{arith}
use Rattle.turns.proofs.Pieces.{piece_small, piece-ends, piece_stops}
use Rattle.turns.proofs.Tests.{turned_stop}
use Rattle.turns.proofs.piece.Goals as goal

pub overflow_sub-total : goal.overflow_sub-total
overflow_sub-total c = let p = piece_small c.args.reader c.args.id c.args.r c.args.total c.args.offset c.requires in omega (arith, p.0)

pub returns-then-at-total : goal.returns-then-at-total
returns-then-at-total c = turned_stop _ _ _ _ _ _ _ _ _ _ _ _ c.stopped.ensures c.cut.ensures (piece_stops c.args.reader c.args.id c.args.r c.args.total c.args.offset c.args.pos c.args.rest.now c.args.buf.now c.requires c.min.result c.min-n.result (rw c.saturating_sub.ensures at c.min.ensures) c.min-n.ensures c.put_rest-end.result _ c.put_rest-end.ensures c.if-at-total.true)

pub returns : goal.returns
returns c = piece-ends c.args.reader c.args.id c.args.r c.args.total c.args.offset c.args.pos c.args.rest.now c.args.buf.now c.requires c.min.result c.min-n.result (rw c.saturating_sub.ensures at c.min.ensures) c.min-n.ensures c.put_rest-end.result _ c.put_rest-end.ensures c.if-at-total.false _ c.idle-phase.ensures
