-- `write_at_once::put_longer`: one write after another.
use native.Mathlib.Omega.{arith}
use lib.ListN.{length}
use Rattle.at_ease.proofs.AtOnce.{room_for_lem}
use Rattle.write_at_once.proofs.Rows.{second_fits, pair_made}
use Rattle.write_at_once.proofs.put_longer.Goals as goal

pub put_fitting-requires : goal.put_fitting-requires
put_fitting-requires c =
    second_fits c.args.buf.now c.args.pos 0 c.args.header _ _ (room_for_lem (length c.args.buf.now) c.args.pos 0 (omega arith)) c.ranges.header.fits c.put_fitting-mid.ensures

pub returns : goal.returns
returns c =
    pair_made c.args.buf.now c.args.pos 0 c.args.header _ _ (room_for_lem (length c.args.buf.now) c.args.pos 0 (omega arith)) c.ranges.header.fits c.put_fitting-mid.ensures _ _ _ c.put_fitting.ensures
