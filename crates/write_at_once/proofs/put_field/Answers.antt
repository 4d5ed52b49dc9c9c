-- `write_at_once::put_field`: the tests, then one write after another.
use native.Mathlib.Omega.{arith}
use lib.ListN.{length}
use Rattle.at_ease.proofs.AtOnce.{has_room, passes, roomy, made}
use Rattle.write_at_once.proofs.Rows.{second_fits, rest-fits, row_made}
use Rattle.write_at_once.proofs.put_field.Goals as goal

pub put_fitting-mid-requires : goal.put_fitting-mid-requires
put_fitting-mid-requires c = let h = has_room _ _ _ (roomy _ _ _ (length c.args.bytes.now) c.args.places c.is_roomy.ensures c.if-not-is_roomy.false-raw) in omega arith

pub put_fitting-end-requires : goal.put_fitting-end-requires
put_fitting-end-requires c =
    second_fits c.args.buf.now c.args.pos (length c.args.bytes.now) c.args.header _ _ (roomy _ _ _ (length c.args.bytes.now) c.args.places c.is_roomy.ensures c.if-not-is_roomy.false-raw) c.ranges.header.fits c.put_fitting-mid.ensures

pub put_all-requires : goal.put_all-requires
put_all-requires c =
    rest-fits c.args.buf.now c.args.pos (length c.args.bytes.now) c.args.header _ _ (roomy _ _ _ (length c.args.bytes.now) c.args.places c.is_roomy.ensures c.if-not-is_roomy.false-raw) c.ranges.header.fits c.put_fitting-mid.ensures c.args.second _ _ c.ranges.second.fits c.put_fitting-end.ensures

pub returns : goal.returns
returns c =
    made _ _ _ _ _ _ (passes _ _ c.is_roomy.ensures c.if-not-is_roomy.false-raw) (row_made c.args.buf.now c.args.pos (length c.args.bytes.now) c.args.header _ _ (roomy _ _ _ (length c.args.bytes.now) c.args.places c.is_roomy.ensures c.if-not-is_roomy.false-raw) c.ranges.header.fits c.put_fitting-mid.ensures c.args.second _ _ c.ranges.second.fits c.put_fitting-end.ensures _ _ _ c.put_all.ensures)
