-- `write_at_once::put_integers`: the tests, then one write after another.
use native.Mathlib.Omega.{arith}
use lib.ListN.{length}
use Rattle.elements.specs.OutAfter.{elements_most}
use Rattle.at_ease.proofs.AtOnce.{has_room, passes, roomy}
use Rattle.write_at_once.proofs.Rows.{second_fits, rest-fits, array_made}
use Rattle.write_at_once.proofs.put_integers.Goals as goal

pub put_fitting-mid-requires : goal.put_fitting-mid-requires
put_fitting-mid-requires g c = let h = has_room _ _ _ (roomy _ _ _ (elements_most (length c.args.items.now)) c.args.places c.is_roomy.ensures c.if-not-is_roomy.false-raw) in omega arith

pub put_fitting-at-requires : goal.put_fitting-at-requires
put_fitting-at-requires g c =
    second_fits c.args.buf.now c.args.pos (elements_most (length c.args.items.now)) c.args.header _ _ (roomy _ _ _ (elements_most (length c.args.items.now)) c.args.places c.is_roomy.ensures c.if-not-is_roomy.false-raw) c.ranges.header.fits c.put_fitting-mid.ensures

pub put_fittings-requires : goal.put_fittings-requires
put_fittings-requires g c =
    rest-fits c.args.buf.now c.args.pos (elements_most (length c.args.items.now)) c.args.header _ _ (roomy _ _ _ (elements_most (length c.args.items.now)) c.args.places c.is_roomy.ensures c.if-not-is_roomy.false-raw) c.ranges.header.fits c.put_fitting-mid.ensures (length c.args.items.now) _ _ (omega arith) c.put_fitting-at.ensures

pub returns : goal.returns
returns g c =
    array_made c.args.buf.now c.args.pos (elements_most (length c.args.items.now)) c.args.header _ _ (roomy _ _ _ (elements_most (length c.args.items.now)) c.args.places c.is_roomy.ensures c.if-not-is_roomy.false-raw) c.ranges.header.fits c.put_fitting-mid.ensures (length c.args.items.now) _ _ (omega arith) c.put_fitting-at.ensures _ (passes _ _ c.is_roomy.ensures c.if-not-is_roomy.false-raw) _ _ _ c.put_fittings.ensures
