-- `write_at_once::put_pair`: the test, then two bytes, or one write after another.
use native.Mathlib.Omega.{arith}
use Rattle.at_ease.proofs.AtOnce.{has_room, roomy}
use Rattle.write_at_once.proofs.put_pair.Goals as goal

pub put_two-requires : goal.put_two-requires
put_two-requires c = let h = has_room _ _ _ (roomy _ _ _ 0 c.args.places c.is_roomy.ensures c.if-not-is_roomy.false-raw) in omega arith
