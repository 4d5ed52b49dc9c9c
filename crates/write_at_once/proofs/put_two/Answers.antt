-- `write_at_once::put_two`: one byte after another, or one write after another.
use Prim.Native.Nat.{◌+◌}
use native.Mathlib.Omega.{arith}
use lib.ListN.{length, length-set, set}
use Rattle.varint_bytes.proofs.Digits.{one_byte}
use Rattle.at_ease.proofs.AtOnce.{room_for_lem}
use Rattle.write_at_once.proofs.Rows.{pair_made}
use Rattle.write_at_once.proofs.put_two.Goals as goal

pub returns-then-second-lt128 : goal.returns-then-second-lt128
returns-then-second-lt128 c =
    let l = length-set c.args.buf.now c.args.pos c.args.header in
    pair_made c.args.buf.now c.args.pos 0 c.args.header _ _ (room_for_lem (length c.args.buf.now) c.args.pos 0 (omega arith)) c.ranges.header.fits (one_byte c.args.buf.now c.args.pos c.args.header (omega arith) c.if-header-lt128.true) _ _ _ (one_byte (set c.args.buf.now c.args.pos c.args.header) (c.args.pos + 1) c.args.second (omega arith) c.if-second-lt128.true)
