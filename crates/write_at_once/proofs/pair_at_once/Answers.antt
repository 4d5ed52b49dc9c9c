-- `write_at_once::pair_at_once`: the tests, and then the write.
use Prim.Native.Nat.{◌+◌, ◌*◌}
use mathlib.Core.List.{◌++◌}
use Rattle.layout.specs.Varint.{shortest}
use Rattle.at_ease.specs.AtOnce.{easy_at}
use Rattle.at_ease.proofs.AtOnce.{behind}
use Rattle.write_at_once.proofs.Rows.{pair_whole}
use Rattle.write_at_once.proofs.pair_at_once.Goals as goal

pub returns : goal.returns
returns c =
    behind _ (easy_at c.args.nest.depth c.args.nest.held c.args.id) _ c.args.buf.now c.args.pos (shortest (c.args.id * 8 + c.args.wire) ++ shortest c.args.value) c.at_ease.ensures _ _ c.if-not-at_ease.false-raw
    (pair_whole c.args.buf.now c.args.pos c.tagged.result (c.args.id * 8 + c.args.wire) c.args.nest.places _ _ c.tagged.ensures c.tagged.type_inv c.args.value c.ranges.value.fits c.put_pair.ensures)
