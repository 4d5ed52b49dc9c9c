-- `held::Held::put_head`: three segments in a row.
use Rattle.emit.proofs.Segments.{joined-three}
use Rattle.held.proofs.Held.put_head.Goals as goal

pub returns : goal.returns
returns c =
    joined-three _ _ _ _ _ _ _ _ _ _ _ c.put-behind.ensures c.put_varint-head.ensures c.put_varint.ensures
