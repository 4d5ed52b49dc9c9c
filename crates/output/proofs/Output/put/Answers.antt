-- `output::Output::put`: its segments in a row.
use mathlib.Core.Path.{ap}
use Rattle.output.specs.Output.{output_bytes}
use Rattle.emit.proofs.Segments.{joined, joined-three}
use Rattle.output.proofs.Laws.{landed, landed_none}
use Rattle.output.proofs.Output.put.Goals as goal

pub returns-in-Empty : goal.returns-in-Empty
returns-in-Empty c = landed_none c.args.buf.now c.args.pos c.args.place (output_bytes c.args.self) (ap output_bytes c.in-Empty.is)

pub returns-in-One : goal.returns-in-One
returns-in-One c = landed _ _ _ _ _ _ (ap output_bytes c.in-One.is) c.put_varint.ensures

pub returns-in-Two : goal.returns-in-Two
returns-in-Two c = landed _ _ _ _ _ _ (ap output_bytes c.in-Two.is) (joined _ _ _ _ _ _ _ _ c.put_varint-in-Two.ensures c.put_varint-in-Two-2.ensures)

pub returns-in-Three : goal.returns-in-Three
returns-in-Three c = landed _ _ _ _ _ _ (ap output_bytes c.in-Three.is) (joined-three _ _ _ _ _ _ _ _ _ _ _ c.put_varint-in-Three.ensures c.put_varint-next.ensures c.put_varint-in-Three-2.ensures)
