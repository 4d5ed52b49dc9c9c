-- `read_slowly::payload` meets its contract: no byte, a part, or the rest.
use mathlib.Core.Path.{◌∙◌}
use Rattle.layout.specs.Limits.{base}
use Rattle.read_slowly.proofs.Calls.{no_bytes, part_read, rest_read}
use Rattle.read_slowly.proofs.payload.Goals as goal

pub returns-then-len-eq0 : goal.returns-then-len-eq0
returns-then-len-eq0 c =
    c.ended.ensures ∙ no_bytes base c.args.carried.depth c.args.id c.args.r c.args.total c.args.offset c.args.chunk.now c.if-len-eq0.true

pub returns-then-len-owed : goal.returns-then-len-owed
returns-then-len-owed c =
    c.ended-then-len-owed.ensures ∙ part_read base c.args.carried.depth c.args.id c.args.r c.args.total c.args.offset c.args.chunk.now c.piece.result c.if-len-eq0.false c.if-len-owed.true c.piece.ensures

pub returns : goal.returns
returns c =
    c.ended-2.ensures ∙ rest_read base c.args.carried.depth c.args.id c.args.r c.args.total c.args.offset c.args.chunk.now c.piece-2.result c.idle.result c.requires c.if-len-eq0.false c.if-len-owed.false c.piece-2.ensures c.idle.ensures
