-- `varint::Acc::sound` meets its contract: what is left above the bytes taken is nothing.
use Rattle.std.proofs.Common.{◌∙◌}
use borrow.Author.Tests.{lt-leb}
use Rattle.layout.specs.Limits.{base}
use Rattle.varint.proofs.Laws.{many, few}
use Rattle.varint.proofs.Acc.sound.Goals as goal

pub returns-then-self-le-LAST_BYTE : goal.returns-then-self-le-LAST_BYTE
returns-then-self-le-LAST_BYTE c = few base c.args.self c.if-self-le-LAST_BYTE.true

pub returns-else-self-le-LAST_BYTE : goal.returns-else-self-le-LAST_BYTE
returns-else-self-le-LAST_BYTE c = lt-leb _ _ c.if-self-le-LAST_BYTE.false ∙ many base c.args.self c.if-self-le-LAST_BYTE.false
