-- `lines::put_byte`.
use mathlib.Core.Path.{sym}
use Rattle.putting.proofs.Turns.{says}
use Rattle.lines.proofs.Texts.{joined, byte_line_lem}
use Rattle.lines.proofs.put_byte.Goals as goal

pub returns : goal.returns
returns c =
    says _ _ _ _ _ _ (sym (byte_line_lem c.args.b))
    (joined _ _ _ _ _ _ _ _ c.put_rest-next.ensures (joined _ _ _ _ _ _ _ _ c.put_decimal-end.ensures c.put_rest.ensures))
