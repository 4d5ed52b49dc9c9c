-- `lines::put_line`.
use Rattle.lines.proofs.Texts.{joined}
use Rattle.lines.proofs.put_line.Goals as goal

pub returns : goal.returns
returns c =
    joined _ _ _ _ _ _ _ _ c.put_rest-a.ensures
    (joined _ _ _ _ _ _ _ _ c.put_part-b.ensures
    (joined _ _ _ _ _ _ _ _ c.put_part-c.ensures
    (joined _ _ _ _ _ _ _ _ c.put_part-d.ensures c.put_rest.ensures)))
