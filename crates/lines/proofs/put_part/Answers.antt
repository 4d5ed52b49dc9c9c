-- `lines::put_part`.
use mathlib.Core.Path.{sym, ap}
use Rattle.shown.specs.Spelled.{part_text}
use Rattle.putting.proofs.Turns.{says}
use Rattle.lines.proofs.Texts.{nothing}
use Rattle.lines.proofs.put_part.Goals as goal

pub returns-in-None : goal.returns-in-None
returns-in-None c = says _ _ _ _ _ _ (sym (ap part_text c.in-None.is)) (nothing _ _)
