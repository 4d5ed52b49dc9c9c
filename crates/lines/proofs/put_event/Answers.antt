-- `lines::put_event`.
use mathlib.Core.Path.{sym, ap, ◌∙◌}
use Rattle.shown.specs.Spelled.{shown_text}
use Rattle.putting.proofs.Turns.{says}
use Rattle.lines.proofs.put_event.Goals as goal

pub returns-in-Line : goal.returns-in-Line
returns-in-Line c =
    says _ _ _ _ _ _ (ap (shown_text c.args.chunk.now) (sym c.in-Line.is) ∙ c.shown_of-s.ensures c.args.chunk.now) c.put_line.ensures

pub returns-in-Piece : goal.returns-in-Piece
returns-in-Piece c =
    says _ _ _ _ _ _ (ap (shown_text c.args.chunk.now) (sym c.in-Piece.is) ∙ c.shown_of-s.ensures c.args.chunk.now) c.put_piece.ensures
