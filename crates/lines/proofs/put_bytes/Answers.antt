-- `lines::put_bytes`.
use mathlib.Core.Path.{sym}
use Rattle.event_list.specs.Lines.{byte_line}
use Rattle.putting.proofs.Turns.{says}
use Rattle.lines.proofs.Texts.{joined, nothing, each_none, each_more}
use Rattle.lines.proofs.put_bytes.Goals as goal

pub loop-b-init : goal.loop-b-init
loop-b-init c = says _ _ _ _ _ _ (sym (each_none byte_line)) (nothing _ _)

pub loop-b-preserved : goal.loop-b-preserved
loop-b-preserved c =
    says _ _ _ _ _ _ (each_more byte_line c.args.bytes.now c.loop-b.b-index c.loop-b-test.true) (joined _ _ _ _ _ _ _ _ c.loop-b.invariant c.put_byte-next.ensures)
