-- `lines::put_bytes`.
use lib.ListN.{take}
use Rattle.layout.specs.Field.{each}
use Rattle.event_list.specs.Lines.{byte_line}
use Rattle.putting.specs.Put.{Puts}
use Rattle.lines.proofs.put_bytes.Given as goal

abbrev pub invariant-loop-b : goal.invariant-loop-b
invariant-loop-b l = Puts l.initial.out l.at (each byte_line (take l.b-index l.bytes)) l.out l.next
