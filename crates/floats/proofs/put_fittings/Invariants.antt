-- `floats::put_fittings`: at each turn, the elements from the index on are left to write, and there is room for them.
use lib.ListN.{drop}
use Rattle.layout.specs.Field.{low_bytes}
use Rattle.elements.proofs.Room.{Roomy}
use Rattle.floats.proofs.put_fittings.Given as goal

abbrev pub invariant-loop-x : goal.invariant-loop-x
invariant-loop-x g l = let float = g.T.Float in Roomy (λ x. low_bytes float.BYTES (float.bits x)) float.BYTES l.items l.initial.buf l.pos l.buf l.at (drop l.x-index l.items)
