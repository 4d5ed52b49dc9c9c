-- `emit::put_rest`: a copy whose turns are counted beforehand, so that none tests for room.
use Prim.Native.Nat.{◌+◌}
use lib.ListN.{drop}
use Rattle.putting.proofs.Turns.{Left}
use Rattle.emit.proofs.put_rest.Given as goal

abbrev pub invariant-loop-k : goal.invariant-loop-k
invariant-loop-k l = Left l.initial.buf l.pos (drop l.from l.bytes) l.buf (l.pos + l.k) (drop (l.from + l.k) l.bytes)
