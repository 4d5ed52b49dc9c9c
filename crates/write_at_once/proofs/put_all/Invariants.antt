-- `write_at_once::put_all`: a copy, byte by byte, none of which is tested.
use Prim.Native.Nat.{◌+◌}
use lib.ListN.{drop}
use Rattle.putting.proofs.Turns.{Left}
use Rattle.write_at_once.proofs.put_all.Given as goal

abbrev pub invariant-loop-k : goal.invariant-loop-k
invariant-loop-k l = Left l.initial.buf l.pos (drop 0 l.bytes) l.buf (l.pos + l.k) (drop (0 + l.k) l.bytes)
