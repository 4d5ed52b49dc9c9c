-- `own::smalls_at` meets its contract: small scalars stand before the rest.
use Prim.Native.Nat.{ℕ}
use lib.ListN.{length}
use Rattle.layout.specs.Limits.{base}
use Rattle.shortest.specs.Own.{OwnFields, Ends}
use Rattle.own.proofs.smalls_at.Given as goal

abbrev pub invariant-loop-rest : goal.invariant-loop-rest
invariant-loop-rest l = Ends l.t (λ bs. (d : ℕ) → OwnFields base d bs d) l.rest

abbrev pub decreases-loop-rest : goal.decreases-loop-rest
decreases-loop-rest l = length l.rest
