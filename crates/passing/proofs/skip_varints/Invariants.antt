-- `passing::skip_varints` meets its contract: the varints that are still to come are those of the bytes left.
use Prim.Native.Nat.{ℕ, ◌-◌}
use mathlib.Core.Path.{◌≡◌}
use Rattle.layout.specs.Limits.{base}
use Rattle.passing.specs.Passing.{skips}
use Rattle.passing.proofs.skip_varints.Given as goal

abbrev pub invariant-loop : goal.invariant-loop
invariant-loop l = (d : ℕ) → skips base d l.n l.bytes ≡ skips base d (l.n - l.counter) l.rest
