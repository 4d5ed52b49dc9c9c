-- A field by the numbers of a state: the two ways that it ends.
use mathlib.Core.Path.{◌≡◌}
use mathlib.Core.List.{List}
use Prim.Native.Nat.{ℕ}
use Rattle.std.specs.Prelude.{Result, Ok, Err}
use Rattle.types.specs.declared.Error.{Error}
use Rattle.outcomes.specs.declared.Reach.{Reach}
use Rattle.refusals.specs.Judged.{Judgement, accepted, refused_with}
use Rattle.checks.specs.Check.{check_of}
use Rattle.held.specs.Headers.{Ended}
use Rattle.write_slowly.specs.Went.{went_by, goes_by}

pub refuses : (v : Judgement) (x : Error) (pos : ℕ) (b o : List ℕ) (place : ℕ) → check_of v ≡ Err x → went_by (Err x) b ≡ goes_by v pos b o place
unfolding went_by goes_by
refuses accepted x pos b o place h = cc
refuses (refused_with y) x pos b o place h = cc

pub goes : (v : Judgement) (pos : ℕ) (b o : List ℕ) (place : ℕ) (r : Result Reach Error) (b' : List ℕ) → check_of v ≡ Ok tt → Ended pos b o place r b' → went_by r b' ≡ goes_by v pos b o place
unfolding went_by goes_by
goes accepted pos b o place r b' h (e, f) = cc
goes (refused_with y) pos b o place r b' h (e, f) = cc
