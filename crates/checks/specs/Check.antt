-- How the code says what the first tests of a call come to.
use Rattle.std.specs.Prelude.{[], ◌∷◌, Result, Ok, Err, ⊤}
use Rattle.types.specs.declared.Error.{Error}
use Rattle.refusals.specs.Judged.{Test, Judgement, accepted, refused_with, judged}

abbrev pub check_of : Judgement → Result ⊤ Error
check_of accepted = Ok tt
check_of (refused_with e) = Err e

-- one test alone
abbrev pub alone : Test → Result ⊤ Error
alone t = check_of (judged (t ∷ []))
