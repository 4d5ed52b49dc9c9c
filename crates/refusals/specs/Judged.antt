-- Refusals in order: tests, each with the refusal that it stands for, and what a list of them comes to.
use Rattle.std.specs.Prelude.{Bool, List, [], ◌∷◌}
use Rattle.layout.specs.Limits.{pick}
use Rattle.types.specs.declared.Error.{Error}

-- a test, and the refusal where it holds
pub record Test : Type 0 where
  pub fails : Bool
  pub error : Error

pub data Judgement : Type 0 where
  accepted : Judgement
  refused_with : Error → Judgement

-- "Refused, in checking order": the first test that fails
abbrev pub judged : List Test → Judgement
judged [] = accepted
judged (t ∷ ts) = pick t.fails (refused_with t.error) (judged ts)
