-- What a call of the copier says, in 01's words and numbers.
use Rattle.std.specs.Prelude.{ℕ, Result, Ok, Err}
use Rattle.layout.specs.Message.{Verdict, complete, incomplete}
use Rattle.types.specs.declared.Error.{Error}
use Rattle.types.specs.Types.{number_of}
use Rattle.call_end.specs.declared.Status.TheVariants.{Complete, Incomplete}
use Rattle.copying.specs.Copy as copying
use Rattle.turns.specs.declared.Answer.{Answer}
use Rattle.turns.specs.declared.Answer.TheVariants.{Full, Status}

-- "Full", the verdict after the chunk, or a refusal's number
pub data Said : Type 0 where
  full : Said
  verdict : Verdict → Said
  number : ℕ → Said

abbrev pub said_of : Result Answer Error → Said
said_of (Ok Full) = full
said_of (Ok (Status Complete)) = verdict complete
said_of (Ok (Status Incomplete)) = verdict incomplete
said_of (Err e) = number (number_of e)

-- no refusal has the number 0: a call never runs out of turns
abbrev pub said_in : copying.Said → Said
said_in copying.full = full
said_in (copying.verdict v) = verdict v
said_in copying.invalid = number 2
said_in copying.unfinished = number 0
