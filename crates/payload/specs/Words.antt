-- The gatherer's state and answers as the code has them, in the words of `gathering`.
use Rattle.std.specs.Prelude.{List, ℕ, Option, None, Some, Result, Ok, Err}
use Rattle.types.specs.declared.Error.{Error}
use Rattle.types.specs.Types.{number_of}
use Rattle.gathering.specs.Gather.{Gatherer, Said, nothing, in_chunk, in_buffer, number, Gathered}
use Rattle.payload.specs.declared.PayloadAcc.{PayloadAcc}
use Rattle.payload.specs.declared.Whole.{Whole}
use Rattle.payload.specs.declared.Whole.TheVariants.{InChunk, InBuffer}
use Rattle.payload.specs.declared.Fed.{Fed}

-- The state, field by field.
abbrev pub state_of : PayloadAcc → Gatherer
state_of a = record { len = a.len; complete = a.complete }

-- 01's words and number of each answer.
abbrev pub said_of : Result (Option Whole) Error → Said
said_of (Ok None) = nothing
said_of (Ok (Some (InChunk n))) = in_chunk n
said_of (Ok (Some (InBuffer n))) = in_buffer n
said_of (Err e) = number (number_of e)

-- What a call of `feed` says and leaves: the code's result, and the buffer as the call leaves it.
abbrev pub result_of : Fed → List ℕ → Gathered
result_of r b = record { said = said_of r.answer; acc = state_of r.acc; buf = b }
