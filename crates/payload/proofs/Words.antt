-- 01's words and numbers determine the answer: two answers of which 01 says the same are the same (`said_determines`).
use mathlib.Core.Path.{◌≡◌, refl, sym, ap, ◌∙◌}
use Rattle.std.specs.Prelude.{Option, None, Some, Result, Ok, Err}
use Rattle.types.specs.Types.{refusal}
use Rattle.types.specs.declared.Error.{Error}
use Rattle.types.proofs.Numbers.{refusal-number}
use Rattle.payload.specs.declared.Whole.{Whole}
use Rattle.payload.specs.declared.Whole.TheVariants.{InChunk, InBuffer}
use Rattle.gathering.specs.Gather.{Said, nothing, in_chunk, in_buffer, number}
use Rattle.payload.specs.Words.{said_of}

abbrev answered : Said → Result (Option Whole) Error
answered nothing = Ok None
answered (in_chunk n) = Ok (Some (InChunk n))
answered (in_buffer n) = Ok (Some (InBuffer n))
answered (number k) = Err (refusal k)

answered_again : (w : Result (Option Whole) Error) → answered (said_of w) ≡ w
answered_again (Ok None) = refl
answered_again (Ok (Some (InChunk n))) = refl
answered_again (Ok (Some (InBuffer n))) = refl
answered_again (Err e) = simp (refusal-number e)

pub said_determines : (v w : Result (Option Whole) Error) → said_of v ≡ said_of w → v ≡ w
said_determines v w e = sym (answered_again v) ∙ ap answered e ∙ answered_again w
