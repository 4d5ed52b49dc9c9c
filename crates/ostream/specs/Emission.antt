-- One call of the writer: its refusals in order, its whole output, and the state that it leaves once all of that is out.
-- Every writing call is these three and a place in the output to go on from.
use Rattle.std.specs.Prelude.{Bool, List, ℕ, ◌+◌, ◌-◌, leb, ltb, length, drop, Result, Ok, Err}
use Rattle.layout.specs.Limits.{pick}
use Rattle.putting.specs.Put.{put}
use Rattle.types.specs.declared.Error.{Error}
use Rattle.types.specs.Types.{number_of}
use Rattle.ostream.specs.declared.OStream.{OStream}
use Rattle.ostream.specs.declared.Answer.{Answer}
use Rattle.ostream.specs.declared.Answer.TheVariants.{Done, Full}
use Rattle.ostream.specs.declared.Written.{Written}
use Rattle.ostream.specs.Stream.{at}
pub use Rattle.refusals.specs.Judged.{Test, Judgement, accepted, refused_with, judged}

pub record Call : Type 0 where
  pub tests : List Test
  pub output : List ℕ
  pub done : OStream

-- ---- what a call says and leaves

-- All its bytes are out; "full", with how many of them are; or a refusal's number.
pub data Said : Type 0 where
  through : Said
  full : ℕ → Said
  number : ℕ → Said

abbrev pub said_of : Result Answer Error → Said
said_of (Ok Done) = through
said_of (Ok (Full n)) = full n
said_of (Err e) = number (number_of e)

-- What it says, the state, and the lent buffer.
pub record Outcome : Type 0 where
  pub said : Said
  pub stream : OStream
  pub buf : List ℕ

-- the code's result and the buffer as the call leaves it, as such a record
unfoldable pub result_of : Written → List ℕ → Outcome
result_of r b = record { said = said_of r.answer; stream = r.stream; buf = b }

abbrev pub refused : OStream → Error → Written
refused s e = record { answer = Err e; stream = s }

-- a refusal: "state and buffer unaltered"
abbrev pub untouched : ℕ → OStream → List ℕ → Outcome
untouched n s b = record { said = number n; stream = s; buf = b }

-- ---- a call

-- An output, gone on with from a place: as many of the bytes still to go as there is room for, from the position on.
-- "Number 11: the place to go on from exceeds the call's whole output." "Full": "the buffer is then written to its end, a writer's state
-- differs only in position, and the answer is the count of this call's bytes (held headers included) now out, counted from its first byte".
-- It is told whether the place lies beyond the output, and whether there is room for the rest.
abbrev pub emitted_by : Bool → Bool → OStream → List ℕ → List ℕ → ℕ → OStream → Outcome
emitted_by beyond fits s b o place next =
    pick beyond (untouched 11 s b)
    (pick fits
    (record { said = through; stream = at next (s.offset + (length o - place)); buf = put b s.offset (drop place o) })
    (record { said = full (place + (length b - s.offset)); stream = at s (length b); buf = put b s.offset (drop place o) }))

unfoldable pub emitted : OStream → List ℕ → List ℕ → ℕ → OStream → Outcome
emitted s b o place next = emitted_by (ltb (length o) place) (leb (length o - place) (length b - s.offset)) s b o place next

unfoldable pub written_by : Judgement → Call → OStream → List ℕ → ℕ → Outcome
written_by accepted c s b place = emitted s b c.output place c.done
written_by (refused_with e) c s b place = untouched (number_of e) s b

unfoldable pub written : Call → OStream → List ℕ → ℕ → Outcome
unfolding written_by
written c s b place = written_by (judged c.tests) c s b place
