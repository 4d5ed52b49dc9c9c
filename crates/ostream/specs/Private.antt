-- What private functions come to: no public call cites these.
use Rattle.std.specs.Prelude.{ℕ, ◌≤◌, ltb, Result, Ok, Err}
use Rattle.layout.specs.Limits.{pick}
use Rattle.types.specs.Types.{refusal}
use Rattle.types.specs.declared.Error.{Error}
use Rattle.outcomes.specs.declared.Reach.{Reach}
use Rattle.outcomes.specs.declared.Reach.TheVariants.{Through, Full}
use Rattle.emit.specs.declared.Cursor.{Cursor}
use Rattle.places.specs.declared.Nest.{Nest}
use Rattle.buffers.specs.declared.Moved.{Moved}
use Rattle.ostream.specs.declared.OStream.{OStream}
use Rattle.ostream.specs.declared.Answer.TheVariants as Answers
use Rattle.ostream.specs.declared.Written.{Written}
use Rattle.ostream.specs.declared.Counted.{Counted}
use Rattle.ostream.specs.Stream.{lazy_depth, at}
use Rattle.ostream.specs.Emission.{refused}

-- the sequences that are open
abbrev pub nest_of : OStream → Nest
nest_of s = record { places = s.pending; depth = s.depth; held = s.npending }

-- where a call writes, that goes on from a place
abbrev pub start_of : OStream → ℕ → Cursor
start_of s place = record { pos = s.offset; skip = place }

-- what the answer asks of the state: once all is out the places in use are cleared, of which there are eight
abbrev pub Clears : OStream → Result Reach Error → Type 0
Clears s (Ok (Through end)) = s.npending ≤ lazy_depth
Clears s (Ok (Full out)) = Unit {0}
Clears s (Err e) = Unit {0}

-- the answer and the state where all is out, up to a position
abbrev pub through_to : OStream → ℕ → Written
through_to next end = record { answer = Ok Answers.Done; stream = at next end }

-- the answer and the state by what a call comes to, where `next` is the state once all is out
abbrev pub settled : OStream → ℕ → OStream → Result Reach Error → Written
settled s size next (Ok (Through end)) = through_to next end
settled s size next (Ok (Full out)) = record { answer = Ok (Answers.Full out); stream = at s size }
settled s size next (Err e) = refused s e

-- those of a call that writes nothing
abbrev pub unwritten : OStream → ℕ → OStream → Written
unwritten s place next = pick (ltb 0 place) (refused s (refusal 11)) (record { answer = Ok Answers.Done; stream = next })

-- the answer of a drain or a buffer change, by where it goes on: the old position, and the state at the new one
abbrev pub counted_at : OStream → Result Moved Error → Counted
counted_at s (Ok to) = record { answer = Ok to.sent; stream = at s to.next }
counted_at s (Err e) = record { answer = Err e; stream = s }
