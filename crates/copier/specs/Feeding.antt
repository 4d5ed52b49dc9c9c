-- What the parts of a feed come to: cited by private functions alone. `feed` has its equation in `Calls`.
use Rattle.std.specs.Prelude.{ℕ, ◌≡◌, true, Err}
use Rattle.types.specs.declared.Error.{Error}
use Rattle.ostream.specs.declared.OStream.{OStream}
use Rattle.turns.specs.declared.Stop.{Stop}
use Rattle.turns.specs.Turns.{Ended, GoesOn}
use Rattle.copier.specs.declared.Copier.{Copier}
use Rattle.copier.specs.declared.Copied.{Copied}
use Rattle.copier.specs.Copier.{moved, sound_writer}
use Rattle.copier.specs.Calls.{Outcome}

abbrev pub refused : Error → Copier → Copied
refused e k = record { used = 0; answer = Err e; copier = k }

-- what a stop leaves, with the writer's places
abbrev pub finished : OStream → Stop → Copied
finished w s = record { used = s.used; answer = s.answer; copier = record { reader = s.reader; writer = moved w s.pos s.depth; owed = s.owed; place = s.place } }

-- what the definition's call comes to, with the writer's places
abbrev pub result_with : OStream → Ended → Outcome
result_with w r = record { used = r.used; said = r.said; copier = record { reader = r.reader; writer = moved w r.pos r.depth; owed = r.owed; place = r.place }; buf = r.buf }

-- a copier that is sound for a buffer of this size, and whose reader goes on
abbrev pub Ready : Copier → ℕ → Type 0
Ready k size = GoesOn k.reader × (sound_writer k size ≡ true)
