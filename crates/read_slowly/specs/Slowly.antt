-- A call from any state, by its phase and what is carried along: its refusals, and else what the machine's call comes to. Only the reader's
-- own code cites this: `feed` has its equation in istream's `Stream`.
use Rattle.std.specs.Prelude.{ℕ, List}
use Rattle.layout.specs.Limits.{Limits, pick}
use Rattle.machine.specs.Calls.{State, reading, owing, broke, call}
use Rattle.phase.specs.declared.Carried.{Carried}
use Rattle.phase.specs.declared.Phase.{Phase}
use Rattle.phase.specs.Phases.{state_at, sound_phase}
use Rattle.call_end.specs.declared.CallEnd.{CallEnd}
use Rattle.call_end.specs.CallEnd.{end_in, refused}

abbrev pub end_from : Limits → State → Phase → Carried → List ℕ → CallEnd
end_from L (reading d q) p k c = pick (sound_phase L p) (end_in (call L (reading d q) c)) (refused 1 p k)
end_from L (owing d id r) p k c = pick (sound_phase L p) (end_in (call L (owing d id r) c)) (refused 1 p k)
end_from L broke p k c = refused 2 p k

unfoldable pub end_of : Limits → Phase → Carried → List ℕ → CallEnd
end_of L p k c = end_from L (state_at k.depth p) p k c
