-- A call's end from its parts, and from what it comes to in a crate below. Only private functions cite these: `feed` has its equation in
-- `Stream`.
use Rattle.std.specs.Prelude.{ℕ, Result}
use Rattle.types.specs.declared.Error.{Error}
use Rattle.phase.specs.declared.Carried.{Carried}
use Rattle.phase.specs.declared.Phase.{Phase}
use Rattle.call_end.specs.declared.Answer.{Answer}
use Rattle.call_end.specs.declared.CallEnd.{CallEnd}
use Rattle.istream.specs.declared.Fed.{Fed}

-- the bytes read, the answer, and the reader in a phase with what is carried along
abbrev pub fed_at : ℕ → Result Answer Error → Phase → Carried → Fed
fed_at n a p k = record { read = n; answer = a; stream = record { phase = p; carried = k } }

abbrev pub fed_by : CallEnd → Fed
fed_by w = fed_at w.read w.answer w.phase w.carried
