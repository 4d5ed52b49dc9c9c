-- `ostream::OStream::sound`: the tests of a sound state.
use Rattle.ostream.specs.Stream.{sound_stream}
use Rattle.ostream.proofs.OStream.sound.Goals as goal

pub returns : goal.returns
unfolding sound_stream
returns c = (rw c.nest.ensures at c.sound_for.ensures)
