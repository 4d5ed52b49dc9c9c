-- `ostream::OStream::install`: eight places of zero.
use mathlib.Core.Path.{refl}
use Rattle.ostream.specs.Stream.{opened}
use Rattle.ostream.proofs.OStream.install.Goals as goal

pub returns : goal.returns
unfolding opened
returns c = refl
