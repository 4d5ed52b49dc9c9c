-- `ostream::OStream::write_str`: the layout's bytes of the field.
use Rattle.layout.specs.Copy.{field_bytes}
use Rattle.ostream.specs.Calls.{fixlen_bytes}
use Rattle.ostream.proofs.OStream.write_str.Goals as goal

pub returns : goal.returns
unfolding field_bytes fixlen_bytes
returns c = c.write_fixlen_raw.ensures
