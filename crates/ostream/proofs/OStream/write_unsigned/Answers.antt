-- `ostream::OStream::write_unsigned`: the layout's bytes of the field.
use Rattle.layout.specs.Copy.{field_bytes}
use Rattle.ostream.proofs.OStream.write_unsigned.Goals as goal

pub returns : goal.returns
unfolding field_bytes
returns c = c.write_varint_field.ensures
