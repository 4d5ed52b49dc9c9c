-- `ostream::OStream::write_fp64_bits`: the layout's bytes of the field, from the float's own.
use mathlib.Core.Path.{◌∙◌}
use lib.ListN.{length}
use Rattle.layout.specs.Field.{fp64}
use Rattle.low_bytes.proofs.Low.{le_eight}
use Rattle.ostream.proofs.Floats.{float_call_lem}
use Rattle.ostream.proofs.OStream.write_fp64_bits.Goals as goal

pub returns : goal.returns
returns c =
    c.write_fixlen_raw.ensures ∙ float_call_lem fp64 c.args.self c.args.buf.now (length c.args.buf.now) c.args.place c.args.id c.args.bits c.to_le_bytes-bytes.result (c.to_le_bytes-bytes.ensures ∙ le_eight c.args.bits)
