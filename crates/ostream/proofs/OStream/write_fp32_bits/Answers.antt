-- `ostream::OStream::write_fp32_bits`: the layout's bytes of the field, from the float's own.
use mathlib.Core.Path.{◌∙◌}
use lib.ListN.{length}
use Rattle.layout.specs.Field.{fp32}
use Rattle.low_bytes.proofs.Low.{le_four}
use Rattle.ostream.proofs.Floats.{float_call_lem}
use Rattle.ostream.proofs.OStream.write_fp32_bits.Goals as goal

pub returns : goal.returns
returns c =
    c.write_fixlen_raw.ensures ∙ float_call_lem fp32 c.args.self c.args.buf.now (length c.args.buf.now) c.args.place c.args.id c.args.bits c.to_le_bytes-bytes.result (c.to_le_bytes-bytes.ensures ∙ le_four c.args.bits)
