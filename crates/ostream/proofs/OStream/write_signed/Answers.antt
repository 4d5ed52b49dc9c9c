-- `ostream::OStream::write_signed`: the layout's bytes of the field.
use Prim.Native.Nat.{ℕ}
use mathlib.Core.Path.{ap, ◌∙◌}
use lib.ListN.{length}
use mir.Syntax.{w64}
use mir.ValLaws.{to_z-of_z}
use Rattle.layout.specs.Zigzag.{zigzag}
use Rattle.layout.specs.Copy.{field_bytes}
use Rattle.ostream.specs.Emission.{written}
use Rattle.ostream.specs.Calls.{varint_call}
use Rattle.ostream.proofs.OStream.write_signed.Goals as goal

pub returns : goal.returns
unfolding field_bytes
returns c =
    let b = c.zigzag_encode.ensures ∙ ap zigzag (to_z-of_z w64 c.args.value c.ranges.value) in
    (c.write_varint_field.ensures) ∙ ap (λ (n : ℕ). written (varint_call c.args.self (length c.args.buf.now) c.args.id 1 n) c.args.self c.args.buf.now c.args.place) b
