-- `arrays::put_float_array`: what is announced, and the elements.
use mathlib.Core.Path.{sym, ◌∙◌}
use mathlib.Core.List.{map}
use lib.ListN.{length-map}
use Rattle.layout.specs.Field.{low_bytes}
use Rattle.emit.proofs.Elements.{each_map}
use Rattle.arrays.proofs.Floats.{floats_ended}
use Rattle.arrays.proofs.put_float_array.Goals as goal

pub returns : goal.returns
returns g c =
    let float = g.T.Float in
    let sized = g.met.T.Float.sized in
    let word = c.WORD.ensures ∙ g.met.T.Float.worded in
    floats_ended float.width c.args.held.count c.args.held.places c.args.id _ _ c.tagged-header.ensures word (λ x. low_bytes float.BYTES (float.bits x)) c.args.items.now (map float.bits c.args.items.now) (length-map c.args.items.now float.bits) (rw sized (sym (each_map (low_bytes _) float.bits c.args.items.now)))
    c.args.start c.args.buf.now _ _ _ _ _ _ _ _ _ c.put_head-head.ensures c.put_varint-word.ensures c.put_floats.ensures c.head_len.ensures.0 (c.BYTES.ensures ∙ sized) c.finish.ensures
