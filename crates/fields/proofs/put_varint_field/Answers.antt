-- `fields::put_varint_field`: at once, or the head from the place on.
use Prim.Native.Nat.{◌+◌, ◌-◌, ◌≤◌}
use mathlib.Core.Path.{sym, ◌∙◌}
use mathlib.Core.List.{◌++◌}
use native.Mathlib.Omega.{arith}
use lib.ListN.{length, length-append}
use borrow.Author.Tests.{leb-true}
use Rattle.layout.specs.Limits.{base}
use Rattle.layout.specs.Varint.{shortest}
use Rattle.varint.proofs.Shortest.{length-longest}
use Rattle.held.specs.Headers.{headers_of}
use Rattle.at_ease.specs.AtOnce.{pair_most}
use Rattle.held.proofs.Ends.{ended}
use Rattle.at_ease.proofs.AtOnce.{clean_zeros}
use Rattle.fields.proofs.Behind.{written, behind}
use Rattle.fields.proofs.put_varint_field.Goals as goal

pub unwrap-end-requires : goal.unwrap-end-requires
unwrap-end-requires c =
    let m : length (headers_of c.args.held.count c.args.held.places) + pair_most + 0 ≤ length c.args.buf.now - c.args.start.pos = leb-true _ _ (sym c.has_room.ensures ∙ c.if-has_room.true) in
    written c.args.start c.args.buf.now (headers_of c.args.held.count c.args.held.places) (shortest c.args.header ++ shortest c.args.value) 0 _ _ _ _ _ c.if-place-eq0.true (omega arith) c.put-behind.ensures clean_zeros c.put_pair.ensures

pub returns-then-has_room : goal.returns-then-has_room
returns-then-has_room c =
    let m : length (headers_of c.args.held.count c.args.held.places) + pair_most + 0 ≤ length c.args.buf.now - c.args.start.pos = leb-true _ _ (sym c.has_room.ensures ∙ c.if-has_room.true) in
    let lh = length-longest base c.args.header c.ranges.header.fits in
    let lv = length-longest base c.args.value c.ranges.value.fits in
    let o = length-append (shortest c.args.header) (shortest c.args.value) in
    behind c.args.start c.args.buf.now (headers_of c.args.held.count c.args.held.places) (shortest c.args.header ++ shortest c.args.value) 0 _ _ _ _ _ c.if-place-eq0.true (omega arith) c.put-behind.ensures clean_zeros c.put_pair.ensures _ c.unwrap-end.ensures (omega arith)

pub returns : goal.returns
returns c = ended _ _ _ _ _ c.put_head.ensures _ _ c.head_len.ensures.0 c.finish.ensures
