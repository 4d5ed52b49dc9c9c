-- `fields::put_fixlen_field`: at once, or the head and the bytes from the place on.
use Prim.Native.Nat.{◌+◌, ◌-◌, ◌≤◌}
use mathlib.Core.Path.{sym, ◌∙◌}
use mathlib.Core.List.{◌++◌}
use native.Mathlib.Omega.{arith}
use lib.ListN.{length, length-append}
use borrow.Author.Tests.{leb-true}
use Rattle.layout.specs.Limits.{base}
use Rattle.layout.specs.Varint.{shortest}
use Rattle.varint.proofs.Shortest.{length-longest}
use Rattle.emit.proofs.Segments.{joined}
use Rattle.held.specs.Headers.{headers_of, head_of}
use Rattle.at_ease.specs.AtOnce.{pair_most}
use Rattle.held.proofs.Ends.{ended, ended_as, grouped}
use Rattle.at_ease.proofs.AtOnce.{clean_zeros}
use Rattle.fields.proofs.Behind.{written, behind}
use Rattle.fields.proofs.put_fixlen_field.Goals as goal

pub unwrap-end-requires : goal.unwrap-end-requires
unwrap-end-requires c =
    let m : length (headers_of c.args.held.count c.args.held.places) + pair_most + length c.args.bytes.now ≤ length c.args.buf.now - c.args.start.pos = leb-true _ _ (sym c.has_room.ensures ∙ c.if-has_room.true) in
    written c.args.start c.args.buf.now (headers_of c.args.held.count c.args.held.places) (shortest c.args.header ++ (shortest c.args.word ++ c.args.bytes.now)) (length c.args.bytes.now) _ _ _ _ _ c.if-place-eq0.true (omega arith) c.put-behind.ensures clean_zeros c.put_field.ensures

pub returns-then-has_room : goal.returns-then-has_room
returns-then-has_room c =
    let m : length (headers_of c.args.held.count c.args.held.places) + pair_most + length c.args.bytes.now ≤ length c.args.buf.now - c.args.start.pos = leb-true _ _ (sym c.has_room.ensures ∙ c.if-has_room.true) in
    let lh = length-longest base c.args.header c.ranges.header.fits in
    let lw = length-longest base c.args.word c.ranges.word.fits in
    let d = length-append (shortest c.args.header) (shortest c.args.word ++ c.args.bytes.now) in
    let o = length-append (shortest c.args.word) c.args.bytes.now in
    behind c.args.start c.args.buf.now (headers_of c.args.held.count c.args.held.places) (shortest c.args.header ++ (shortest c.args.word ++ c.args.bytes.now)) (length c.args.bytes.now) _ _ _ _ _ c.if-place-eq0.true (omega arith) c.put-behind.ensures clean_zeros c.put_field.ensures _ c.unwrap-end.ensures (omega arith)

pub returns : goal.returns
returns c =
    let h = head_of c.args.held.count c.args.held.places c.args.header c.args.word in
    let n = length-append h c.args.bytes.now in
    let e = joined _ _ _ _ _ _ _ _ c.put_head-head.ensures c.put_bytes.ensures in
    ended_as c.args.start.pos c.args.buf.now (h ++ c.args.bytes.now) _ c.args.start.skip _ _ (grouped (headers_of c.args.held.count c.args.held.places) (shortest c.args.header) (shortest c.args.word) c.args.bytes.now) (ended _ _ _ _ _ e _ _ (omega arith) c.finish.ensures)
