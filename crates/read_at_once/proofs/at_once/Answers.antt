-- `read_at_once::at_once` meets its contract: a field or an element, or no byte, from a sound state.
use mathlib.Core.Path.{◌≡◌, sym, ◌∙◌}
use lib.ListN.{length}
use borrow.Author.Rules.{rules}
use Rattle.layout.specs.Limits.{base}
use Rattle.read_at_once.proofs.AtOnce.{from_header, from_unsigned, from_signed, spent_header, spent_unsigned, spent_signed}
use Rattle.read_at_once.proofs.at_once.Goals as goal

pub returns-then-is_empty : goal.returns-then-is_empty
returns-then-is_empty c =
    let z : length c.args.chunk.now ≡ 0 = search rules in
    spent_header base c.args.phase c.args.carried.depth c.args.chunk.now _ c.in-Header.is (sym c.sound.ensures ∙ c.if-sound.true) z

pub returns-else-is_empty : goal.returns-else-is_empty
returns-else-is_empty c =
    from_header base c.args.phase c.args.carried.depth c.args.chunk.now _ c.field_at.result c.in-Header.is c.if-a-eq0.true (sym c.sound.ensures ∙ c.if-sound.true) c.field_at.ensures

pub returns-then-is_empty-2 : goal.returns-then-is_empty-2
returns-then-is_empty-2 c =
    let z : length c.args.chunk.now ≡ 0 = search rules in
    spent_unsigned base c.args.phase c.args.carried.depth c.args.chunk.now _ _ _ c.in-Unsigned.is (sym c.sound_varint.ensures ∙ c.if-sound_varint.true) z

pub returns-else-is_empty-2 : goal.returns-else-is_empty-2
returns-else-is_empty-2 c =
    from_unsigned base c.args.phase c.args.carried.depth c.args.chunk.now _ _ _ c.unsigned_at.result c.in-Unsigned.is c.if-a-eq0-2.true (sym c.sound_varint.ensures ∙ c.if-sound_varint.true) c.unsigned_at.ensures

pub returns-then-is_empty-3 : goal.returns-then-is_empty-3
returns-then-is_empty-3 c =
    let z : length c.args.chunk.now ≡ 0 = search rules in
    spent_signed base c.args.phase c.args.carried.depth c.args.chunk.now _ _ _ c.in-Signed.is (sym c.sound_varint-then-a-eq0-3.ensures ∙ c.if-sound_varint-2.true) z

pub returns-else-is_empty-3 : goal.returns-else-is_empty-3
returns-else-is_empty-3 c =
    from_signed base c.args.phase c.args.carried.depth c.args.chunk.now _ _ _ c.signed_at.result c.in-Signed.is c.if-a-eq0-3.true (sym c.sound_varint-then-a-eq0-3.ensures ∙ c.if-sound_varint-2.true) c.signed_at.ensures
