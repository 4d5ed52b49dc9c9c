-- `write_at_once::field_at_once`: the tests, and then the write.
use Prim.Native.Nat.{ℕ, ◌+◌, ◌*◌}
use mathlib.Core.Path.{ap, ◌∙◌}
use lib.ListN.{length}
use Rattle.layout.specs.Limits.{base}
use Rattle.layout.specs.Copy.{fixlen_bytes}
use Rattle.types.specs.Types.{subtype, fixlen_raw}
use Rattle.at_ease.specs.AtOnce.{easy_with, roomy_at}
use Rattle.at_ease.proofs.AtOnce.{behind}
use Rattle.write_at_once.proofs.Rows.{field-whole}
use Rattle.write_at_once.proofs.field_at_once.Goals as goal

pub returns : goal.returns
unfolding fixlen_bytes
returns c =
    behind _ (easy_with c.args.nest.depth c.args.nest.held c.args.id (length c.args.bytes.now) base.size) (roomy_at (length c.args.buf.now) c.args.pos c.args.nest.places (length c.args.bytes.now)) c.args.buf.now c.args.pos (fixlen_bytes c.args.id (subtype c.args.t) c.args.bytes.now) c.at_ease_with.ensures _ _ c.if-not-at_ease_with.false-raw
    (field-whole c.args.buf.now c.args.pos c.tagged.result (c.args.id * 8 + 2) c.args.nest.places _ _ c.tagged.ensures c.tagged.type_inv c.tagged-word.result (length c.args.bytes.now * 8 + fixlen_raw c.args.t) c.args.bytes.now (c.tagged-word.ensures ∙ ap (λ (n : ℕ). length c.args.bytes.now * 8 + n) c.raw.ensures) c.tagged-word.type_inv c.put_field.ensures)
