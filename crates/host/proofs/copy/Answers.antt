-- `host::copy` meets its contract: what one call of a fresh copier says and leaves.
use native.Mathlib.Omega.{arith}
use mathlib.Core.Path.{ap, ◌∙◌}
use lib.IntN.{ℤ}
use mir.Facts.{to_z_pos}
use mir.Syntax.{w64}
use Rattle.copier.specs.Calls.{Started}
use Rattle.exports.specs.Exports.{result_of}
use Rattle.shortest.proofs.Spans.{all_bytes}
use Rattle.host.proofs.Fresh.{answers_full, answers_length, offset_small, apart}
use borrow.Author.Rules.{rules}
use Rattle.host.proofs.copy.Goals as goal

pub returns-then-is_full : goal.returns-then-is_full
returns-then-is_full c = answers_full c.args.ticket.now c.args.out.now (all_bytes c.args.ticket.now (λ i. (c.type_inv.ticket i).fits)) c.requires (omega (arith, c.well_formed.1.0.1)) c.new-opened.result.copier (ap (λ (x : Started). x.copier) c.new-opened.ensures) c.feed-done.result c.feed-done.new.buf c.feed-done.ensures (c.is_full.ensures.0 c.if-is_full.true)

pub overflow_cast-result : goal.overflow_cast-result
overflow_cast-result c =
    let n = apart _ c.is_full.ensures.1 c.if-is_full.false in
    let h = offset_small c.args.ticket.now c.args.out.now (all_bytes c.args.ticket.now (λ i. (c.type_inv.ticket i).fits)) c.requires (omega (arith, c.well_formed.1.0.1)) c.new-opened.result.copier (ap (λ (x : Started). x.copier) c.new-opened.ensures) c.feed-done.result c.feed-done.new.buf c.feed-done.ensures n in
    search rules

pub returns : goal.returns
returns c =
    let n = apart _ c.is_full.ensures.1 c.if-is_full.false in
    ap (λ (x : ℤ). result_of x c.feed-done.new.buf) (to_z_pos w64 (offset_small c.args.ticket.now c.args.out.now (all_bytes c.args.ticket.now (λ i. (c.type_inv.ticket i).fits)) c.requires (omega (arith, c.well_formed.1.0.1)) c.new-opened.result.copier (ap (λ (x : Started). x.copier) c.new-opened.ensures) c.feed-done.result c.feed-done.new.buf c.feed-done.ensures n))
    ∙ answers_length c.args.ticket.now c.args.out.now (all_bytes c.args.ticket.now (λ i. (c.type_inv.ticket i).fits)) c.requires (omega (arith, c.well_formed.1.0.1)) c.new-opened.result.copier (ap (λ (x : Started). x.copier) c.new-opened.ensures) c.feed-done.result c.feed-done.new.buf c.feed-done.ensures n
