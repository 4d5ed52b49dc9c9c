-- `read_at_once::value_at` meets its contract: each type by its number.
use Rattle.std.specs.Prelude.{Some}
use Rattle.layout.specs.Limits.{base}
use Rattle.read_at_once.specs.AtOnce.{raised_of}
use Rattle.read_at_once.proofs.AtOnce.{unsigned_after, signed-after, word_after}
use Rattle.phase.specs.declared.Stepped.TheVariants.{Raised}
use Rattle.event.specs.declared.Event.TheVariants as Events
use native.Mathlib.Omega.{arith}
use mathlib.Core.Path.{◌≡◌, ap, ◌∙◌}
use mir.Val.{Fits, of_z, to_z}
use mir.Syntax.{w8, w64}
use lib.IntN.{ℤ}
use borrow.Author.Rules.{rules}
use Rattle.read_at_once.proofs.value_at.Goals as goal

pub returns-in-0 : goal.returns-in-0
returns-in-0 c =
    unsigned_after base c.args.chunk.now c.args.at c.args.carried.depth c.args.id c.args.wire _ _ c.done.result c.in_ok-v.ensures _ c.in-0.is c.idle.ensures c.done.ensures

pub returns-in-1 : goal.returns-in-1
returns-in-1 c =
    let z : to_z w64 (of_z w64 c.zigzag_decode.result) ≡ c.zigzag_decode.result = search rules in
    signed-after base c.args.chunk.now c.args.at c.args.carried.depth c.args.id c.args.wire _ _ c.done-in-1.result c.in_ok-v.ensures _ c.in-1.is c.idle-in-1.ensures (c.done-in-1.ensures ∙ ap (λ (z : ℤ). raised_of c.in_ok-v.n (Some (Raised (Events.Signed c.args.id z) c.idle-in-1.result c.args.carried))) (z ∙ c.zigzag_decode.ensures))

pub returns-in-2 : goal.returns-in-2
returns-in-2 c =
    let f : Fits w8 c.args.carried.depth = search rules in
    word_after base c.args.chunk.now c.args.at c.args.carried.depth c.args.id c.args.wire _ _ c.raised.result c.in_ok-v.ensures _ c.in-2.is (omega (arith, f.fits)) c.requires c.fixlen.ensures c.raised.ensures
