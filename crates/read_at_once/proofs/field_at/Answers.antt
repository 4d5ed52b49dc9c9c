-- `read_at_once::field_at` meets its contract: an open, a close, or what follows a header.
use Rattle.layout.specs.Limits.{base}
use Rattle.read_at_once.proofs.AtOnce.{after-header, begin_read, end_read}
use native.Mathlib.Omega.{arith}
use mir.Val.{Fits}
use mir.Syntax.{w8}
use borrow.Author.Rules.{rules}
use Rattle.read_at_once.proofs.field_at.Goals as goal

pub returns-in-6 : goal.returns-in-6
returns-in-6 c =
    let f : Fits w8 c.args.carried.depth = search rules in
    begin_read base c.args.chunk.now c.args.carried.depth _ _ c.in_ok-h.ensures c.if-whole.false _ c.raised.result c.in-6.is (omega (arith, f.fits)) c.sequence_begin.ensures c.raised.ensures

pub returns-in-7 : goal.returns-in-7
returns-in-7 c =
    let f : Fits w8 c.args.carried.depth = search rules in
    end_read base c.args.chunk.now c.args.carried.depth _ _ c.in_ok-h.ensures c.if-whole.false _ c.raised-in-7.result c.in-7.is (omega (arith, f.fits)) c.sequence_end.ensures c.raised-in-7.ensures

pub returns-in_default : goal.returns-in_default
returns-in_default c =
    after-header base c.args.chunk.now c.args.carried.depth _ _ c.in_ok-h.ensures c.if-whole.false c.value_at.result c.value_at.ensures
