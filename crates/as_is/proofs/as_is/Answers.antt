-- `as_is::as_is`: by what the reader stands at.
use Rattle.std.proofs.lemmas.Option.{IfSome_then}
use native.Mathlib.Omega.{arith}
use mir.Syntax.{w8}
use mir.Val.{Fits}
use borrow.Author.Rules.{rules}
use Rattle.as_is.proofs.Laws.{at-header, at_unsigned_lem, at-signed, at_float_lem, unsigneds_ahead, signeds_ahead, behind, ahead_from}
use Rattle.as_is.proofs.as_is.Goals as goal

pub returns-in-Header : goal.returns-in-Header
returns-in-Header c =
    IfSome_then _ c.whole_fields.ensures (ahead_from (at-header c.args.reader _ c.requires c.in-Header.is c.if-a-eq0.true))

pub returns-in-Unsigned : goal.returns-in-Unsigned
returns-in-Unsigned c =
    let p = at_unsigned_lem c.args.reader _ _ _ c.requires c.in-Unsigned.is c.if-a-eq0-2.true in
    let f : Fits w8 c.args.reader.carried.depth = search rules in
    IfSome_then _ c.behind.ensures
    (λ b w.
    ahead_from p.2 b
    (behind c.unsigneds.ensures (unsigneds_ahead _ _ _ _ _ _ (omega (arith, f.fits)) p.0 p.1 c.if-left-gt0.true c.elements-row.ensures.1 c.elements-row.ensures.0 c.elements-row.ensures.2) b w))

pub returns-in-Signed : goal.returns-in-Signed
returns-in-Signed c =
    let p = at-signed c.args.reader _ _ _ c.requires c.in-Signed.is c.if-a-eq0-3.true in
    let f : Fits w8 c.args.reader.carried.depth = search rules in
    IfSome_then _ c.behind-in-Signed.ensures
    (λ b w.
    ahead_from p.2 b
    (behind c.signeds.ensures
    (signeds_ahead _ _ _ _ _ _ (omega (arith, f.fits)) p.0 p.1 c.if-left-gt0-2.true c.elements-row-in-Signed.ensures.1 c.elements-row-in-Signed.ensures.0 c.elements-row-in-Signed.ensures.2) b w))

pub float_elements-requires : goal.float_elements-requires
float_elements-requires c = let p = at_float_lem c.args.reader _ _ _ _ _ c.requires c.in-Float.is c.if-k-eq0.true in (p.0, (p.1, c.if-left-gt0-3.true))

pub returns-in-Float : goal.returns-in-Float
returns-in-Float c =
    IfSome_then _ c.float_elements.ensures (ahead_from (at_float_lem c.args.reader _ _ _ _ _ c.requires c.in-Float.is c.if-k-eq0.true).2)
