-- `as_is::whole_fields`: whole fields go as they came.
use Rattle.std.proofs.lemmas.Option.{IfSome_then}
use native.Mathlib.Omega.{arith}
use mir.Syntax.{w8}
use mir.Val.{Fits}
use borrow.Author.Rules.{rules}
use Rattle.as_is.proofs.Laws.{fields_ahead, behind}
use Rattle.as_is.proofs.whole_fields.Goals as goal

pub returns : goal.returns
returns c =
    let s : Fits w8 c.fields-run.result.depth = search rules in
    IfSome_then _ c.behind.ensures (behind c.idle.ensures (fields_ahead _ _ _ _ (omega (arith, s.fits)) c.fields-run.ensures.0 c.fields-run.ensures.1))
