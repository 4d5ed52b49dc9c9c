-- `copier::Copier::feed`: the refusals in order, then the loop.
use mathlib.Core.Path.{sym, ◌∙◌}
use native.Mathlib.Omega.{arith}
use mir.Val.{Fits}
use mir.Syntax.{w8}
use Rattle.checks.proofs.Checks.{check_passes, check_fails}
use Rattle.copier.proofs.Calls.{feed-refused, feed_ready, feed_runs}
use borrow.Author.Rules.{rules}
use Rattle.copier.proofs.Copier.feed.Goals as goal

pub returns-in-Err : goal.returns-in-Err
returns-in-Err c =
    let f : Fits w8 c.args.self.reader.carried.depth = search rules in
    feed-refused c.args.self c.args.chunk.now c.args.buf.now (omega (arith, f.fits)) _ (check_fails _ _ (sym c.check_copier-check.ensures ∙ c.in-Err.is))

pub carry-requires : goal.carry-requires
carry-requires c = feed_ready c.args.self _ (check_passes _ (sym c.check_copier-check.ensures ∙ c.in_default.is))

pub returns : goal.returns
returns c =
    let f : Fits w8 c.args.self.reader.carried.depth = search rules in
    feed_runs c.args.self c.args.chunk.now c.args.buf.now (omega (arith, f.fits)) (check_passes _ (sym c.check_copier-check.ensures ∙ c.in_default.is)) _ _ c.carry.ensures _ c.finish.ensures
