-- `istream::IStream::feed` meets its contract: what is read at once.
use Rattle.std.specs.Prelude.{Some}
use Rattle.layout.specs.Limits.{base}
use Rattle.read_at_once.specs.declared.Once.TheVariants.{Done}
use Rattle.read_at_once.specs.AtOnce.{RightFrom}
use Rattle.istream.proofs.Laws.{from_once}
use mathlib.Core.Path.{◌∙◌}
use native.Mathlib.Omega.{arith}
use mir.Val.{Fits}
use mir.Syntax.{w8}
use borrow.Author.Rules.{rules}
use Rattle.istream.proofs.IStream.feed.Goals as goal

pub returns-in-Some-Done : goal.returns-in-Some-Done
returns-in-Some-Done c =
    let f : Fits w8 c.args.self.carried.depth = search rules in
    let r : RightFrom base c.args.self.carried.depth c.args.self.phase (Some (Done c.in-Some-Done.p c.in-Some-Done.k c.in-Some-Done.e c.in-Some-Done.n)) c.args.chunk.now = search rules in
    c.answered.ensures ∙ from_once base c.args.self c.args.chunk.now _ _ _ _ (omega (arith, f.fits)) r
