-- `istream::IStream::sound` meets its contract: the phase's test; a byte holds no depth beyond 255.
use mathlib.Core.Path.{◌∙◌}
use native.Mathlib.Omega.{arith}
use mir.Syntax.{w8}
use mir.Val.{Fits}
use Rattle.layout.specs.Limits.{base}
use Rattle.istream.proofs.Tests.{sound_in}
use borrow.Author.Rules.{rules}
use Rattle.istream.proofs.IStream.sound.Goals as goal

pub returns-in-Payload : goal.returns-in-Payload
returns-in-Payload c =
    let f : Fits w8 c.args.self.carried.depth = search rules in
    c.sound_payload.ensures ∙ sound_in base (c.args.self) _ (omega (arith, f.fits)) c.in-Payload.is

pub returns-in-Header : goal.returns-in-Header
returns-in-Header c =
    let f : Fits w8 c.args.self.carried.depth = search rules in
    c.sound.ensures ∙ sound_in base (c.args.self) _ (omega (arith, f.fits)) c.in-Header.is
