-- `output::Output::put_fitting`: one varint or two at once, and the rarer outputs slowly.
use Prim.Native.Nat.{◌≤◌}
use mir.Val.{Fits}
use mir.Syntax.{w64}
use mathlib.Core.Path.{ap}
use native.Mathlib.Omega.{arith}
use lib.ListN.{length}
use Rattle.layout.specs.Limits.{base}
use Rattle.layout.specs.Varint.{shortest}
use Rattle.varint.proofs.Shortest.{length-longest}
use Rattle.output.specs.Output.{output_bytes}
use Rattle.output.proofs.Laws.{fitting_none, fitting_one, fitting_two, mid_room}
use borrow.Author.Rules.{rules}
use Rattle.output.proofs.Output.put_fitting.Goals as goal

pub put_fitting-requires-in-Two : goal.put_fitting-requires-in-Two
put_fitting-requires-in-Two c = mid_room c.args.buf.now c.args.pos (shortest c.in-Two.a) _ _ c.requires (let f : Fits w64 c.in-Two.a = search rules in length-longest base c.in-Two.a f.fits) c.put_fitting-mid.ensures

pub returns-in-Empty : goal.returns-in-Empty
returns-in-Empty c = fitting_none c.args.buf.now c.args.pos (output_bytes c.args.self) (ap output_bytes c.in-Empty.is)

pub returns-in-One : goal.returns-in-One
returns-in-One c = let l = (let f : Fits w64 c.in-One.a = search rules in length-longest base c.in-One.a f.fits) in fitting_one c.args.buf.now c.args.pos (shortest c.in-One.a) (output_bytes c.args.self) _ _ (ap output_bytes c.in-One.is) c.put_fitting.ensures (omega arith)

pub returns-in-Two : goal.returns-in-Two
returns-in-Two c = let h : c.args.pos ≤ length c.args.buf.now = (omega arith) in fitting_two c.args.buf.now c.args.pos (shortest c.in-Two.a) (shortest c.in-Two.b) (output_bytes c.args.self) _ _ _ _ h (ap output_bytes c.in-Two.is) c.put_fitting-mid.ensures c.put_fitting-in-Two.ensures (let f : Fits w64 c.in-Two.a = search rules in length-longest base c.in-Two.a f.fits) (let f : Fits w64 c.in-Two.b = search rules in length-longest base c.in-Two.b f.fits)
