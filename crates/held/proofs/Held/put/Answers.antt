-- `held::Held::put`: the held headers, one after another.
use mathlib.Core.Path.{◌≡◌, ap}
use native.Mathlib.Omega.{arith}
use lib.ListN.{length, take}
use lib.Seq.{length-take-le}
use Rattle.layout.specs.Varint.{shortest}
use Rattle.layout.specs.Field.{header, t_begin}
use Rattle.emit.proofs.Elements.{owing_next, owing_end, each_at, each_end}
use Rattle.emit.proofs.Segments.{respelled}
use Rattle.held.specs.Headers.{headers_of}
use Rattle.held.proofs.Held.put.Goals as goal

pub loop-id-preserved : goal.loop-id-preserved
loop-id-preserved c =
    let n : length (take c.args.self.count c.args.self.places) ≡ c.args.self.count = length-take-le _ _ (omega arith) in
    let h = each_at (λ id. header id t_begin) (take c.args.self.count c.args.self.places) c.loop-id.id-index 0 (omega arith) in
    owing_next _ _ _ _ _ _ c.loop-id.invariant _ _ _ _ h (respelled _ _ _ _ _ _ (ap shortest c.tagged.ensures) c.put_varint-cursor.ensures)

pub returns : goal.returns
unfolding headers_of
returns c =
    let n : length (take c.args.self.count c.args.self.places) ≡ c.args.self.count = length-take-le _ _ (omega arith) in
    owing_end _ _ _ _ _ _ c.loop-id.invariant (each_end _ (take c.args.self.count c.args.self.places) c.loop-id.id-index (omega arith))
