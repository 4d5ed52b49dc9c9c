-- `held::Held::len`: the lengths of the held headers, summed up.
use Prim.Native.Nat.{ℕ, ◌≤◌}
use mathlib.Core.Path.{◌≡◌, ap, ◌∙◌}
use native.Mathlib.Omega.{arith}
use lib.ListN.{length, take}
use lib.Seq.{length-take-le}
use Rattle.layout.specs.Limits.{base, longest}
use Rattle.layout.specs.Varint.{shortest}
use Rattle.varint.proofs.Shortest.{length-longest}
use Rattle.emit.proofs.Elements.{count_next, count_end}
use Rattle.held.specs.Headers.{headers_of}
use Rattle.held.proofs.Held.len.Goals as goal

short : (c : goal.After-varint_len-len) → c.varint_len-len.result ≤ longest base
short c =
    let h = length-longest base c.tagged.result c.tagged.type_inv in omega arith

pub overflow_add-len : goal.overflow_add-len
overflow_add-len c =
    let n : length (take c.args.self.count c.args.self.places) ≡ c.args.self.count = length-take-le _ _ (omega arith) in
    let h = short c in
    record { fits = omega arith }

pub loop-id-preserved : goal.loop-id-preserved
loop-id-preserved c =
    let n : length (take c.args.self.count c.args.self.places) ≡ c.args.self.count = length-take-le _ _ (omega arith) in
    let e = c.varint_len-len.ensures ∙ ap (λ (v : ℕ). length (shortest v)) c.tagged.ensures in
    count_next _ _ _ _ _ 0 _ c.loop-id.invariant (omega arith) e (short c)

pub returns : goal.returns
unfolding headers_of
returns c =
    let n : length (take c.args.self.count c.args.self.places) ≡ c.args.self.count = length-take-le _ _ (omega arith) in
    (count_end _ _ _ _ _ c.loop-id.invariant (omega arith), omega arith)
