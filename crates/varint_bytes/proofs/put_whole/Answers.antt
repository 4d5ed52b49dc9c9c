-- `varint_bytes::put_whole`: at each turn, the rest's varint is left to write.
use Prim.Native.Nat.{◌+◌}
use mathlib.Core.Path.{◌≡◌, ◌∙◌}
use native.Mathlib.Omega.{arith}
use Rattle.layout.specs.Varint.{shortest}
use Rattle.varint.proofs.Shortest.{shortest_one, shortest-more}
use Rattle.putting.proofs.Turns.{start, next, no_room, ended}
use Rattle.varint_bytes.proofs.Part.{part_put, part_long}
use Rattle.varint_bytes.proofs.put_whole.Goals as goal
use Rattle.varint_bytes.proofs.put_whole.Goals.{then-pos-end+else-loop-k-test, else-pos-end}

pub loop-k-init : goal.loop-k-init
loop-k-init c = start _ _ _

pub loop-k-preserved : goal.loop-k-preserved
loop-k-preserved c = next _ _ _ _ _ _ c.loop-k.invariant _ _ (shortest-more _ c.if-rest-lt128.false) (omega (arith, c.loop-k-test.true, c.loop-k.invariant.size))

pub returns-then-rest-lt128 : goal.returns-then-rest-lt128
returns-then-rest-lt128 c =
    part_put _ _ _ c.args.pos (c.loop-k.k + 1) _ (omega (arith, c.if-pos-end.true)) (omega arith)
    (ended _ _ _ _ _ _ c.loop-k.invariant _ (shortest_one _ c.if-rest-lt128.true) (omega (arith, c.loop-k-test.true, c.loop-k.invariant.size)))

pub returns : goal.returns
returns c =
    elim c.if-pos-end.branch [
      | then-pos-end+else-loop-k-test w ↦
          (let l = part_long c.args.buf.now c.args.pos (omega (arith, w.if-pos-end.true)) in
          let p = part_put _ _ _ c.args.pos w.loop-k.k c.max.result (omega (arith, w.if-pos-end.true)) (omega (arith, l, w.loop-k-test.false, w.loop-k.auto.k-end)) (no_room _ _ _ _ _ _ w.loop-k.invariant (omega (arith, w.loop-k-test.false, w.loop-k.invariant.size))) in
          (p.0, w.buf-is ∙ p.1))
      | else-pos-end w ↦
          (let e : c.max.result ≡ c.args.pos = omega (arith, w.if-pos-end.false) in
          let p = no_room _ _ _ _ _ _ (start c.args.buf.now c.args.pos (shortest c.args.v)) (omega (arith, w.if-pos-end.false)) in
          (e ∙ p.0, w.buf-is ∙ p.1))
    ]
