-- `emit::put_rest`: a copy whose turns are counted beforehand, so that none tests for room.
use mathlib.Core.Path.{◌≡◌, subst}
use Prim.Native.Nat.{ℕ, ◌+◌}
use native.Mathlib.Omega.{arith}
use lib.ListN.{drop, length-drop}
use Rattle.putting.proofs.Turns.{start, no_room, none_left, copied, copied_all}
use Rattle.putting.specs.Put.{Puts}
use Rattle.emit.proofs.put_rest.Goals as goal

pub returns-then-buf-pos : goal.returns-then-buf-pos
returns-then-buf-pos c = no_room _ _ _ _ _ _ (start _ _ _) c.if-buf-pos.true

pub returns-then-bytes-from : goal.returns-then-bytes-from
returns-then-bytes-from c = none_left _ _ _ _ _ _ (start _ _ _) (omega (arith, length-drop c.args.from c.args.bytes.now))

pub loop-k-preserved : goal.loop-k-preserved
loop-k-preserved c = copied _ _ _ _ _ _ _ c.loop-k.invariant (omega arith) (omega arith)

pub returns : goal.returns
returns c =
    let n : c.loop-k.k ≡ c.min-n.result = omega arith in
    subst (λ (k : ℕ). Puts c.args.buf.now c.args.pos (drop c.args.from c.args.bytes.now) c.loop-k.buf (c.args.pos + k)) n (copied_all _ _ _ _ _ _ _ c.loop-k.invariant (omega arith) (omega arith) (omega arith))
