-- `write_at_once::put_all`: a copy, byte by byte, none of which is tested.
use mathlib.Core.Path.{◌≡◌, subst}
use Prim.Native.Nat.{ℕ, ◌+◌}
use native.Mathlib.Omega.{arith}
use lib.ListN.{length, drop, set, get_or}
use Rattle.putting.proofs.Turns.{Left, copied, copied_all}
use Rattle.putting.specs.Put.{Puts}
use Rattle.write_at_once.proofs.put_all.Goals as goal

pub loop-k-preserved : goal.loop-k-preserved
loop-k-preserved c =
    let e : 0 + c.loop-k.k ≡ c.loop-k.k = omega arith in
    subst (λ (k : ℕ). Left c.args.buf.now c.args.pos c.args.bytes.now (set c.loop-k.buf (c.args.pos + c.loop-k.k) (get_or c.args.bytes.now k 0)) (c.args.pos + (c.loop-k.k + 1)) (drop (0 + (c.loop-k.k + 1)) c.args.bytes.now)) e
    (copied _ _ _ _ _ 0 _ c.loop-k.invariant (omega arith) (omega arith))

pub returns : goal.returns
returns c =
    let n : c.loop-k.k ≡ length c.args.bytes.now = omega arith in
    subst (λ (k : ℕ). Puts c.args.buf.now c.args.pos c.args.bytes.now c.loop-k.buf (c.args.pos + k)) n (copied_all _ _ _ _ _ 0 _ c.loop-k.invariant (omega arith) (omega arith) (omega arith))
