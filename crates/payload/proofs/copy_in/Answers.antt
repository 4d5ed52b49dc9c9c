-- `payload::copy_in` meets its contract: after k turns the first k bytes are pasted.
use Prim.Native.Nat.{ℕ, ◌+◌, ◌<◌}
use mathlib.Core.Path.{◌≡◌, sym, ap, ◌∙◌}
use mathlib.Core.List.{List}
use native.Mathlib.Numerals.{add-one}
use native.Mathlib.Omega.{arith}
use lib.ListN.{length, get_or, set}
use lib.Seq.{paste, paste-zero, paste-suc}
use Rattle.payload.proofs.copy_in.Goals as goal

pub loop-k-init : goal.loop-k-init
loop-k-init c = paste-zero c.args.buf.now c.args.pos c.args.src.now

turn : (d : List ℕ) (at : ℕ) (s : List ℕ) (k : ℕ) → at + k < length d → k < length s
    → set (paste d at s k) (at + k) (get_or s k 0) ≡ paste d at s (k + 1)
turn d at s k hd hs = paste-suc d at s k 0 hd hs ∙ ap (paste d at s) (sym (add-one k))

pub loop-k-preserved : goal.loop-k-preserved
loop-k-preserved c =
    ap (λ (b : List ℕ). set b (c.args.pos + c.loop-k.k) (get_or c.args.src.now c.loop-k.k 0)) c.loop-k.invariant ∙ turn c.args.buf.now c.args.pos c.args.src.now c.loop-k.k (omega arith) (omega arith)

pub returns : goal.returns
returns c = let e : c.loop-k.k ≡ c.args.n = omega arith in c.loop-k.invariant ∙ ap (paste c.args.buf.now c.args.pos c.args.src.now) e
