-- `read_slowly::scan` meets its contract: each turn, the call is what reading on from the state reached comes to.
use Prim.Native.Nat.{ℕ, ◌<◌}
use mathlib.Core.Path.{◌≡◌, sym, ap, ◌∙◌}
use native.Mathlib.Omega.{arith}
use lib.ListN.{length, get_or}
use borrow.Author.Rules.{rules}
use Rattle.std.specs.Prelude.{Some}
use Rattle.layout.specs.Limits.{base}
use Rattle.phase.specs.Phases.{state_at}
use Rattle.phase.specs.declared.Stepped.TheVariants.{On}
use Rattle.call_end.specs.CallEnd.{stopped}
use Rattle.read_slowly.proofs.Calls.{call-scan, turn-ends, turn_goes, turn_last, Leaves}
use Rattle.read_slowly.proofs.scan.Goals as goal

pub loop-n-init : goal.loop-n-init
loop-n-init c = (c.requires, call-scan base (state_at c.args.with.depth c.args.from) c.args.chunk.now)

pub returns-in_default : goal.returns-in_default
returns-in_default c =
    let b : get_or c.args.chunk.now c.loop-n.n 0 < 256 = search rules in
    let l : Leaves c.step-s.result = search rules in
    c.stop.ensures ∙ turn-ends base c.args.chunk.now (state_at c.args.with.depth c.args.from) c.loop-n.phase c.loop-n.carried.depth c.loop-n.n c.loop-n.invariant.0 c.loop-n.invariant.1 c.step-s.result c.loop-n-test.true b c.step-s.ensures l

pub loop-n-preserved : goal.loop-n-preserved
loop-n-preserved c =
    let b : get_or c.args.chunk.now c.loop-n.n 0 < 256 = search rules in
    let s : c.step-s.result ≡ Some (On c.in-Some-On.p c.in-Some-On.k) = search rules in
    turn_goes base c.args.chunk.now (state_at c.args.with.depth c.args.from) c.loop-n.phase c.loop-n.carried.depth c.loop-n.n c.loop-n.invariant.0 c.loop-n.invariant.1 c.step-s.result _ _ c.loop-n-test.true b c.step-s.ensures s

pub returns : goal.returns
returns c =
    let e : c.loop-n.n ≡ length c.args.chunk.now = omega arith in
    c.stop-2.ensures
    ∙ ap (λ (m : ℕ). stopped m (Some (On c.loop-n.phase c.loop-n.carried))) (sym e)
    ∙ turn_last base c.args.chunk.now (state_at c.args.with.depth c.args.from) c.loop-n.phase c.loop-n.carried.depth c.loop-n.n c.loop-n.invariant.0 c.loop-n.invariant.1 e
