-- `arrays::put_integer_array`: the head and the elements; how long they are is asked only where the buffer's end is met.
use Prim.Native.Nat.{ℕ, ◌+◌, ◌-◌, ◌*◌, ◌≤◌}
use mathlib.Core.Path.{◌≡◌, sym, ap, ◌∙◌}
use mathlib.Core.Bool.{Bool, true, false}
use native.Mathlib.Omega.{arith}
use lib.Dec.{ltb}
use lib.ListN.{length}
use borrow.Author.Tests.{ltb-true}
use Rattle.layout.specs.Varint.{shortest}
use Rattle.layout.specs.Limits.{pick}
use Rattle.elements.specs.OutAfter.{row_of}
use Rattle.outcomes.specs.Outcome.{reaches}
use Rattle.arrays.proofs.Integers.{stopped, counted-out}
use Rattle.arrays.proofs.put_integer_array.Goals as goal

-- one more byte than was asked for, at most: a lemma by cases, and no answer to a goal
at_most : (t : Bool) (most part r : ℕ) → r ≡ pick t (most + 1) (most - part) → r ≤ most + 1
at_most true most part r e = omega arith
at_most false most part r e = omega arith

pub returns-then-end-size : goal.returns-then-end-size
returns-then-end-size g c =
    let integer = g.T.Integer in
    let number = c.tagged-header.ensures ∙ ap (λ (w : ℕ). c.args.id * 8 + w) c.WIRE.ensures in
    let written = ap (λ (h : ℕ). row_of h (λ x. shortest (integer.number x)) c.args.items.now) number ∙ sym (g.met.T.Integer.written c.args.id c.args.items.now) in
    stopped c.args.held.count c.args.held.places _ (λ x. shortest (integer.number x)) c.args.items.now _ written c.args.start c.args.buf.now _ _ _ _ c.put_head-behind.ensures c.put_varints-end.ensures c.if-end-eq0.true (omega (arith, ltb-true))

pub overflow_add-head_len : goal.overflow_add-head_len
overflow_add-head_len g c = let m = at_most (ltb c.varints_out.result.whole (length c.args.items.now)) _ _ _ c.counted-len.ensures in record { fits = omega arith }

pub returns : goal.returns
returns g c =
    let integer = g.T.Integer in
    let number = c.tagged-header.ensures ∙ ap (λ (w : ℕ). c.args.id * 8 + w) c.WIRE.ensures in
    let written = ap (λ (h : ℕ). row_of h (λ x. shortest (integer.number x)) c.args.items.now) number ∙ sym (g.met.T.Integer.written c.args.id c.args.items.now) in
    counted-out c.args.held.count c.args.held.places _ (λ x. shortest (integer.number x)) c.args.items.now _ written c.args.start c.args.buf.now _ _ _ _ c.put_head-behind.ensures c.put_varints-end.ensures _ _ _ _ _ c.requires (omega arith) c.varints_out.ensures c.counted-len.ensures (c.finish.ensures ∙ ap (λ (h : ℕ). reaches c.args.start.pos (length c.args.buf.now) (h + c.counted-len.result) c.args.start.skip) c.head_len.ensures.0)
