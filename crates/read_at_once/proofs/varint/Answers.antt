-- `read_at_once::varint` meets its contract: a byte, two bytes, or any number of them.
use mathlib.Core.Path.{◌≡◌, refl, sym, ◌∙◌}
use native.Mathlib.Omega.{arith}
use Prim.Native.Nat.{◌+◌}
use Rattle.layout.specs.Limits.{base}
use Rattle.read_at_once.proofs.AtOnce.{under_start, under_more, under_value}
use Rattle.read_at_once.proofs.varint.Goals as goal

pub returns-in-Value : goal.returns-in-Value
returns-in-Value c =
    under_value (under_start base _ _ _ c.new.ensures) c.if-chunk-at.false _ _ refl (sym c.push-p.ensures ∙ c.in-Value.is)

pub returns-in-Value-q : goal.returns-in-Value-q
returns-in-Value-q c =
    let u = under_more {c = c.args.chunk.now} {first = c.args.at} (under_start base _ _ _ c.new.ensures) c.if-chunk-at.false _ (sym c.push-p.ensures ∙ c.in-More.is) in
    let e : c.args.at + 2 ≡ c.args.at + 1 + 1 = omega arith in
    under_value u c.if-chunk-at-2.false _ _ e (sym c.push-q.ensures ∙ c.in-Value-q.is)
