-- `emit::Cursor::put_varint`: a whole varint, one that is out already, or the rest of one.
use Prim.Native.Nat.{ℕ, ◌/◌, ◌<◌}
use mathlib.Core.Path.{◌≡◌, sym, ap, ◌∙◌}
use native.Mathlib.Omega.{arith}
use lib.ListN.{length, drop}
use Rattle.layout.specs.Limits.{base}
use Rattle.layout.specs.Varint.{shortest}
use Rattle.varint.proofs.Shortest.{length-longest, drop-shortest}
use Rattle.varint.proofs.Digits.{pow128}
use Rattle.emit.proofs.Segments.{some_left, none_left}
use Rattle.emit.proofs.Cursor.put_varint.Goals as goal

pub returns-then-skip-eq0 : goal.returns-then-skip-eq0
returns-then-skip-eq0 c =
    let z : 0 ≡ c.args.self.skip = sym c.if-skip-eq0.true in
    some_left c.args.self _ (shortest c.args.v) _ _ _ _ (omega arith) (ap (λ (k : ℕ). drop k (shortest c.args.v)) z) c.put_whole-end.ensures.0 c.put_whole-end.ensures.1

pub returns-then-len-skip : goal.returns-then-len-skip
returns-then-len-skip c =
    none_left c.args.self _ (shortest c.args.v) _ (omega arith) (omega arith)

pub overflow_mul-skip : goal.overflow_mul-skip
overflow_mul-skip c = let h = length-longest base c.args.v c.ranges.v.fits in record { fits = omega arith }

pub overflow_shr-v : goal.overflow_shr-v
overflow_shr-v c = let h = length-longest base c.args.v c.ranges.v.fits in omega arith

pub returns : goal.returns
returns c =
    let k : c.args.self.skip < length (shortest c.args.v) = omega arith in
    some_left c.args.self _ (shortest c.args.v) _ _ _ _ (omega arith) (sym (drop-shortest c.args.self.skip c.args.v k ∙ ap (λ (p : ℕ). shortest (c.args.v / p)) (pow128 c.args.self.skip))) c.put_whole-end-2.ensures.0 c.put_whole-end-2.ensures.1
