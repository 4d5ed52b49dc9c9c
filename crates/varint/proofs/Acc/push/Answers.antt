-- `varint::Acc::push` meets its contract: its four ways out are the four cases of its definition.
use Rattle.std.proofs.Common.{ℕ, ◌+◌, ◌*◌, ◌%◌, ◌^◌, ap, ◌∙◌, arith}
use lib.Bits.{bit_or}
use Rattle.layout.specs.Limits.{base}
use Rattle.varint.specs.declared.Push.TheVariants.{More, Value}
use Rattle.varint.proofs.Digits.{last_digit}
use Rattle.varint.proofs.Laws.{pushed-ends, pushed_on, pushed_last, pushed-over}
use Rattle.varint.proofs.Acc.push.Goals as goal

pub returns-then-b-lt128 : goal.returns-then-b-lt128
returns-then-b-lt128 c =
    ap (λ (d : ℕ). Value (bit_or c.args.self.value d)) c.payload_at.ensures ∙ pushed-ends base c.args.self c.args.b c.if-taken-lt-LAST_BYTE.true c.if-b-lt128.true

pub returns-else-b-lt128 : goal.returns-else-b-lt128
returns-else-b-lt128 c =
    ap (λ (d : ℕ). More (record { value = bit_or c.args.self.value d; taken = c.args.self.taken + 1 })) c.payload_at.ensures
    ∙ pushed_on base c.args.self c.args.b c.if-taken-lt-LAST_BYTE.true c.if-b-lt128.false

pub returns-then-b-gt1 : goal.returns-then-b-gt1
returns-then-b-gt1 c =
    pushed-over base c.args.self c.args.b c.if-taken-lt-LAST_BYTE.false (omega (arith, c.if-b-gt1.true))

pub returns-else-b-gt1 : goal.returns-else-b-gt1
returns-else-b-gt1 c =
    ap (λ (d : ℕ). Value (bit_or c.args.self.value d)) (ap (λ (x : ℕ). x * 2 ^ 63 % 2 ^ 64) c.from.ensures ∙ last_digit c.args.b (omega (arith, c.if-b-gt1.false)))
    ∙ pushed_last base c.args.self c.args.b c.if-taken-lt-LAST_BYTE.false (omega (arith, c.if-b-gt1.false))
