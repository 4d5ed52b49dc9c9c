-- `emit::put_third`: each byte leaves the varint of the rest to write.
use native.Mathlib.Omega.{arith}
use Rattle.layout.specs.Varint.{shortest}
use Rattle.putting.proofs.Turns.{followed}
use Rattle.putting.specs.Put.{Puts}
use Rattle.varint_bytes.proofs.Digits.{one_byte, two_bytes, after_two, last_digit}
use Rattle.emit.proofs.put_third.Goals as goal

pub returns-then-v-lt128 : goal.returns-then-v-lt128
returns-then-v-lt128 c = one_byte _ _ _ (omega arith) c.if-v-lt128.true

pub returns-then-second-lt128 : goal.returns-then-second-lt128
returns-then-second-lt128 c = two_bytes _ _ _ (omega arith) c.if-v-lt128.false c.if-second-lt128.true

pub returns-then-third-lt128 : goal.returns-then-third-lt128
returns-then-third-lt128 c = last_digit _ _ _ _ _ _ (after_two _ _ _ (omega arith) c.if-v-lt128.false c.if-second-lt128.false) (omega arith) c.if-third-lt128.true _ (omega arith)

pub returns : goal.returns
returns c = (let done : Puts c.args.buf.now c.args.pos (shortest c.args.v) c.put_whole.new.buf c.put_whole.result = followed _ _ _ _ _ _ _ _ (after_two _ _ _ (omega arith) c.if-v-lt128.false c.if-second-lt128.false) c.put_whole.ensures in done)
