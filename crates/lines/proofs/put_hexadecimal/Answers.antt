-- `lines::put_hexadecimal`: by as many digits as are asked for.
use Prim.Native.Nat.{ℕ, min, max}
use mathlib.Core.Path.{◌≡◌, subst, ◌∙◌}
use native.Mathlib.Omega.{arith}
use Rattle.io.specs.Digits.{IsDigitCount}
use Rattle.putting.proofs.Turns.{says}
use Rattle.lines.proofs.Numbers.{hexadecimal_is}
use Rattle.lines.proofs.put_hexadecimal.Goals as goal

pub returns : goal.returns
returns c =
    let r = c.requires in
    let w : min (max c.args.digits 1) 16 ≡ c.args.digits = omega arith in
    let l = subst (λ (k : ℕ). IsDigitCount 16 k c.args.n c.hex-k.result) w c.hex-k.ensures.len in
    says _ _ _ _ _ _ (c.hex-k.ensures.digits ∙ hexadecimal_is c.args.digits _ _ r.0 l r.2) c.put_rest.ensures
