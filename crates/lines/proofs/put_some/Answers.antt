-- `lines::put_some`.
use mathlib.Core.Path.{sym, ap}
use mathlib.Core.List.{List}
use Prim.Native.Nat.{ℕ}
use Rattle.std.specs.Prelude.{Some}
use Rattle.shown.specs.declared.Part.{Part}
use Rattle.shown.specs.Spelled.{part_text}
use Rattle.putting.proofs.Turns.{says}
use Rattle.lines.proofs.Texts.{joined}
use Rattle.lines.proofs.put_some.Goals as goal

abbrev some_text : Part → List ℕ
some_text p = part_text (Some p)

pub returns-in-Number : goal.returns-in-Number
returns-in-Number c =
    says _ _ _ _ _ _ (sym (ap some_text c.in-Number.is)) (joined _ _ _ _ _ _ _ _ c.put_rest-next.ensures c.put_decimal.ensures)

pub returns-in-Minus : goal.returns-in-Minus
returns-in-Minus c =
    says _ _ _ _ _ _ (sym (ap some_text c.in-Minus.is)) (joined _ _ _ _ _ _ _ _ c.put_rest-next-in-Minus.ensures c.put_decimal-in-Minus.ensures)

pub returns-in-Bits32 : goal.returns-in-Bits32
returns-in-Bits32 c =
    says _ _ _ _ _ _ (sym (ap some_text c.in-Bits32.is)) (joined _ _ _ _ _ _ _ _ c.put_rest-next-in-Bits32.ensures c.put_hexadecimal.ensures)

pub returns-in-Bits64 : goal.returns-in-Bits64
returns-in-Bits64 c =
    says _ _ _ _ _ _ (sym (ap some_text c.in-Bits64.is)) (joined _ _ _ _ _ _ _ _ c.put_rest-next-in-Bits64.ensures c.put_hexadecimal-in-Bits64.ensures)
