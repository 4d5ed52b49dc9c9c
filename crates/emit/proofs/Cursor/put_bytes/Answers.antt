-- `emit::Cursor::put_bytes`: the copy from the bytes to skip on, and how many are left to skip.
use mathlib.Core.Path.{refl}
use native.Mathlib.Omega.{arith}
use Rattle.emit.proofs.Segments.{some_left}
use Rattle.emit.proofs.Cursor.put_bytes.Goals as goal

pub returns : goal.returns
returns c = some_left _ _ _ _ _ _ _ (omega arith) refl c.put_own.ensures.0 c.put_own.ensures.1
