-- `as_is::float_elements`: an array's elements go as they came.
use Rattle.std.proofs.lemmas.Option.{IfSome_then}
use native.Mathlib.Omega.{arith}
use Prim.Native.Nat.{ℕ, ◌*◌, ◌≤◌}
use mathlib.Core.Path.{◌≡◌, ap}
use lib.ListN.{length}
use Rattle.layout.specs.Field.{bytes_of}
use Rattle.types.specs.Types.{width}
use mir.Syntax.{w8}
use mir.Val.{Fits}
use borrow.Author.Rules.{rules}
use Rattle.as_is.proofs.Laws.{floats_ahead, float_width, whole_floats, behind}
use Rattle.as_is.proofs.float_elements.Goals as goal

pub returns : goal.returns
returns c =
    let f : Fits w8 c.args.carried.depth = search rules in
    let all : c.min-n.result * c.bytes-size.result ≡ c.min-n.result * bytes_of (width c.args.w) = ap (λ (x : ℕ). c.min-n.result * x) c.bytes-size.ensures in
    let within : c.min-n.result * c.bytes-size.result ≤ length c.args.bytes.now = omega (arith, all, whole_floats c.args.w (length c.args.bytes.now) c.bytes-size.result c.min-n.result c.bytes-size.ensures (omega (arith, c.min-n.ensures))) in
    IfSome_then _ c.behind.ensures
    (behind c.floats.ensures
    (floats_ahead _ _ _ _ _ _ (omega (arith, f.fits)) c.requires.0 c.requires.1.0 c.requires.1.1 (omega (arith, c.min-n.ensures)) within c.args.w (λ j. (c.type_inv.bytes j).fits) all (float_width c.args.w).0))
