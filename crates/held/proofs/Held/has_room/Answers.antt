-- `held::Held::has_room`: room for the headers and the bytes together; beyond a usize there is none.
use Prim.Native.Nat.{ℕ, ◌+◌, ◌-◌, ◌≤◌, ◌<◌, min}
use mathlib.Core.Path.{◌≡◌, refl, ◌∙◌}
use mathlib.Core.Bool.{Bool, true, false}
use native.Mathlib.Omega.{arith}
use lib.Dec.{leb}
use lib.ListN.{length}
use borrow.Author.Tests.{leb-true, leb-false}
use Rattle.held.specs.Headers.{headers_of}
use Rattle.at_ease.specs.AtOnce.{pair_most, room_for}
use Rattle.at_ease.proofs.AtOnce.{has_room, room_for_lem}
use Rattle.held.proofs.Held.has_room.Goals as goal

together : (size pos n k h a : ℕ) → k ≡ h → n ≡ min (k + a) 18446744073709551615 → size ≤ 18446744073709551615 → room_for size pos n ≡ leb (h + pair_most + a) (size - pos)
together size pos n k h a e0 q l = go (leb (h + pair_most + a) (size - pos)) refl
  where
    go : (t : Bool) → leb (h + pair_most + a) (size - pos) ≡ t → room_for size pos n ≡ t
    go true e = let m : h + pair_most + a ≤ size - pos = leb-true _ _ e in room_for_lem size pos n (omega arith)
    go false e = none (room_for size pos n) refl
      where
        none : (t : Bool) → room_for size pos n ≡ t → t ≡ false
        none true f = let m : size - pos < h + pair_most + a = leb-false _ _ e in let z = has_room size pos n f in absurd (omega arith)
        none false f = refl

pub returns : goal.returns
returns c = c.has_room.ensures ∙ together c.args.size c.args.pos _ _ (length (headers_of c.args.self.count c.args.self.places)) c.args.more c.len.ensures.0 c.saturating_add.ensures (omega arith)
