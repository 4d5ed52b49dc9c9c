-- A field behind held headers, written at once.
use mathlib.Core.Path.{◌≡◌, ap, ◌∙◌}
use mathlib.Core.List.{List, ◌++◌}
use mathlib.Core.Bool.{Bool, true, ◌&&◌}
use Prim.Native.Nat.{ℕ, ◌+◌, ◌≤◌}
use native.Mathlib.Omega.{arith}
use lib.ListN.{length, drop, length-append}
use Rattle.emit.specs.declared.Cursor.{Cursor}
use Rattle.putting.specs.Put.{put, reached, Puts}
use Rattle.emit.specs.Cursor.{placed, moved, Emitted}
use Rattle.putting.proofs.Writes.{reached_is}
use Rattle.putting.proofs.Turns.{in_a_row, same_size}
use Rattle.std.specs.Prelude.{Option, Some, IsSome, Ok}
use Rattle.outcomes.specs.declared.Reach.TheVariants.{Through}
use Rattle.held.specs.Headers.{Ended}
use Rattle.at_ease.specs.AtOnce.{pair_most, room_for, PutsIf}
use Rattle.held.proofs.Ends.{at_once}
use Rattle.at_ease.proofs.AtOnce.{is_made, was_made, yes_both, room_for_lem}

as_whole : (c : Cursor) (b o : List ℕ) (c' : Cursor) (b' : List ℕ) → c.skip ≡ 0 → Emitted c b o c' b' → Puts b c.pos o b' c'.pos
unfolding moved placed
as_whole c b o c' b' z (e, f) = (ap (λ (x : Cursor). x.pos) e ∙ ap (λ (k : ℕ). reached b c.pos (drop k o)) z, f ∙ ap (λ (k : ℕ). put b c.pos (drop k o)) z)

-- the held headers h, and then the rest of the output, o: there is room for it, so it is written
module _ (c : Cursor) (b h o : List ℕ) (n : ℕ) (c1 : Cursor) (b1 : List ℕ) (rest : Bool) (found : Option ℕ) (b2 : List ℕ) (z : c.skip ≡ 0) (r : c.pos + (length h + pair_most + n) ≤ length b) (e : Emitted c b h c1 b1) (er : rest ≡ true) (w : PutsIf (room_for (length b1) c1.pos n && rest) b1 c1.pos o b2 found) where
  tested : (room_for (length b1) c1.pos n && rest) ≡ true
  tested =
      let w1 = as_whole c b h c1 b1 z e in
      let p1 : c1.pos ≡ reached b c.pos h = w1.0 in
      let p2 = reached_is b c.pos h in
      let m = same_size b c.pos h b1 c1.pos w1 in
      yes_both (room_for (length b1) c1.pos n) rest (room_for_lem (length b1) c1.pos n (omega arith)) er

  pub written : IsSome found
  written = is_made _ b1 c1.pos o b2 found tested w

  pub behind : (end : ℕ) → found ≡ Some end → length o ≤ pair_most + n → Ended c.pos b (h ++ o) c.skip (Ok (Through end)) b2
  behind end f l =
      let w1 = as_whole c b h c1 b1 z e in
      let w2 = was_made _ b1 c1.pos o b2 found end tested w f in
      let a = length-append h o in
      at_once c.pos b (h ++ o) c.skip end b2 z (omega arith) (in_a_row b c.pos h b1 c1.pos w1 o b2 end w2)
