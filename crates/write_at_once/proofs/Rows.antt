-- Two varints and what follows them, written one after another where there is room for the longest that they can be.
use mathlib.Core.Path.{◌≡◌, ◌∙◌, subst}
use mathlib.Core.List.{List, ◌++◌}
use mathlib.Core.Bool.{Bool, true}
use Prim.Native.Nat.{ℕ, ◌+◌, ◌^◌, ◌≤◌, ◌<◌}
use native.Mathlib.Omega.{arith}
use lib.ListN.{length, length-append}
use Rattle.std.specs.Prelude.{Option, Some}
use Rattle.layout.specs.Limits.{base, longest}
use Rattle.layout.specs.Varint.{shortest}
use Rattle.varint.proofs.Shortest.{length-longest, length_some}
use Rattle.putting.specs.Put.{put, reached, Puts}
use Rattle.putting.proofs.Writes.{reached_is}
use Rattle.putting.proofs.Turns.{in_a_row, same_size}
use Rattle.elements.specs.OutAfter.{row_of}
use Rattle.places.specs.Places.{clean}
use Rattle.at_ease.specs.AtOnce.{pair_most, room_for, roomy_at, PutsIf, PutsWhole}
use Rattle.at_ease.proofs.AtOnce.{has_room, made-whole, whole}

-- a varint ends where it should, where there is room for the longest
module _ (b : List ℕ) (pos v : ℕ) (d : List ℕ) (end n : ℕ) (h : pos + longest base + n ≤ length b) (f : v < 2 ^ base.bits) (w : Puts b pos (shortest v) d end) where
  ends : (end ≡ pos + length (shortest v)) × (length d ≡ length b)
  ends = let r = w.0 ∙ reached_is b pos (shortest v) in let l = length-longest base v f in (omega arith, same_size b pos (shortest v) d end w)

  fits : end + n ≤ length d
  fits = let (p, q) = ends in let l = length-longest base v f in omega arith

module _ (b : List ℕ) (pos n header : ℕ) (b1 : List ℕ) (mid : ℕ) (r : room_for (length b) pos n ≡ true) (f : header < 2 ^ base.bits) (w : Puts b pos (shortest header) b1 mid) where
  room : pos + pair_most + n ≤ length b
  room = has_room (length b) pos n r

  second : mid + longest base + n ≤ length b1
  second = let h = room in let k = fits b pos header b1 mid (longest base + n) (omega arith) f w in omega arith

  pub second_fits : mid + longest base ≤ length b1
  second_fits = let h = second in omega arith

  pub pair_made : (s b2 : List ℕ) (end : ℕ) → Puts b1 mid s b2 end → Puts b pos (shortest header ++ s) b2 end
  pair_made s b2 end g = in_a_row b pos (shortest header) b1 mid w s b2 end g

  module _ (v : ℕ) (b2 : List ℕ) (at : ℕ) (g : v < 2 ^ base.bits) (m : Puts b1 mid (shortest v) b2 at) where
    pub rest-fits : at + n ≤ length b2
    rest-fits = fits b1 mid v b2 at n second g m

    pub row_made : (u b3 : List ℕ) (end : ℕ) → Puts b2 at u b3 end → Puts b pos (shortest header ++ (shortest v ++ u)) b3 end
    row_made u b3 end k = pair_made (shortest v ++ u) b3 end (in_a_row b1 mid (shortest v) b2 at m u b3 end k)

    row_fits : (u : List ℕ) → at + length u ≤ length b2 → pos + length (shortest header ++ (shortest v ++ u)) ≤ length b
    row_fits u k =
        let h = room in
        let x = ends b pos header b1 mid (longest base + n) (omega arith) f w in
        let y = ends b1 mid v b2 at n second g m in
        let a = length-append (shortest header) (shortest v ++ u) in
        let c = length-append (shortest v) u in
        omega arith

    -- an array's, for which there was room
    pub array_made : (t : Bool) → t ≡ true → (u b3 : List ℕ) (end : ℕ) → (end ≡ reached b2 at u) × (b3 ≡ put b2 at u) × (at + length u ≤ length b2) → PutsWhole t b pos (shortest header ++ (shortest v ++ u)) b3 (Some end)
    array_made t e u b3 end (p, q, k) =
        let l = length_some header in
        let a = length-append (shortest header) (shortest v ++ u) in
        made-whole t b pos _ b3 end e (omega arith) (row_fits u k) (row_made u b3 end (p, q))

-- ---- by the number of the header, as it is made

module _ (b : List ℕ) (pos h n : ℕ) (places d : List ℕ) (end : Option ℕ) (e : h ≡ n) (f : h < 2 ^ base.bits) where
  pub pair_whole : (v : ℕ) → v < 2 ^ base.bits → PutsIf (roomy_at (length b) pos places 0) b pos (shortest h ++ shortest v) d end → PutsWhole (roomy_at (length b) pos places 0) b pos (shortest n ++ shortest v) d end
  pair_whole v g w =
      let a = length-append (shortest h) (shortest v) in
      let l = length_some h in
      let lh = length-longest base h f in
      let lv = length-longest base v g in
      subst (λ (x : ℕ). PutsWhole (roomy_at (length b) pos places 0) b pos (shortest x ++ shortest v) d end) e (whole (clean places) b pos 0 _ d end (omega arith) (omega arith) w)

  pub field-whole : (v m : ℕ) (u : List ℕ) → v ≡ m → v < 2 ^ base.bits → PutsIf (roomy_at (length b) pos places (length u)) b pos (shortest h ++ (shortest v ++ u)) d end → PutsWhole (roomy_at (length b) pos places (length u)) b pos (shortest n ++ (shortest m ++ u)) d end
  field-whole v m u r g w =
      let a = length-append (shortest h) (shortest v ++ u) in
      let c = length-append (shortest v) u in
      let l = length_some h in
      let lh = length-longest base h f in
      let lv = length-longest base v g in
      subst (λ (y : ℕ). PutsWhole (roomy_at (length b) pos places (length u)) b pos (shortest n ++ (shortest y ++ u)) d end) r
      (subst (λ (x : ℕ). PutsWhole (roomy_at (length b) pos places (length u)) b pos (shortest x ++ (shortest v ++ u)) d end) e (whole (clean places) b pos (length u) _ d end (omega arith) (omega arith) w))

pub row-whole : {A : Type 0} (t : Bool) (b : List ℕ) (pos h n : ℕ) (f : A → List ℕ) (l : List A) (d : List ℕ) (end : Option ℕ) → h ≡ n → PutsWhole t b pos (row_of h f l) d end → PutsWhole t b pos (row_of n f l) d end
row-whole t b pos h n f l d end e w = subst (λ (x : ℕ). PutsWhole t b pos (row_of x f l) d end) e w
