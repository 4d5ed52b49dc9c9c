-- Writing at once: the room, two tests in a row, and a write that is made only where they pass.
use mathlib.Core.Path.{◌≡◌, refl, sym, ap, ◌∙◌, subst}
use mathlib.Core.List.{List}
use mathlib.Core.Bool.{Bool, true, false, not, ◌&&◌}
use Prim.Native.Nat.{ℕ, ◌+◌, ◌-◌, ◌≤◌, ◌<◌}
use native.Mathlib.Omega.{arith}
use lib.Dec.{leb}
use lib.ListN.{length, replicate}
use borrow.Author.Tests.{leb-true, le-leb, not-true, not-false}
use Rattle.putting.specs.Put.{reached, Puts}
use Rattle.places.specs.Places.{lazy_depth, every, clean}
use Rattle.std.specs.Prelude.{Option, Some, None, IsSome}
use Rattle.at_ease.specs.AtOnce.{pair_most, room_for, roomy_at, easy_at, easy_with, PutsIf, PutsWhole}
use Rattle.places.proofs.Places.{both}

-- ---- the room

pub has_room : (size pos n : ℕ) → room_for size pos n ≡ true → pos + pair_most + n ≤ size
unfolding room_for
has_room size pos n e =
    let a = both _ _ e in
    let b = both _ _ a.1 in
    let ha : pair_most ≤ size = leb-true _ _ a.0 in
    let hb : pos ≤ size - pair_most = leb-true _ _ b.0 in
    let hn : n ≤ size - pair_most - pos = leb-true _ _ b.1 in
    omega arith

pub room_for_lem : (size pos n : ℕ) → pos + pair_most + n ≤ size → room_for size pos n ≡ true
unfolding room_for
room_for_lem size pos n h = simp (le-leb pair_most size (omega arith), le-leb pos (size - pair_most) (omega arith), le-leb n (size - pair_most - pos) (omega arith))

-- ---- two tests

pub no_first : (a b : Bool) → a ≡ false → (a && b) ≡ false
no_first a b e = ap (λ (x : Bool). x && b) e

pub no_second : (a b : Bool) → a ≡ true → b ≡ false → (a && b) ≡ false
no_second a b e f = ap (λ (x : Bool). x && b) e ∙ f

pub yes_both : (a b : Bool) → a ≡ true → b ≡ true → (a && b) ≡ true
yes_both a b e f = ap (λ (x : Bool). x && b) e ∙ f

-- what the code's test says, turned round
module _ (x t : Bool) (e : x ≡ t) where
  pub fails : not x ≡ true → t ≡ false
  fails f = sym e ∙ not-true x f

  pub passes : not x ≡ false → t ≡ true
  passes f = sym e ∙ not-false x f

pub roomy : (x : Bool) (size pos n : ℕ) (places : List ℕ) → x ≡ roomy_at size pos places n → not x ≡ false → room_for size pos n ≡ true
roomy x size pos n places e f = (both (room_for size pos n) (clean places) (passes x _ e f)).0

-- ---- a write that is made where a test passes

pub made : (t : Bool) (b : List ℕ) (pos : ℕ) (o d : List ℕ) (end : ℕ) → t ≡ true → Puts b pos o d end → PutsIf t b pos o d (Some end)
made true b pos o d end e (p, q) = (ap (λ (n : ℕ). Some n) p, q)
made false b pos o d end e h = let z : ◌≡◌ {A = ℕ} 0 1 = cc in absurd (omega arith)

pub was_made : (t : Bool) (b : List ℕ) (pos : ℕ) (o d : List ℕ) (r : Option ℕ) (end : ℕ) → t ≡ true → PutsIf t b pos o d r → r ≡ Some end → Puts b pos o d end
was_made true b pos o d r end e (p, q) h = let z : end ≡ reached b pos o = cc in (z, q)
was_made false b pos o d r end e w h = let z : ◌≡◌ {A = ℕ} 0 1 = cc in absurd (omega arith)

pub is_made : (t : Bool) (b : List ℕ) (pos : ℕ) (o d : List ℕ) (r : Option ℕ) → t ≡ true → PutsIf t b pos o d r → IsSome r
is_made true b pos o d r e (p, q) = subst (λ (x : Option ℕ). IsSome x) (sym p) refl
is_made false b pos o d r e w = let z : ◌≡◌ {A = ℕ} 0 1 = cc in absurd (omega arith)

pub unmade : (t : Bool) (b : List ℕ) (pos : ℕ) (o : List ℕ) → t ≡ false → PutsIf t b pos o b None
unmade true b pos o e = let z : ◌≡◌ {A = ℕ} 0 1 = cc in absurd (omega arith)
unmade false b pos o e = (refl, refl)

-- and of an output with a byte at least and room for all of it

pub made-whole : (t : Bool) (b : List ℕ) (pos : ℕ) (o d : List ℕ) (end : ℕ) → t ≡ true → 0 < length o → pos + length o ≤ length b → Puts b pos o d end → PutsWhole t b pos o d (Some end)
made-whole t b pos o d end e z h w = let u = made t b pos o d end e w in (u.0, u.1, λ x. (z, h))

pub unmade_whole : (t : Bool) (b : List ℕ) (pos : ℕ) (o : List ℕ) → t ≡ false → PutsWhole t b pos o b None
unmade_whole t b pos o e = let u = unmade t b pos o e in (u.0, u.1, λ g. let x : true ≡ false = sym g ∙ e in let z : ◌≡◌ {A = ℕ} 0 1 = cc in absurd (omega arith))

-- where there is room for two varints and n bytes, and the output is no longer
pub whole : (rest : Bool) (b : List ℕ) (pos n : ℕ) (o d : List ℕ) (r : Option ℕ) → 0 < length o → length o ≤ pair_most + n → PutsIf (room_for (length b) pos n && rest) b pos o d r → PutsWhole (room_for (length b) pos n && rest) b pos o d r
whole rest b pos n o d r z l w = (w.0, w.1, λ t. let h = has_room (length b) pos n (both _ _ t).0 in (z, omega arith))

-- behind a test more, which the code makes first
module _ (x e t : Bool) (b : List ℕ) (pos : ℕ) (o : List ℕ) (q : x ≡ e) where
  pub refused : not x ≡ true → PutsWhole (e && t) b pos o b None
  refused f = unmade_whole (e && t) b pos o (no_first e t (fails x e q f))

  pub behind : (d : List ℕ) (r : Option ℕ) → not x ≡ false → PutsWhole t b pos o d r → PutsWhole (e && t) b pos o d r
  behind d r f w = subst (λ (y : Bool). PutsWhole (y && t) b pos o d r) (sym (passes x e q f)) w

-- what the test of a length says of it
pub within : (x : Bool) (depth held id n most : ℕ) → x ≡ easy_with depth held id n most → not x ≡ false → n ≤ most
within x depth held id n most q f = leb-true n most (both (easy_at depth held id) (leb n most) (passes x _ q f)).1

-- it has been made where it has an end, and nothing is altered where it has none
pub went : (t : Bool) (b : List ℕ) (pos : ℕ) (o d : List ℕ) (r : Option ℕ) (end : ℕ) → PutsWhole t b pos o d r → r ≡ Some end → (t ≡ true) × Puts b pos o d end × (pos + length o ≤ length b)
went true b pos o d r end (e, f, h) s = let z : end ≡ reached b pos o = cc in (refl, (z, f), (h refl).1)
went false b pos o d r end (e, f, h) s = let z : ◌≡◌ {A = ℕ} 0 1 = cc in absurd (omega arith)

pub stayed : (t : Bool) (b : List ℕ) (pos : ℕ) (o d : List ℕ) (r : Option ℕ) → PutsWhole t b pos o d r → r ≡ None → d ≡ b
stayed true b pos o d r (e, f, h) s = let z : ◌≡◌ {A = ℕ} 0 1 = cc in absurd (omega arith)
stayed false b pos o d r (e, f, h) s = f

pub clean_zeros : clean (replicate lazy_depth 0) ≡ true
unfolding every
clean_zeros = refl
