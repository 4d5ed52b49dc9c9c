-- A loop that writes a list byte by byte: what is still to write, from where it stands, comes to the same as the whole from the start.
use mathlib.Core.Path.{◌≡◌, refl, sym, ap, ◌∙◌, subst}
use mathlib.Core.List.{List, [], ◌∷◌, ◌++◌}
use Prim.Native.Nat.{ℕ, suc, ◌+◌, ◌-◌, ◌≤◌, ◌<◌, min}
use native.Mathlib.Omega.{arith}
use mathlib.Core.Bool.{Bool, true, false}
use lib.Dec.{leb}
use lib.ListN.{length, drop, get_or, set, length-set, length-drop}
use lib.Seq.{drop-cons}
use borrow.Author.Tests.{leb-true, leb-false}
use Rattle.putting.specs.Put.{put, reached, Puts}
use Rattle.putting.proofs.Writes.{put-none, put_full, put_cons, reached_is, reached_cons, same_length, put_twice, reached_twice}

-- o from pos on over b, where s is left to write from `at` on over d
pub record Left (b : List ℕ) (pos : ℕ) (o d : List ℕ) (at : ℕ) (s : List ℕ) : Type 0 where
  pub size : length d ≡ length b
  pub same : put d at s ≡ put b pos o
  pub ends : reached d at s ≡ reached b pos o

pub start : (b : List ℕ) (pos : ℕ) (o : List ℕ) → Left b pos o b pos o
start b pos o = record { size = refl; same = refl; ends = refl }

module _ (b : List ℕ) (pos : ℕ) (o d : List ℕ) (at : ℕ) (s : List ℕ) (l : Left b pos o d at s) where
  pub next : (x : ℕ) (t : List ℕ) → s ≡ x ∷ t → at < length d → Left b pos o (set d at x) (at + 1) t
  next x t e h =
      record {
        size = simp length-set l.size;
        same = put_cons d at x t h ∙ ap (put d at) (sym e) ∙ l.same;
        ends = reached_cons d at x t h ∙ ap (reached d at) (sym e) ∙ l.ends;
      }

  pub no_room : length d ≤ at → Puts b pos o d at
  no_room h = let e : at ≡ at + min (length s) (length d - at) = omega arith in (e ∙ sym (reached_is d at s) ∙ l.ends, sym (put_full d at s h) ∙ l.same)

  pub none_left : length s ≡ 0 → Puts b pos o d at
  none_left h = let e : at ≡ at + min (length s) (length d - at) = omega arith in (e ∙ sym (reached_is d at s) ∙ l.ends, sym (put-none d at s h) ∙ l.same)

-- the last one
pub ended : (b : List ℕ) (pos : ℕ) (o d : List ℕ) (at : ℕ) (s : List ℕ) (l : Left b pos o d at s) (x : ℕ) → s ≡ x ∷ [] → at < length d → Puts b pos o (set d at x) (at + 1)
ended b pos o d at s l x e h = none_left b pos o (set d at x) (at + 1) [] (next b pos o d at s l x [] e h) refl

-- what is left is written in one go
pub followed : (b : List ℕ) (pos : ℕ) (o d : List ℕ) (at : ℕ) (s d' : List ℕ) (end : ℕ) → Left b pos o d at s → Puts d at s d' end → Puts b pos o d' end
followed b pos o d at s d' end l (e, f) = (e ∙ l.ends, f ∙ l.same)

-- the first part of what is left is written in one go
pub followed_by : (b : List ℕ) (pos : ℕ) (o d : List ℕ) (at : ℕ) (s t d' : List ℕ) (end : ℕ) → Left b pos o d at (s ++ t) → Puts d at s d' end → Left b pos o d' end t
followed_by b pos o d at s t d' end l (e, f) =
    record {
      size = ap length f ∙ same_length d at s ∙ l.size;
      same = ap (λ (k : ℕ). put d' k t) e ∙ ap (λ (x : List ℕ). put x (reached d at s) t) f ∙ put_twice d at s t ∙ l.same;
      ends = ap (λ (k : ℕ). reached d' k t) e ∙ ap (λ (x : List ℕ). reached x (reached d at s) t) f ∙ reached_twice d at s t ∙ l.ends;
    }

-- a write of a list that is spelled otherwise
pub whole_as : (b : List ℕ) (pos : ℕ) (s t d : List ℕ) (end : ℕ) → s ≡ t → Puts b pos s d end → Puts b pos t d end
whole_as b pos s t d end e (p, q) = (p ∙ ap (reached b pos) e, q ∙ ap (put b pos) e)

-- two writes in a row
module _ (b : List ℕ) (pos : ℕ) (s b1 : List ℕ) (mid : ℕ) (w : Puts b pos s b1 mid) where
  pub in_a_row : (t b2 : List ℕ) (end : ℕ) → Puts b1 mid t b2 end → Puts b pos (s ++ t) b2 end
  in_a_row t b2 end g = followed b pos (s ++ t) b1 mid t b2 end (followed_by b pos (s ++ t) b pos s t b1 mid (start b pos (s ++ t)) w) g

  pub same_size : length b1 ≡ length b
  same_size = ap length w.1 ∙ same_length b pos s

  pub not_beyond : mid ≤ pos + length s
  not_beyond = let r = reached_is b pos s in let e : mid ≡ reached b pos s = w.0 in omega arith

-- a turn of a copy: from the place `from` of l to the place pos
pub copied : (b : List ℕ) (pos : ℕ) (o d l : List ℕ) (from k : ℕ) → Left b pos o d (pos + k) (drop (from + k) l) → pos + k < length d → from + k < length l
    → Left b pos o (set d (pos + k) (get_or l (from + k) 0)) (pos + (k + 1)) (drop (from + (k + 1)) l)
copied b pos o d l from k h hd hl =
    let p : pos + k + 1 ≡ pos + (k + 1) = omega arith in
    let q : suc (from + k) ≡ from + (k + 1) = omega arith in
    let e : drop (from + k) l ≡ get_or l (from + k) 0 ∷ drop (from + (k + 1)) l = drop-cons l (from + k) 0 hl ∙ ap (λ (j : ℕ). get_or l (from + k) 0 ∷ drop j l) q in
    subst (λ (at : ℕ). Left b pos o (set d (pos + k) (get_or l (from + k) 0)) at (drop (from + (k + 1)) l)) p (next b pos o d (pos + k) (drop (from + k) l) h _ _ e hd)

-- its end, where the room or the list is used up
pub copied_all : (b : List ℕ) (pos : ℕ) (o d l : List ℕ) (from k : ℕ) → Left b pos o d (pos + k) (drop (from + k) l) → k ≡ min (length l - from) (length b - pos) → pos ≤ length b → from ≤ length l
    → Puts b pos o d (pos + k)
copied_all b pos o d l from k h e hb hl = go (leb (length l - from) (length b - pos)) refl
  where
    go : (t : Bool) → leb (length l - from) (length b - pos) ≡ t → Puts b pos o d (pos + k)
    go true q =
        let g : length l - from ≤ length b - pos = leb-true _ _ q in
        none_left b pos o d (pos + k) (drop (from + k) l) h (omega (arith, length-drop (from + k) l))
    go false q =
        let g : length b - pos < length l - from = leb-false _ _ q in
        let z : length d ≡ length b = h.size in
        no_room b pos o d (pos + k) (drop (from + k) l) h (omega arith)

pub copy_start : (b : List ℕ) (pos : ℕ) (l : List ℕ) (from : ℕ) → Left b pos (drop from l) b (pos + 0) (drop (from + 0) l)
copy_start b pos l from =
    let p : pos ≡ pos + 0 = omega arith in
    let q : from ≡ from + 0 = omega arith in
    subst (λ (at : ℕ). Left b pos (drop from l) b at (drop (from + 0) l)) p (subst (λ (k : ℕ). Left b pos (drop from l) b pos (drop k l)) q (start b pos (drop from l)))

-- ---- by another name for what is put

pub says : (b : List ℕ) (at : ℕ) (s t b' : List ℕ) (r : ℕ) → s ≡ t → Puts b at s b' r → Puts b at t b' r
says b at s t b' r e p = subst (λ (l : List ℕ). Puts b at l b' r) e p
