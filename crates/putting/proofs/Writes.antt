-- Writes that stop at the buffer's end: one element at a time, and two in a row as one.
use mathlib.Core.Path.{◌≡◌, refl, sym, ap, ◌∙◌}
use mathlib.Core.List.{List, [], ◌∷◌, ◌++◌, append_assoc, append-nil}
use mathlib.Core.Bool.{Bool, true, false}
use lib.Dec.{leb}
use borrow.Author.Tests.{leb-true, leb-false}
use Prim.Native.Nat.{ℕ, zero, suc, ◌+◌, ◌-◌, ◌≤◌, ◌<◌, min}
use native.Mathlib.Nat.{add_assoc}
use native.Mathlib.Omega.{arith}
use lib.ListN.{length, take, drop, set, take-append-drop, length-append, length-take, length-drop}
use lib.Seq.{length-take-le, take_at, drop_at, drop-drop, set_split, take_all, take-append-le, take-append-add}
use Rattle.putting.specs.Put.{over, put, reached}

-- ---- a whole list over a buffer

over_is : (d : List ℕ) (at : ℕ) (s : List ℕ) → over d at s ≡ take at d ++ (s ++ drop (at + length s) d)
unfolding over
over_is d at s = refl

length_over : (d : List ℕ) (at : ℕ) (s : List ℕ) → at + length s ≤ length d → length (over d at s) ≡ length d
unfolding over
length_over d at s h = simp (length-append, length-take, length-drop) (omega arith)

over_none : (d : List ℕ) (at : ℕ) → over d at [] ≡ d
unfolding over
over_none d at = let e : at + 0 ≡ at = omega arith in ap (λ (k : ℕ). take at d ++ drop k d) e ∙ take-append-drop at d

over_one : (d : List ℕ) (at x : ℕ) → at < length d → set d at x ≡ over d at (x ∷ [])
unfolding over
over_one d at x h = let e : suc at ≡ at + 1 = omega arith in set_split d at x h ∙ ap (λ (k : ℕ). take at d ++ (x ∷ drop k d)) e

-- what stands before the end of the write, and after it
pub take-over : (d : List ℕ) (at : ℕ) (s : List ℕ) → at ≤ length d → take (at + length s) (over d at s) ≡ take at d ++ s
unfolding over
take-over d at s h =
    let n : length (take at d ++ s) ≡ at + length s = simp (length-append, length-take) (omega arith) in
    ap (take (at + length s)) (sym (append_assoc (take at d) s _)) ∙ take_at (take at d ++ s) _ _ n

drop-over : (d : List ℕ) (at : ℕ) (s : List ℕ) → at ≤ length d → drop (at + length s) (over d at s) ≡ drop (at + length s) d
unfolding over
drop-over d at s h =
    let n : length (take at d ++ s) ≡ at + length s = simp (length-append, length-take) (omega arith) in
    ap (drop (at + length s)) (sym (append_assoc (take at d) s _)) ∙ drop_at (take at d ++ s) _ _ n

-- two writes, one after the other
over-over : (d : List ℕ) (at : ℕ) (s t : List ℕ) → at ≤ length d → over (over d at s) (at + length s) t ≡ over d at (s ++ t)
over-over d at s t h =
    whole ∙ ap (λ (l : List ℕ). l ++ (t ++ drop (at + length s + length t) (over d at s))) (take-over d at s h)
    ∙ ap (λ (l : List ℕ). take at d ++ s ++ (t ++ l)) after
    ∙ append_assoc (take at d) s _ ∙ ap (λ (l : List ℕ). take at d ++ l) (sym (append_assoc s t _)) ∙ ap (λ (k : ℕ). take at d ++ (s ++ t ++ drop k d)) count ∙ last
  where
    whole : over (over d at s) (at + length s) t ≡ take (at + length s) (over d at s) ++ (t ++ drop (at + length s + length t) (over d at s))
    whole = over_is (over d at s) (at + length s) t

    after : drop (at + length s + length t) (over d at s) ≡ drop (at + length s + length t) d
    after = sym (drop-drop (length t) (at + length s) (over d at s)) ∙ ap (drop (length t)) (drop-over d at s h) ∙ drop-drop (length t) (at + length s) d

    count : at + length s + length t ≡ at + length (s ++ t)
    count = add_assoc at (length s) (length t) ∙ ap (λ (k : ℕ). at + k) (sym (length-append s t))

    last : take at d ++ (s ++ t ++ drop (at + length (s ++ t)) d) ≡ over d at (s ++ t)
    last = sym (over_is d at (s ++ t))

-- ---- as much of a list as there is room for

pub put_is : (d : List ℕ) (at : ℕ) (s : List ℕ) → put d at s ≡ over d at (take (length d - at) s)
unfolding put
put_is d at s = refl

pub reached_is : (d : List ℕ) (at : ℕ) (s : List ℕ) → reached d at s ≡ at + min (length s) (length d - at)
unfolding reached
reached_is d at s = refl

reached-take : (d : List ℕ) (at : ℕ) (s : List ℕ) → reached d at s ≡ at + length (take (length d - at) s)
reached-take d at s =
    let e : min (length s) (length d - at) ≡ min (length d - at) (length s) = omega arith in
    reached_is d at s ∙ ap (λ (k : ℕ). at + k) (e ∙ sym (length-take (length d - at) s))

pub length-put : (d : List ℕ) (at : ℕ) (s : List ℕ) → at ≤ length d → length (put d at s) ≡ length d
length-put d at s h = ap length (put_is d at s) ∙ length_over d at _ (simp length-take (omega arith))

-- what stands below the end of such a write
pub below : (d : List ℕ) (at : ℕ) (s : List ℕ) → at ≤ length d → take (at + length (take (length d - at) s)) (put d at s) ≡ take at d ++ take (length d - at) s
below d at s h = ap (take (at + length (take (length d - at) s))) (put_is d at s) ∙ take-over d at (take (length d - at) s) h

-- the room that is left, filled from a list that goes on
take_more : (n : ℕ) (s t : List ℕ) → take n s ++ take (n - length (take n s)) t ≡ take n (s ++ t)
take_more n s t = go (leb n (length s)) refl
  where
    go : (b : Bool) → leb n (length s) ≡ b → take n s ++ take (n - length (take n s)) t ≡ take n (s ++ t)
    go true q =
        let h : n ≤ length s = leb-true n (length s) q in
        let e : n - length (take n s) ≡ 0 = omega (arith, length-take-le n s h) in
        ap (λ (k : ℕ). take n s ++ take k t) e ∙ append-nil (take n s) ∙ sym (take-append-le n s t h)
    go false q =
        let h : length s < n = leb-false n (length s) q in
        let e : take n s ≡ s = take_all n s (omega arith) in
        let m : n ≡ length s + (n - length s) = omega arith in
        ap (λ (l : List ℕ). l ++ take (n - length l) t) e ∙ sym (take-append-add s t (n - length s)) ∙ ap (λ (k : ℕ). take k (s ++ t)) (sym m)

-- two writes that each stop at the buffer's end, as one
pub put-put : (d : List ℕ) (at : ℕ) (s t : List ℕ) → at ≤ length d → put (put d at s) (reached d at s) t ≡ put d at (s ++ t)
put-put d at s t h =
    let r : ℕ = length d - at in
    let k : ℕ = length (take r s) in
    let m : length (put d at s) - reached d at s ≡ r - k = ap (λ (x : ℕ). x - reached d at s) (length-put d at s h) ∙ ap (λ (x : ℕ). length d - x) (reached-take d at s) ∙ omega' (length d) at k in
    put_is (put d at s) (reached d at s) t
    ∙ ap (λ (n : ℕ). over (put d at s) (reached d at s) (take n t)) m
    ∙ ap (λ (p : ℕ). over (put d at s) p (take (r - k) t)) (reached-take d at s)
    ∙ ap (λ (l : List ℕ). over l (at + k) (take (r - k) t)) (put_is d at s)
    ∙ over-over d at (take r s) (take (r - k) t) h
    ∙ ap (over d at) (take_more r s t)
    ∙ sym (put_is d at (s ++ t))
  where
    omega' : (n a b : ℕ) → n - (a + b) ≡ n - a - b
    omega' n a b = omega arith

pub reached-reached : (d : List ℕ) (at : ℕ) (s t : List ℕ) → at ≤ length d → reached (put d at s) (reached d at s) t ≡ reached d at (s ++ t)
reached-reached d at s t h =
    let l : length (put d at s) ≡ length d = length-put d at s h in
    let r : reached d at s ≡ at + min (length s) (length d - at) = reached_is d at s in
    let e : reached d at s + min (length t) (length (put d at s) - reached d at s) ≡ at + min (length s + length t) (length d - at) = omega arith in
    reached_is (put d at s) (reached d at s) t ∙ e ∙ ap (λ (n : ℕ). at + min n (length d - at)) (sym (length-append s t)) ∙ sym (reached_is d at (s ++ t))

pub reached_le : (d : List ℕ) (at : ℕ) (s : List ℕ) → at ≤ length d → reached d at s ≤ length d
reached_le d at s h = let r : reached d at s ≡ at + min (length s) (length d - at) = reached_is d at s in omega arith

-- ---- nothing to write, no room, and one element

pub put-none : (d : List ℕ) (at : ℕ) (s : List ℕ) → length s ≡ 0 → put d at s ≡ d
put-none d at [] h = put_is d at [] ∙ over_none' d at (length d - at)
  where
    over_none' : (d : List ℕ) (at n : ℕ) → over d at (take n []) ≡ d
    over_none' d at zero = over_none d at
    over_none' d at (suc n) = over_none d at
put-none d at (x ∷ s) h = absurd (omega arith)

pub put_full : (d : List ℕ) (at : ℕ) (s : List ℕ) → length d ≤ at → put d at s ≡ d
put_full d at s h = let e : length d - at ≡ 0 = omega arith in put_is d at s ∙ ap (λ (n : ℕ). over d at (take n s)) e ∙ over_none d at

pub put_one : (d : List ℕ) (at x : ℕ) → at < length d → set d at x ≡ put d at (x ∷ [])
put_one d at x h =
    let e : take (length d - at) (x ∷ []) ≡ x ∷ [] = take_all (length d - at) (x ∷ []) (omega arith) in
    over_one d at x h ∙ ap (over d at) (sym e) ∙ sym (put_is d at (x ∷ []))

pub reached_one : (d : List ℕ) (at x : ℕ) → at < length d → at + 1 ≡ reached d at (x ∷ [])
reached_one d at x h = let e : at + 1 ≡ at + min 1 (length d - at) = omega arith in e ∙ sym (reached_is d at (x ∷ []))

pub put_cons : (d : List ℕ) (at x : ℕ) (t : List ℕ) → at < length d → put (set d at x) (at + 1) t ≡ put d at (x ∷ t)
put_cons d at x t h =
    ap (λ (l : List ℕ). put l (at + 1) t) (put_one d at x h)
    ∙ ap (λ (k : ℕ). put (put d at (x ∷ [])) k t) (reached_one d at x h)
    ∙ put-put d at (x ∷ []) t (omega arith)

pub reached_cons : (d : List ℕ) (at x : ℕ) (t : List ℕ) → at < length d → reached (set d at x) (at + 1) t ≡ reached d at (x ∷ t)
reached_cons d at x t h =
    ap (λ (l : List ℕ). reached l (at + 1) t) (put_one d at x h)
    ∙ ap (λ (k : ℕ). reached (put d at (x ∷ [])) k t) (reached_one d at x h)
    ∙ reached-reached d at (x ∷ []) t (omega arith)

-- ---- at every position: beyond the buffer's end nothing is put

reached_full : (d : List ℕ) (at : ℕ) (s : List ℕ) → length d ≤ at → reached d at s ≡ at
reached_full d at s h = let e : at + min (length s) (length d - at) ≡ at = omega arith in reached_is d at s ∙ e

pub same_length : (d : List ℕ) (at : ℕ) (s : List ℕ) → length (put d at s) ≡ length d
same_length d at s = go (leb at (length d)) refl
  where
    go : (x : Bool) → leb at (length d) ≡ x → length (put d at s) ≡ length d
    go true e = length-put d at s (leb-true _ _ e)
    go false e = ap length (put_full d at s (omega (arith, leb-false at (length d) e)))

pub put_twice : (d : List ℕ) (at : ℕ) (s t : List ℕ) → put (put d at s) (reached d at s) t ≡ put d at (s ++ t)
put_twice d at s t = go (leb at (length d)) refl
  where
    go : (x : Bool) → leb at (length d) ≡ x → put (put d at s) (reached d at s) t ≡ put d at (s ++ t)
    go true e = put-put d at s t (leb-true _ _ e)
    go false e =
        let h : length d ≤ at = omega (arith, leb-false at (length d) e) in
        ap (λ (l : List ℕ). put l (reached d at s) t) (put_full d at s h)
        ∙ ap (λ (n : ℕ). put d n t) (reached_full d at s h)
        ∙ put_full d at t h
        ∙ sym (put_full d at (s ++ t) h)

pub reached_twice : (d : List ℕ) (at : ℕ) (s t : List ℕ) → reached (put d at s) (reached d at s) t ≡ reached d at (s ++ t)
reached_twice d at s t = go (leb at (length d)) refl
  where
    go : (x : Bool) → leb at (length d) ≡ x → reached (put d at s) (reached d at s) t ≡ reached d at (s ++ t)
    go true e = reached-reached d at s t (leb-true _ _ e)
    go false e =
        let h : length d ≤ at = omega (arith, leb-false at (length d) e) in
        ap (λ (l : List ℕ). reached l (reached d at s) t) (put_full d at s h)
        ∙ ap (λ (n : ℕ). reached d n t) (reached_full d at s h)
        ∙ reached_full d at t h
        ∙ sym (reached_full d at (s ++ t) h)
