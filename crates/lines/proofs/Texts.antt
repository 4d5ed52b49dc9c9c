-- Texts put one after another are one text.
use mathlib.Core.Path.{◌≡◌, refl, sym, ap, ◌∙◌}
use mathlib.Core.Bool.{Bool, true, false}
use mathlib.Core.List.{List, [], ◌∷◌, ◌++◌, append-nil}
use native.Mathlib.Numerals.{add-one}
use lib.Seq.{slice, take-suc, take_all}
use Prim.Native.Nat.{ℕ, zero, suc, ◌+◌, ◌-◌, ◌≤◌, ◌<◌, min}
use native.Mathlib.Omega.{arith}
use lib.Dec.{leb}
use lib.ListN.{length, take, drop, get_or, length-take, drop_of_length-le}
use borrow.Author.Tests.{leb-true, leb-false}
use Rattle.layout.specs.Field.{each}
use Rattle.putting.proofs.Writes.{put-none, reached_is}
use Rattle.emit.proofs.Elements.{each_append}
use Rattle.putting.proofs.Turns.{in_a_row}
use Rattle.event_list.specs.Lines.{decimal, byte_line}
use Rattle.putting.specs.Put.{Puts}

pub nothing : (b : List ℕ) (at : ℕ) → Puts b at [] b at
nothing b at = let e : at ≡ at + min 0 (length b - at) = omega arith in (e ∙ sym (reached_is b at []), sym (put-none b at [] refl))

pub joined : (b : List ℕ) (at : ℕ) (s : List ℕ) (c : List ℕ) (m : ℕ) (t d : List ℕ) (r : ℕ) → Puts b at s c m → Puts c m t d r → Puts b at (s ++ t) d r
joined b at s c m t d r p q = in_a_row b at s c m p t d r q

pub each_none : (f : ℕ → List ℕ) → each f [] ≡ []
unfolding each
each_none f = refl

each_one : (f : ℕ → List ℕ) (x : ℕ) → each f (x ∷ []) ≡ f x
unfolding each
each_one f x = append-nil (f x)

-- the text of one element more
pub each_more : (f : ℕ → List ℕ) (l : List ℕ) (i : ℕ) → i < length l → each f (take i l) ++ f (get_or l i 0) ≡ each f (take (i + 1) l)
each_more f l i h =
    let e : take (i + 1) l ≡ take i l ++ (get_or l i 0 ∷ []) = ap (λ (k : ℕ). take k l) (add-one i) ∙ take-suc l i 0 h in
    let a : each f (get_or l i 0 ∷ []) ≡ f (get_or l i 0) = each_one f (get_or l i 0) in
    ap (λ (t : List ℕ). each f (take i l) ++ t) (sym a) ∙ sym (each_append f (take i l) (get_or l i 0 ∷ [])) ∙ ap (each f) (sym e)

pub byte_line_lem : (b : ℕ) → byte_line b ≡ 89 ∷ 32 ∷ (decimal b ++ (10 ∷ []))
unfolding byte_line
byte_line_lem b = refl

-- a part of a list, its bounds brought within the list
pub clipped : (f t : ℕ) (l : List ℕ) → slice (min f (min t (length l))) (min t (length l)) l ≡ slice f t l
clipped f t l = ap (drop (min f (min t (length l)))) (ends (leb t (length l)) refl) ∙ starts (leb f (min t (length l))) refl
  where
    ends : (x : Bool) → leb t (length l) ≡ x → take (min t (length l)) l ≡ take t l
    ends true e = let h : t ≤ length l = leb-true _ _ e in let m : min t (length l) ≡ t = omega arith in ap (λ (k : ℕ). take k l) m
    ends false e = let h : length l < t = leb-false _ _ e in take_all (min t (length l)) l (omega arith) ∙ sym (take_all t l (omega arith))

    starts : (x : Bool) → leb f (min t (length l)) ≡ x → drop (min f (min t (length l))) (take t l) ≡ drop f (take t l)
    starts true e = let h : f ≤ min t (length l) = leb-true _ _ e in let m : min f (min t (length l)) ≡ f = omega arith in ap (λ (k : ℕ). drop k (take t l)) m
    starts false e =
        let h : min t (length l) < f = leb-false _ _ e in
        let n : length (take t l) ≡ min t (length l) = length-take t l in
        drop_of_length-le (take t l) {i = min f (min t (length l))} (omega arith) ∙ sym (drop_of_length-le (take t l) {i = f} (omega arith))

taken : (k : ℕ) → take {A = ℕ} k [] ≡ []
taken zero = refl
taken (suc k) = refl

-- a part from f up to t, however it is cut out
pub part_is : (f t : ℕ) (l : List ℕ) → take (t - f) (drop f l) ≡ slice f t l
part_is zero t l = let e : t - 0 ≡ t = omega arith in ap (λ (k : ℕ). take k l) e
part_is (suc f) zero l = let e : 0 - suc f ≡ 0 = omega arith in ap (λ (k : ℕ). take k (drop (suc f) l)) e
part_is (suc f) (suc t) [] = taken (suc t - suc f)
part_is (suc f) (suc t) (x ∷ l) = let e : suc t - suc f ≡ t - f = omega arith in ap (λ (k : ℕ). take k (drop f l)) e ∙ part_is f t l
