-- The places of held ids: a test of each from a place on, clearing and dropping.
use mathlib.Core.Path.{◌≡◌, refl, sym, ap, ◌∙◌}
use mathlib.Core.List.{List, [], ◌∷◌, ◌++◌}
use mathlib.Core.Bool.{Bool, true, false, ◌&&◌}
use Prim.Native.Nat.{ℕ, suc, ◌+◌, ◌-◌, ◌≤◌, ◌<◌, min}
use native.Mathlib.Numerals.{add-one}
use native.Mathlib.Omega.{arith}
use lib.ListN.{length, drop, get_or, set, replicate, length-replicate, replicate-append-replicate, length-append, length-drop, drop_of_length-le, get_or-replicate, get_or-append}
use lib.Seq.{drop-cons, set_at, append_snoc, get_or-append-add, get_or-drop, get_or-set_same, get_or-set_other}
use Rattle.std.specs.Prelude.{IsTrue, ◌↔◌}
use Rattle.std.specs.List.{All, AllPass, list_all}
use Rattle.std.proofs.lemmas.List.Sums.{AllPass-from_list_all, list_all-from_AllPass}
use borrow.Author.Tests.{le-leb, leb-true, leb-false, eq-eqb, eqb-true}
use lib.Dec.{leb, eqb}
use Rattle.places.specs.Places.{every, zeroed}

pub both : (a b : Bool) → (a && b) ≡ true → (a ≡ true) × (b ≡ true)
both true b e = (refl, e)
both false b e = let z : ◌≡◌ {A = ℕ} 0 1 = cc in absurd (omega arith)

-- ---- a test of each, as the library says it

all_every : (p : ℕ → Bool) (xs : List ℕ) → list_all p xs ≡ every p xs
unfolding every
all_every p [] = refl
all_every p (x ∷ xs) = ap (λ (b : Bool). p x && b) (all_every p xs)

pub passes_every : (p : ℕ → Bool) (xs : List ℕ) (r : Bool) → IsTrue r ↔ AllPass p xs → r ≡ every p xs
passes_every p xs true h = sym (sym (all_every p xs) ∙ list_all-from_AllPass p xs (h.0 refl))
passes_every p xs false h = go (every p xs) refl
  where
    go : (b : Bool) → every p xs ≡ b → false ≡ b
    go true e = h.1 (AllPass-from_list_all p xs (all_every p xs ∙ e))
    go false e = refl

pub all_legal : (most : ℕ) (xs : List ℕ) (r : Bool) → IsTrue r ↔ All (λ x. x ≤ most) xs → r ≡ every (λ x. leb x most) xs
all_legal most xs r h = passes_every (λ x. leb x most) xs r (λ t k d l. le-leb _ _ (h.0 t k d l), λ a. h.1 (λ k d l. leb-true _ _ (a k d l)))

pub all_zero : (xs : List ℕ) (r : Bool) → IsTrue r ↔ All (λ x. x ≡ 0) xs → r ≡ every (λ x. eqb x 0) xs
all_zero xs r h = passes_every (λ x. eqb x 0) xs r (λ t k d l. eq-eqb _ _ (h.0 t k d l), λ a. h.1 (λ k d l. eqb-true _ _ (a k d l)))

pub drop_min : (n : ℕ) (xs : List ℕ) → drop (min n (length xs)) xs ≡ drop n xs
drop_min n xs = go (leb n (length xs)) refl
  where
    go : (t : Bool) → leb n (length xs) ≡ t → drop (min n (length xs)) xs ≡ drop n xs
    go true e = let h : n ≤ length xs = leb-true _ _ e in let m : min n (length xs) ≡ n = omega arith in ap (λ (k : ℕ). drop k xs) m
    go false e =
        let h : length xs < n = leb-false _ _ e in
        let m : min n (length xs) ≡ length xs = omega arith in
        ap (λ (k : ℕ). drop k xs) m ∙ drop_of_length-le xs {i = length xs} (omega arith) ∙ sym (drop_of_length-le xs {i = n} (omega arith))

-- ---- clearing and dropping

pub zeroed-more : (xs : List ℕ) (i : ℕ) → i < length xs → set (zeroed i xs) i 0 ≡ zeroed (i + 1) xs
zeroed-more xs i h =
    ap (λ (t : List ℕ). set (replicate i 0 ++ t) i 0) (drop-cons xs i 0 h)
    ∙ set_at (replicate i 0) (get_or xs i 0) (drop (suc i) xs) 0 i (length-replicate i 0)
    ∙ sym (append_snoc (replicate i 0) 0 (drop (suc i) xs))
    ∙ ap (λ (t : List ℕ). t ++ drop (suc i) xs) (replicate-append-replicate i 1 0)
    ∙ ap (λ (k : ℕ). replicate (i + 1) 0 ++ drop k xs) (sym (add-one i))

pub length-zeroed : (xs : List ℕ) (i : ℕ) → i ≤ length xs → length (zeroed i xs) ≡ length xs
length-zeroed xs i h = length-append (replicate i 0) (drop i xs) ∙ omega (arith, length-replicate {A = ℕ} i 0, length-drop i xs)

-- In plain words, for any numbers: cleared, the one at place i is 0 below the count and as it was from the count on; dropped, the last
-- used is 0 and each other as it was. (d is what is read beyond the last place.)
pub zeroed_below : (xs : List ℕ) (n i d : ℕ) → i < n → get_or (zeroed n xs) i d ≡ 0
zeroed_below xs n i d h = get_or-append (replicate n 0) (drop n xs) d i (omega (arith, length-replicate {A = ℕ} n 0)) ∙ get_or-replicate n i 0 d h

pub zeroed_beyond : (xs : List ℕ) (n i d : ℕ) → n ≤ i → get_or (zeroed n xs) i d ≡ get_or xs i d
zeroed_beyond xs n i d h =
    let e : i ≡ length {A = ℕ} (replicate n 0) + (i - n) = omega (arith, length-replicate {A = ℕ} n 0) in
    let o : n + (i - n) ≡ i = omega arith in
    ap (λ (k : ℕ). get_or (zeroed n xs) k d) e
    ∙ get_or-append-add (replicate n 0) (drop n xs) (i - n) d
    ∙ get_or-drop n xs (i - n) d
    ∙ ap (λ (k : ℕ). get_or xs k d) o

pub dropped_last : (xs : List ℕ) (n d : ℕ) → 0 < n → n ≤ length xs → get_or (set xs (n - 1) 0) (n - 1) d ≡ 0
dropped_last xs n d h l = get_or-set_same xs (n - 1) 0 d (omega arith)

pub dropped_others : (xs : List ℕ) (n i d : ℕ) → (i ≡ n - 1 → ⊥) → get_or (set xs (n - 1) 0) i d ≡ get_or xs i d
dropped_others xs n i d h = get_or-set_other xs (n - 1) i 0 d h
