-- Segments that a loop emits one element after another: the bytes of a list's elements, and what is still owed at each turn.
use mathlib.Core.Path.{◌≡◌, refl, sym, ap, ◌∙◌, subst}
use mathlib.Core.List.{List, [], ◌∷◌, ◌++◌, map, append_assoc}
use Prim.Native.Nat.{ℕ, ◌+◌, ◌*◌, ◌≤◌, ◌<◌}
use native.Mathlib.Numerals.{add-one}
use native.Mathlib.Nat.{mul-suc, suc-mul, zero-mul}
use native.Mathlib.Omega.{arith}
use lib.ListN.{length, drop, get_or, length-append, drop_of_length-le}
use lib.Seq.{drop-cons}
use Rattle.layout.specs.Field.{each}
use Rattle.emit.specs.declared.Cursor.{Cursor}
use Rattle.emit.proofs.Segments.{none_left, joined}
use Rattle.emit.specs.Cursor.{Emitted}

-- ---- the bytes of a list's elements

module _ {A : Type 0} (f : A → List ℕ) where
  pub each_at : (l : List A) (i : ℕ) (d : A) → i < length l → each f (drop i l) ≡ f (get_or l i d) ++ each f (drop (i + 1) l)
  unfolding each
  each_at l i d h = ap (each f) (drop-cons l i d h) ∙ ap (λ (k : ℕ). f (get_or l i d) ++ each f (drop k l)) (sym (add-one i))

  pub each_end : (l : List A) (i : ℕ) → length l ≤ i → each f (drop i l) ≡ []
  unfolding each
  each_end l i h = ap (each f) (drop_of_length-le l {i = i} h)

  pub each_append : (s t : List A) → each f (s ++ t) ≡ each f s ++ each f t
  unfolding each
  each_append [] t = refl
  each_append (x ∷ s) t = ap (λ (l : List ℕ). f x ++ l) (each_append s t) ∙ sym (append_assoc (f x) (each f s) (each f t))

pub each_map : {A B : Type 0} (f : B → List ℕ) (g : A → B) (l : List A) → each f (map g l) ≡ each (λ x. f (g x)) l
unfolding each
each_map f g [] = refl
each_map f g (x ∷ l) = ap (λ (t : List ℕ). f (g x) ++ t) (each_map f g l)

-- ---- a count of those bytes: n so far, of the first i elements, none of them longer than m

pub record Counted {A : Type 0} (f : A → List ℕ) (m : ℕ) (l : List A) (n i : ℕ) : Type 0 where
  pub sum : n + length (each f (drop i l)) ≡ length (each f l)
  pub most : n ≤ m * i
  pub within : i ≤ length l

module _ {A : Type 0} (f : A → List ℕ) (m : ℕ) (l : List A) where
  pub count_start : Counted f m l 0 0
  count_start = record { sum = omega arith; most = omega arith; within = omega arith }

  pub count_next : (n i : ℕ) (d : A) (k : ℕ) → Counted f m l n i → i < length l → k ≡ length (f (get_or l i d)) → k ≤ m → Counted f m l (n + k) (i + 1)
  count_next n i d k c h e g =
      let a : length (each f (drop i l)) ≡ length (f (get_or l i d)) + length (each f (drop (i + 1) l)) = ap length (each_at f l i d h) ∙ length-append (f (get_or l i d)) (each f (drop (i + 1) l)) in
      let s = c.sum in
      let q = c.most in
      let r : m * (i + 1) ≡ m * i + m = ap (λ (j : ℕ). m * j) (add-one i) ∙ mul-suc m i in
      record { sum = omega arith; most = omega arith; within = omega arith }

  pub count_end : (n i : ℕ) → Counted f m l n i → length l ≤ i → n ≡ length (each f l)
  count_end n i c h = let z : length (each f (drop i l)) ≡ 0 = ap length (each_end f l i h) in let s = c.sum in omega arith

-- ---- what is owed: s, from c and b on, comes to the same as o from c₀ and b₀ on

abbrev pub Owing : Cursor → List ℕ → List ℕ → Cursor → List ℕ → List ℕ → Type 0
Owing c₀ b₀ o c b s = (c' : Cursor) (b' : List ℕ) → Emitted c b s c' b' → Emitted c₀ b₀ o c' b'

pub owing_start : (c : Cursor) (b o : List ℕ) → Owing c b o c b o
owing_start c b o c' b' e = e

module _ (c₀ : Cursor) (b₀ o : List ℕ) (c : Cursor) (b s : List ℕ) (w : Owing c₀ b₀ o c b s) where
  pub owing_next : (x t : List ℕ) (c1 : Cursor) (b1 : List ℕ) → s ≡ x ++ t → Emitted c b x c1 b1 → Owing c₀ b₀ o c1 b1 t
  owing_next x t c1 b1 e h c' b' g = w c' b' (subst (λ (l : List ℕ). Emitted c b l c' b') (sym e) (joined c b x c1 b1 t c' b' h g))

  pub owing_end : s ≡ [] → Emitted c₀ b₀ o c b
  owing_end e = w c b (subst (λ (l : List ℕ). Emitted c b l c b) (sym e) (nothing c b))
    where
      nothing : (c : Cursor) (b : List ℕ) → Emitted c b [] c b
      nothing c b = none_left c b [] c.skip (omega arith) (omega arith)

-- ---- elements of n bytes each

pub length-each : {A : Type 0} (f : A → List ℕ) (n : ℕ) → ((x : A) → length (f x) ≡ n) → (l : List A) → length (each f l) ≡ length l * n
unfolding each
length-each f n h [] = sym (zero-mul n)
length-each f n h (x ∷ l) =
    let i = length-each f n h l in
    let k = h x in
    let m = suc-mul (length l) n in
    length-append (f x) (each f l) ∙ omega arith
