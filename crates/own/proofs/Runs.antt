-- Fields and numbers in their shortest form, one after another.
use Prim.Native.Nat.{ℕ, ◌+◌, ◌^◌, ◌<◌}
use mathlib.Core.Path.{◌≡◌, refl, sym, ap, ◌∙◌, subst}
use mathlib.Core.List.{List, [], ◌∷◌, ◌++◌, append_assoc, append-nil}
use lib.ListN.{length, length-append}
use Rattle.layout.specs.Limits.{Limits}
use Rattle.layout.specs.Varint.{shortest}
use Rattle.layout.specs.Field.{Field, each}
use Rattle.layout.specs.Copy.{field_bytes, encode}
use Rattle.layout.specs.Message.{All, depth_after}
use Rattle.laws.specs.Legal.{Legal, Nests, Balanced}
use Rattle.shortest.specs.Own.{OwnFields, Numbers}

each_append : {A : Type 0} (f : A → List ℕ) (xs ys : List A) → each f (xs ++ ys) ≡ each f xs ++ each f ys
unfolding each
each_append f [] ys = refl
each_append f (x ∷ xs) ys = ap (λ (l : List ℕ). f x ++ l) (each_append f xs ys) ∙ sym (append_assoc (f x) (each f xs) (each f ys))

all_append : {A : Type 0} (P : A → Type 0) (xs ys : List A) → All P xs → All P ys → All P (xs ++ ys)
all_append P [] ys a b = b
all_append P (x ∷ xs) ys a b = (a.0, all_append P xs ys a.1 b)

balanced_append : (L : Limits) (d e f : ℕ) (xs ys : List Field) → Balanced L d xs e → Balanced L e ys f → Balanced L d (xs ++ ys) f
balanced_append L d e f [] ys a b = subst (λ (n : ℕ). Balanced L n ys f) (sym a) b
balanced_append L d e f (x ∷ xs) ys a b = (a.0, balanced_append L (depth_after d x) e f xs ys a.1 b)

-- ---- fields

pub fields_none : (L : Limits) (d : ℕ) → OwnFields L d [] d
unfolding encode each
fields_none L d = record { fields = []; legal = tt; balanced = refl; bytes = refl }

pub fields_one : (L : Limits) (d : ℕ) (x : Field) (bs : List ℕ) → Legal L x → Nests L d x → bs ≡ field_bytes x → OwnFields L d bs (depth_after d x)
unfolding encode each
fields_one L d x bs l n e = record { fields = x ∷ []; legal = (l, tt); balanced = (n, refl); bytes = e ∙ sym (append-nil (field_bytes x)) }

pub fields_append : (L : Limits) (d e f : ℕ) (xs ys : List ℕ) → OwnFields L d xs e → OwnFields L e ys f → OwnFields L d (xs ++ ys) f
unfolding encode
fields_append L d e f xs ys a b =
    record {
      fields = a.fields ++ b.fields;
      legal = all_append (Legal L) a.fields b.fields a.legal b.legal;
      balanced = balanced_append L d e f a.fields b.fields a.balanced b.balanced;
      bytes = ap (λ (l : List ℕ). l ++ ys) a.bytes ∙ ap (λ (l : List ℕ). encode a.fields ++ l) b.bytes ∙ sym (each_append field_bytes a.fields b.fields);
    }

-- ---- numbers

pub numbers_none : (L : Limits) → Numbers L 0 []
unfolding each
numbers_none L = record { list = []; count = refl; fit = tt; bytes = refl }

pub numbers_one : (L : Limits) (v : ℕ) (bs : List ℕ) → v < 2 ^ L.bits → bs ≡ shortest v → Numbers L 1 bs
unfolding each
numbers_one L v bs h e = record { list = v ∷ []; count = refl; fit = (h, tt); bytes = e ∙ sym (append-nil (shortest v)) }

pub numbers_append : (L : Limits) (m n : ℕ) (xs ys : List ℕ) → Numbers L m xs → Numbers L n ys → Numbers L (m + n) (xs ++ ys)
numbers_append L m n xs ys a b =
    record {
      list = a.list ++ b.list;
      count = length-append a.list b.list ∙ ap (λ (k : ℕ). k + length b.list) a.count ∙ ap (λ (k : ℕ). m + k) b.count;
      fit = all_append (λ x. x < 2 ^ L.bits) a.list b.list a.fit b.fit;
      bytes = ap (λ (l : List ℕ). l ++ ys) a.bytes ∙ ap (λ (l : List ℕ). each shortest a.list ++ l) b.bytes ∙ sym (each_append shortest a.list b.list);
    }
