-- What legal fields are written as is a byte string.
use Prim.Native.Nat.{ℕ, zero, suc, ◌+◌, ◌*◌, ◌/◌, ◌^◌, ◌<◌, ◌≤◌}
use mathlib.Core.Path.{subst, sym}
use mathlib.Core.List.{List, [], ◌∷◌, ◌++◌}
use native.Mathlib.Omega.{arith}
use lib.ListN.{length}
use Rattle.layout.specs.Limits.{Limits}
use Rattle.layout.specs.Varint.{shortest}
use Rattle.layout.specs.Zigzag.{zigzag}
use Rattle.layout.specs.Field.{Field, bytes_of, subtype_number, word, low_bytes, each, float, raw}
use Rattle.layout.specs.Field.{unsigned, signed, payload, unsigned_array, signed_array, float_array, begin, end}
use Rattle.layout.specs.Copy.{field_bytes, encode}
use Rattle.layout.specs.Message.{All, Bytes}
use Rattle.laws.specs.Legal.{Legal}
use Rattle.varint.proofs.Shortest.{by_groups, shortest_one, shortest-more}

bytes_append : (s t : List ℕ) → Bytes s → Bytes t → Bytes (s ++ t)
bytes_append [] t a b = b
bytes_append (x ∷ s) t a b = (a.0, bytes_append s t a.1 b)

shortest_bytes : (n : ℕ) → Bytes (shortest n)
shortest_bytes = by_groups (λ (n : ℕ). Bytes (shortest n)) one more
  where
    one : (n : ℕ) → n < 128 → Bytes (shortest n)
    one n h = subst Bytes (sym (shortest_one n h)) (omega arith, tt)

    more : (n : ℕ) → 128 ≤ n → Bytes (shortest (n / 128)) → Bytes (shortest n)
    more n h i = subst Bytes (sym (shortest-more n h)) (omega arith, i)

-- bytes behind a varint
behind : (n : ℕ) (bs : List ℕ) → Bytes bs → Bytes (shortest n ++ bs)
behind n bs a = bytes_append (shortest n) bs (shortest_bytes n) a

low_bytes_lem : (n x : ℕ) → Bytes (low_bytes n x)
unfolding low_bytes
low_bytes_lem zero x = tt
low_bytes_lem (suc n) x = (omega arith, low_bytes_lem n (x / 256))

each_bytes : {A : Type 0} (P : A → Type 0) (f : A → List ℕ) → ((a : A) → P a → Bytes (f a)) → (xs : List A) → All P xs → Bytes (each f xs)
unfolding each
each_bytes P f k [] h = tt
each_bytes P f k (x ∷ xs) h = bytes_append (f x) (each f xs) (k x h.0) (each_bytes P f k xs h.1)

field_bytes_lem : (L : Limits) (x : Field) → Legal L x → Bytes (field_bytes x)
unfolding field_bytes
field_bytes_lem L (unsigned id n) h = behind (id * 8 + 0) (shortest n) (shortest_bytes n)
field_bytes_lem L (signed id z) h = behind (id * 8 + 1) (shortest (zigzag z)) (shortest_bytes (zigzag z))
field_bytes_lem L (float id w x) h =
    behind (id * 8 + 2) (word (bytes_of w) (float w) ++ low_bytes (bytes_of w) x) (behind (bytes_of w * 8 + subtype_number (float w)) (low_bytes (bytes_of w) x) (low_bytes_lem (bytes_of w) x))
field_bytes_lem L (payload id r bs) h = behind (id * 8 + 2) (word (length bs) (raw r) ++ bs) (behind (length bs * 8 + subtype_number (raw r)) bs h.2)
field_bytes_lem L (unsigned_array id ns) h =
    behind (id * 8 + 3) (shortest (length ns) ++ each shortest ns) (behind (length ns) (each shortest ns) (each_bytes (λ n. n < 2 ^ L.bits) shortest (λ n p. shortest_bytes n) ns h.2))
field_bytes_lem L (signed_array id zs) h =
    behind (id * 8 + 4) (shortest (length zs) ++ each (λ z. shortest (zigzag z)) zs)
    (behind (length zs) (each (λ z. shortest (zigzag z)) zs) (each_bytes (λ z. zigzag z < 2 ^ L.bits) (λ z. shortest (zigzag z)) (λ z p. shortest_bytes (zigzag z)) zs h.2))
field_bytes_lem L (float_array id w xs) h =
    behind (id * 8 + 5) (shortest (length xs) ++ (word (bytes_of w) (float w) ++ each (low_bytes (bytes_of w)) xs))
    (behind (length xs) (word (bytes_of w) (float w) ++ each (low_bytes (bytes_of w)) xs)
    (behind (bytes_of w * 8 + subtype_number (float w)) (each (low_bytes (bytes_of w)) xs) (each_bytes (λ x. x < 256 ^ bytes_of w) (low_bytes (bytes_of w)) (λ x p. low_bytes_lem (bytes_of w) x) xs h.2)))
field_bytes_lem L (begin id) h = shortest_bytes (id * 8 + 6)
field_bytes_lem L (end id) h = shortest_bytes 7

pub encode_bytes : (L : Limits) (xs : List Field) → All (Legal L) xs → Bytes (encode xs)
unfolding encode
encode_bytes L xs h = each_bytes (Legal L) field_bytes (field_bytes_lem L) xs h
