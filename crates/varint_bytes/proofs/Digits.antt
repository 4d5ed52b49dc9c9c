-- A varint byte by byte, where there is room: what each byte leaves to write.
use mathlib.Core.Path.{◌≡◌, refl, sym, subst}
use mathlib.Core.List.{List}
use Prim.Native.Nat.{ℕ, ◌+◌, ◌/◌, ◌%◌, ◌≤◌, ◌<◌}
use native.Mathlib.Omega.{arith}
use lib.ListN.{length, set}
use Rattle.layout.specs.Varint.{shortest}
use Rattle.varint.proofs.Shortest.{shortest_one, shortest-more}
use Rattle.putting.proofs.Turns.{Left, start, next, ended}
use Rattle.putting.specs.Put.{Puts}

module _ (b : List ℕ) (pos : ℕ) (o d : List ℕ) (at v : ℕ) (l : Left b pos o d at (shortest v)) (h : at < length b) where
  here : at < length d
  here = let z : length d ≡ length b = l.size in omega arith

  pub more_digits : 128 ≤ v → (at' : ℕ) → at' ≡ at + 1 → Left b pos o (set d at (v % 128 + 128)) at' (shortest (v / 128))
  more_digits m at' e = subst (λ (k : ℕ). Left b pos o (set d at (v % 128 + 128)) k (shortest (v / 128))) (sym e) (next b pos o d at (shortest v) l _ _ (shortest-more v m) here)

  pub last_digit : v < 128 → (at' : ℕ) → at' ≡ at + 1 → Puts b pos o (set d at v) at'
  last_digit m at' e = subst (λ (k : ℕ). Puts b pos o (set d at v) k) (sym e) (ended b pos o d at (shortest v) l v (shortest_one v m) here)

-- its first byte and its second
module _ (b : List ℕ) (pos v : ℕ) where
  pub one_byte : pos < length b → v < 128 → Puts b pos (shortest v) (set b pos v) (pos + 1)
  one_byte h k = last_digit b pos (shortest v) b pos v (start b pos (shortest v)) h k (pos + 1) refl

  module _ (h : pos + 2 ≤ length b) (m : 128 ≤ v) where
    one : Left b pos (shortest v) (set b pos (v % 128 + 128)) (pos + 1) (shortest (v / 128))
    one = more_digits b pos (shortest v) b pos v (start b pos (shortest v)) (omega arith) m (pos + 1) refl

    pub two_bytes : v / 128 < 128 → Puts b pos (shortest v) (set (set b pos (v % 128 + 128)) (pos + 1) (v / 128)) (pos + 2)
    two_bytes k = last_digit b pos (shortest v) _ (pos + 1) (v / 128) one (omega arith) k (pos + 2) (omega arith)

    pub after_two : 128 ≤ v / 128 → Left b pos (shortest v) (set (set b pos (v % 128 + 128)) (pos + 1) (v / 128 % 128 + 128)) (pos + 2) (shortest (v / 128 / 128))
    after_two k = more_digits b pos (shortest v) _ (pos + 1) (v / 128) one (omega arith) k (pos + 2) (omega arith)
