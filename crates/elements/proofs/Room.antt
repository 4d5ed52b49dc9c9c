-- A loop that writes a list's elements where there is room for all: m bytes for each that is still to write, so that no turn meets the
-- buffer's end.
use mathlib.Core.Path.{◌≡◌, sym, ap, ◌∙◌, subst}
use mathlib.Core.List.{List, ◌++◌}
use Prim.Native.Nat.{ℕ, suc, ◌+◌, ◌-◌, ◌*◌, ◌^◌, ◌≤◌, ◌<◌, min}
use native.Mathlib.Nat.{mul-suc}
use native.Mathlib.Omega.{arith}
use lib.ListN.{length, take, drop, get_or, length-append, length-drop}
use lib.Seq.{take_all}
use Rattle.layout.specs.Limits.{base, longest}
use Rattle.layout.specs.Varint.{shortest}
use Rattle.layout.specs.Field.{each}
use Rattle.varint.proofs.Shortest.{length-longest}
use Rattle.putting.proofs.Writes.{reached_is}
use Rattle.putting.proofs.Turns.{Left, none_left, followed_by}
use Rattle.putting.specs.Put.{Puts, PutsAll}
use Rattle.emit.proofs.Elements.{each_at, each_end}

-- the elements r, the last ones of l, are left to write from `at` on over d
pub record Roomy {A : Type 0} (f : A → List ℕ) (m : ℕ) (l : List A) (b : List ℕ) (pos : ℕ) (d : List ℕ) (at : ℕ) (r : List A) : Type 0 where
  pub left : Left b pos (each f l) d at (each f r)
  pub room : at + m * length r ≤ length b
  pub sums : at + length (each f r) ≡ pos + length (each f l)

module _ {A : Type 0} (f : A → List ℕ) (m : ℕ) (l : List A) (b : List ℕ) (pos : ℕ) where
  module _ (d : List ℕ) (at : ℕ) (r : List A) (i : ℕ) (w : Roomy f m l b pos d at (drop i r)) where
    -- the room for one more, and what it leaves to the others
    turn : i < length r → at + m + m * length (drop (i + 1) r) ≤ length b
    turn h =
        let e : length (drop i r) ≡ suc (length (drop (i + 1) r)) = omega (arith, length-drop i r, length-drop (i + 1) r) in
        let k : at + m * length (drop i r) ≤ length b = w.room in
        let s : m * length (drop i r) ≡ m * length (drop (i + 1) r) + m = ap (λ (k : ℕ). m * k) e ∙ mul-suc m (length (drop (i + 1) r)) in
        omega arith

    pub roomy_here : i < length r → at + m ≤ length d
    roomy_here h = let t = turn h in let z : length d ≡ length b = w.left.size in omega arith

    pub roomy_next : (x : A) (s d' : List ℕ) (end : ℕ) → i < length r → s ≡ f (get_or r i x) → length s ≤ m → Puts d at s d' end → Roomy f m l b pos d' end (drop (i + 1) r)
    roomy_next x s d' end h q n g =
        let t = turn h in
        let y = roomy_here h in
        let e : each f (drop i r) ≡ s ++ each f (drop (i + 1) r) = each_at f r i x h ∙ ap (λ (k : List ℕ). k ++ each f (drop (i + 1) r)) (sym q) in
        let o : end ≡ at + min (length s) (length d - at) = g.0 ∙ reached_is d at s in
        let a = length-append s (each f (drop (i + 1) r)) in
        let c : length (each f (drop i r)) ≡ length (s ++ each f (drop (i + 1) r)) = ap length e in
        let p : at + length (each f (drop i r)) ≡ pos + length (each f l) = w.sums in
        record {
          left = followed_by b pos (each f l) d at s _ d' end (subst (λ (k : List ℕ). Left b pos (each f l) d at k) e w.left) g;
          room = omega arith;
          sums = omega arith;
        }

    -- none is left, and all of it was within the buffer
    pub roomy_end : length r ≤ i → PutsAll b pos (each f l) d at
    roomy_end h =
        let n : length (each f (drop i r)) ≡ 0 = ap length (each_end f r i h) in
        let p : at + length (each f (drop i r)) ≡ pos + length (each f l) = w.sums in
        let k : at + m * length (drop i r) ≤ length b = w.room in
        let q = none_left b pos (each f l) d at (each f (drop i r)) w.left n in
        (q.0, q.1, omega arith)

-- the slice after the first i elements has all of them
pub after : {A : Type 0} (r : List A) (i : ℕ) → take (length r - i) (drop i r) ≡ drop i r
after r i = let n = length-drop i r in take_all (length r - i) (drop i r) (omega arith)

-- a varint more
pub roomy_varint : {A : Type 0} (number : A → ℕ) (l : List A) (b : List ℕ) (pos : ℕ) (d : List ℕ) (at : ℕ) (r : List A) (i : ℕ) → Roomy (λ x. shortest (number x)) (longest base) l b pos d at (drop i r) → i < length r
    → (x : A) (n : ℕ) → n ≡ number (get_or r i x) → n < 2 ^ base.bits → (d' : List ℕ) (end : ℕ) → Puts d at (shortest n) d' end → Roomy (λ x. shortest (number x)) (longest base) l b pos d' end (drop (i + 1) r)
roomy_varint number l b pos d at r i w h x n e f d' end g =
    roomy_next (λ x. shortest (number x)) (longest base) l b pos d at r i w x (shortest n) d' end h (ap shortest e) (length-longest base n f) g
