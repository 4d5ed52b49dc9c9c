-- Elements of one size, f's, from a place on: the rest of the first that is not all out, a block of those that there is room for, and the
-- next.
use mathlib.Core.Path.{◌≡◌, ap}
use mathlib.Core.List.{List}
use Prim.Native.Nat.{ℕ, ◌+◌, ◌-◌, ◌*◌, ◌/◌, ◌≤◌, ◌<◌, min}
use native.Mathlib.Omega.{arith}
use lib.ListN.{length, take, drop, get_or}
use Rattle.layout.specs.Field.{Width, fp32, fp64, bytes_of, low_bytes, each}
use Rattle.low_bytes.proofs.Low.{length_low}
use Rattle.putting.proofs.Turns.{whole_as}
use Rattle.putting.specs.Put.{Puts}
use Rattle.emit.specs.declared.Cursor.{Cursor}
use Rattle.emit.specs.Cursor.{Emitted}
use Rattle.elements.proofs.Resumed.{Resumed, out_evenly, resumed_start, resumed_next, resumed_run, run_fits, run_ends, resumed_last}

-- a float takes a byte at least and eight at most
pub sizes : (n : ℕ) (w : Width) → n ≡ bytes_of w → (0 < n) × (n ≤ 8)
sizes n fp32 e = (omega arith, omega arith)
sizes n fp64 e = (omega arith, omega arith)

module _ {A : Type 0} (bits : A → ℕ) (k : ℕ) (j : (0 < k) × (k ≤ 8)) (l : List A) (c : Cursor) (b : List ℕ) (whole part : ℕ) (q : (whole ≤ length l) × (whole * k + part ≡ c.skip) × (whole < length l → part < k)) where
  f : A → List ℕ
  f x = low_bytes k (bits x)

  sized : (x : A) → length (low_bytes k (bits x)) ≡ k
  sized x = length_low k (bits x)

  some : (x : A) → 1 ≤ length (low_bytes k (bits x))
  some x = let e = sized x in omega arith

  pub evenly_start : Resumed (λ x. low_bytes k (bits x)) l c b b c.pos whole part
  evenly_start =
      resumed_start (λ x. low_bytes k (bits x)) l c b whole part (out_evenly (λ x. low_bytes k (bits x)) l k (omega arith) sized c.skip whole part q.0 q.1 q.2)

  -- the first's rest is out, over d up to `at`
  module _ (i : whole < length l) (x : A) (n : ℕ) (e : n ≡ bits (get_or l whole x)) (d : List ℕ) (at : ℕ) (g : Puts b c.pos (drop part (low_bytes k n)) d at) where
    pub evenly_begun : Resumed (λ x. low_bytes k (bits x)) l c b d at (whole + 1) 0
    evenly_begun =
        resumed_next (λ x. low_bytes k (bits x)) l c b b c.pos whole part evenly_start some x _ d at i (ap (λ (v : ℕ). drop part (low_bytes k v)) e) g

    -- as many as there is room for
    module _ (inside : at ≤ length d) (m t : ℕ) (u : m ≡ min ((length d - at) / k) (length l - (whole + 1))) (r : t ≡ m) where
      pub block_fits : at + k * length (take t (drop (whole + 1) l)) ≤ length d
      block_fits = rw r (run_fits (λ x. low_bytes k (bits x)) l c b d at (whole + 1) evenly_begun inside k j.0 sized m u)

      -- they are out too, over d' up to `end`
      module _ (d' : List ℕ) (end : ℕ) (y : Puts d at (each (λ x. low_bytes k (bits x)) (take t (drop (whole + 1) l))) d' end) where
        block : Puts d at (each (λ x. low_bytes k (bits x)) (take m (drop (whole + 1) l))) d' end
        block = whole_as _ _ _ _ _ _ (ap (λ (v : ℕ). each (λ x. low_bytes k (bits x)) (take v (drop (whole + 1) l))) r) y

        pub evenly_ran : Resumed (λ x. low_bytes k (bits x)) l c b d' end (whole + 1 + m) 0
        evenly_ran = resumed_run (λ x. low_bytes k (bits x)) l c b d at (whole + 1) evenly_begun some m d' end block

        pub evenly_last : whole + 1 + m < length l → (x' : A) (n' : ℕ) → n' ≡ bits (get_or l (whole + 1 + m) x') → (d'' : List ℕ) (stop : ℕ) → Puts d' end (low_bytes k n') d'' stop
            → Emitted c b (each (λ x. low_bytes k (bits x)) l) (record { pos = stop; skip = 0 }) d''
        evenly_last a x' n' e' d'' stop z =
            let s = run_ends (λ x. low_bytes k (bits x)) l c b d at (whole + 1) evenly_begun inside k j.0 sized m u a d' end block in
            resumed_last (λ x. low_bytes k (bits x)) l c b d' end (whole + 1 + m) evenly_ran some k sized x' _ d'' stop a (ap (low_bytes k) e') s z
