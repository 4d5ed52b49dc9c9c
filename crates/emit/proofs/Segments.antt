-- A cursor over the segments of one output: how one segment moves it, and two in a row as one.
use mathlib.Core.Path.{◌≡◌, sym, ap, ◌∙◌, subst}
use mathlib.Core.List.{List, ◌++◌}
use Prim.Native.Nat.{ℕ, ◌-◌, ◌≤◌}
use native.Mathlib.Omega.{arith}
use lib.ListN.{length, drop, length-append}
use Rattle.emit.specs.declared.Cursor.{Cursor}
use Rattle.putting.specs.Put.{put, reached}
use Rattle.emit.specs.Cursor.{placed, moved, Emitted}
use Rattle.putting.proofs.Places.{same_where_out, stays_where_out, put_from_twice, reached_from_twice}

-- ---- one segment

pub respelled : (c : Cursor) (b s t : List ℕ) (c' : Cursor) (b' : List ℕ) → s ≡ t → Emitted c b s c' b' → Emitted c b t c' b'
respelled c b s t c' b' e h = subst (λ (l : List ℕ). Emitted c b l c' b') e h

-- cursors at one place, with as many bytes to skip
cursor_as : (p p' k k' : ℕ) → p ≡ p' → k ≡ k' → ◌≡◌ {A = Cursor} (record { pos = p; skip = k }) (record { pos = p'; skip = k' })
cursor_as p p' k k' e f = ap (λ (x : ℕ). record { pos = x; skip = k }) e ∙ ap (λ (x : ℕ). record { pos = p'; skip = x }) f

-- what is left of it, t, goes from the cursor on
pub some_left : (c : Cursor) (b s t : List ℕ) (end n : ℕ) (b' : List ℕ) → n ≡ c.skip - length s → t ≡ drop c.skip s → end ≡ reached b c.pos t
    → b' ≡ put b c.pos t → Emitted c b s (record { pos = end; skip = n }) b'
unfolding placed moved
some_left c b s t end n b' z e p q = (cursor_as _ _ _ _ (p ∙ ap (reached b c.pos) e) z, q ∙ ap (put b c.pos) e)

-- none of it is out
pub all_left : (c : Cursor) (b s : List ℕ) (end : ℕ) (b' : List ℕ) → c.skip ≡ 0 → (end ≡ reached b c.pos s) × (b' ≡ put b c.pos s) → Emitted c b s (record { pos = end; skip = 0 }) b'
all_left c b s end b' h (p, q) = some_left c b s s end 0 b' (omega arith) (ap (λ (k : ℕ). drop k s) (sym h)) p q

-- all of it was out before
pub none_left : (c : Cursor) (b s : List ℕ) (n : ℕ) → n ≡ c.skip - length s → length s ≤ c.skip → Emitted c b s (record { pos = c.pos; skip = n }) b
unfolding placed moved
none_left c b s n e h = (cursor_as _ _ _ _ (sym (stays_where_out b c.pos c.skip s h)) e, sym (same_where_out b c.pos c.skip s h))

-- ---- segments in a row

module _ (c : Cursor) (b s t : List ℕ) where
  moved-moved : moved (moved c b s) (placed c b s) t ≡ moved c b (s ++ t)
  unfolding moved placed
  moved-moved = cursor_as _ _ _ _ (reached_from_twice b c.pos c.skip s t) (omega (arith, length-append s t))

  placed-placed : placed (moved c b s) (placed c b s) t ≡ placed c b (s ++ t)
  unfolding moved placed
  placed-placed = put_from_twice b c.pos c.skip s t

-- two segments are one, by what calls answer: c1 and b1 after s, c2 and b2 after t
pub joined : (c : Cursor) (b s : List ℕ) (c1 : Cursor) (b1 t : List ℕ) (c2 : Cursor) (b2 : List ℕ) → Emitted c b s c1 b1 → Emitted c1 b1 t c2 b2 → Emitted c b (s ++ t) c2 b2
joined c b s c1 b1 t c2 b2 (e, f) (g, k) = (
  g ∙ ap (λ (d : Cursor). moved d b1 t) e ∙ ap (λ (l : List ℕ). moved (moved c b s) l t) f ∙ moved-moved c b s t,
  k ∙ ap (λ (d : Cursor). placed d b1 t) e ∙ ap (λ (l : List ℕ). placed (moved c b s) l t) f ∙ placed-placed c b s t,
)

pub joined-three : (c : Cursor) (b s : List ℕ) (c1 : Cursor) (b1 t : List ℕ) (c2 : Cursor) (b2 u : List ℕ) (c3 : Cursor) (b3 : List ℕ) → Emitted c b s c1 b1
    → Emitted c1 b1 t c2 b2 → Emitted c2 b2 u c3 b3 → Emitted c b (s ++ (t ++ u)) c3 b3
joined-three c b s c1 b1 t c2 b2 u c3 b3 e f g = joined c b s c1 b1 (t ++ u) c3 b3 e (joined c1 b1 t c2 b2 u c3 b3 f g)
