-- An output written from a place on, and one written whole where there is room for the longest.
use Prim.Native.Nat.{ℕ, ◌+◌, ◌-◌, ◌≤◌, min}
use mathlib.Core.Path.{◌≡◌, refl, sym, ap, ◌∙◌, subst}
use mathlib.Core.List.{List, [], ◌++◌}
use native.Mathlib.Omega.{arith}
use lib.ListN.{length, drop, drop_of_length-le, length-append}
use Rattle.layout.specs.Limits.{base, longest}
use Rattle.emit.specs.declared.Cursor.{Cursor}
use Rattle.putting.specs.Put.{put, reached}
use Rattle.emit.specs.Cursor.{placed, moved, Emitted}
use Rattle.putting.proofs.Writes.{put-none, put-put, reached_is, reached-reached, length-put}
use Rattle.output.specs.Output.{output_most}

-- a segment that is the whole output, from a place on
pub landed : (c : Cursor) (b s t : List ℕ) (c1 : Cursor) (b1 : List ℕ) → t ≡ s → Emitted c b s c1 b1 → (c1.pos ≡ reached b c.pos (drop c.skip t)) × (b1 ≡ put b c.pos (drop c.skip t))
unfolding placed moved
landed c b s t c1 b1 e (p, q) = (
  ap (λ (k : Cursor). k.pos) p ∙ ap (λ (l : List ℕ). reached b c.pos (drop c.skip l)) (sym e),
  q ∙ ap (λ (l : List ℕ). put b c.pos (drop c.skip l)) (sym e),
)

pub drop-none : (n : ℕ) → drop {A = ℕ} n [] ≡ []
drop-none n = drop_of_length-le {A = ℕ} [] {i = n} (omega arith)

-- no output
pub landed_none : (b : List ℕ) (pos place : ℕ) (t : List ℕ) → t ≡ [] → (pos ≡ reached b pos (drop place t)) × (b ≡ put b pos (drop place t))
landed_none b pos place t e =
    let z : drop place t ≡ [] = ap (drop place) e ∙ drop-none place in
    let r : pos ≡ pos + min 0 (length b - pos) = omega arith in (
      r ∙ sym (reached_is b pos []) ∙ ap (reached b pos) (sym z),
      sym (put-none b pos [] refl) ∙ ap (put b pos) (sym z),
    )

-- a whole output, where there is room for it
abbrev pub Fitting : List ℕ → ℕ → List ℕ → ℕ → List ℕ → Type 0
Fitting b pos s end b' = (end ≡ reached b pos s) × (b' ≡ put b pos s) × (length s ≤ output_most)

pub fitting_one : (b : List ℕ) (pos : ℕ) (s t : List ℕ) (end : ℕ) (b' : List ℕ) → t ≡ s → (end ≡ reached b pos s) × (b' ≡ put b pos s) → length s ≤ output_most → Fitting b pos t end b'
fitting_one b pos s t end b' e (p, q) l = subst (λ (x : List ℕ). Fitting b pos x end b') (sym e) (p, q, l)

pub fitting_none : (b : List ℕ) (pos : ℕ) (t : List ℕ) → t ≡ [] → Fitting b pos t pos b
fitting_none b pos t e = let w = landed_none b pos 0 t e in (w.0, w.1, subst (λ (x : List ℕ). length x ≤ output_most) (sym e) (omega arith))

pub fitting_two : (b : List ℕ) (pos : ℕ) (s u t : List ℕ) (mid : ℕ) (b1 : List ℕ) (end : ℕ) (b2 : List ℕ) → pos ≤ length b → t ≡ s ++ u → (mid ≡ reached b pos s) × (b1 ≡ put b pos s) → (end ≡ reached b1 mid u) × (b2 ≡ put b1 mid u)
    → length s ≤ longest base → length u ≤ longest base → Fitting b pos t end b2
fitting_two b pos s u t mid b1 end b2 h e (p, q) (f, g) l m =
    fitting_one b pos (s ++ u) t end b2 e
    (f ∙ ap (λ (x : List ℕ). reached x mid u) q ∙ ap (λ (n : ℕ). reached (put b pos s) n u) p ∙ reached-reached b pos s u h, g ∙ ap (λ (x : List ℕ). put x mid u) q ∙ ap (λ (n : ℕ). put (put b pos s) n u) p ∙ put-put b pos s u h)
    (omega (arith, length-append s u))

-- where the second of two starts
pub mid_room : (b : List ℕ) (pos : ℕ) (s : List ℕ) (mid : ℕ) (b1 : List ℕ) → pos + output_most ≤ length b → length s ≤ longest base → (mid ≡ reached b pos s) × (b1 ≡ put b pos s) → mid + longest base ≤ length b1
mid_room b pos s mid b1 h l (p, q) =
    let r = reached_is b pos s in
    let n : length b1 ≡ length b = ap length q ∙ length-put b pos s (omega arith) in
    omega arith
