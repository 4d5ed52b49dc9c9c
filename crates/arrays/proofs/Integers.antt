-- An array of integers from its elements' bytes: how far it goes, where it stops before the buffer's end and where its elements are counted.
use mathlib.Core.Path.{◌≡◌, refl, sym, ap, ◌∙◌}
use mathlib.Core.List.{List, ◌++◌}
use mathlib.Core.Logic.{◌⊎◌, inl, inr}
use Prim.Native.Nat.{ℕ, ◌+◌, ◌-◌, ◌≤◌, ◌<◌, min}
use native.Mathlib.Omega.{arith}
use lib.Dec.{ltb}
use lib.ListN.{length, length-append}
use Rattle.layout.specs.Varint.{shortest}
use Rattle.layout.specs.Field.{each}
use Rattle.layout.specs.Limits.{base, pick}
use Rattle.emit.specs.declared.Cursor.{Cursor}
use Rattle.emit.proofs.Segments.{joined}
use Rattle.emit.specs.Cursor.{Emitted}
use Rattle.elements.specs.OutAfter.{OutAfter, elements_most}
use Rattle.elements.proofs.Resumed.{counted_up}
use Rattle.std.specs.Prelude.{Result, Ok}
use Rattle.types.specs.declared.Error.{Error}
use Rattle.outcomes.specs.declared.Reach.{Reach}
use Rattle.outcomes.specs.declared.Reach.TheVariants.{Through}
use Rattle.outcomes.specs.Outcome.{reaches}
use Rattle.outcomes.proofs.Outcomes.{reaches_full}
use Rattle.held.specs.Headers.{headers_of, head_of, Ended}
use Rattle.held.proofs.Ends.{ended, ended_as, stops_short, grouped}

-- outputs that both exceed the place and the room go equally far
alike : (pos size s t place : ℕ) → place + (size - pos) < s → place + (size - pos) < t → reaches pos size s place ≡ reaches pos size t place
alike pos size s t place h k = sym (reaches_full pos size s place _ (omega arith) (omega arith) refl) ∙ reaches_full pos size t place _ (omega arith) (omega arith) refl

-- how many bytes are looked at: the place and the room after it, or all that elements can take
abbrev far : ℕ → ℕ → ℕ
far place room = min (min (place + room) 18446744073709551615) (elements_most base.count)

-- n bytes after h, or r where both are too many
as_far : (pos size place h n r m most : ℕ) → most ≡ far place (size - pos) → m ≤ base.count
    → (r ≡ n) ⊎ ((most < r) × (most < n) × (most < elements_most m)) → reaches pos size (h + r) place ≡ reaches pos size (h + n) place
as_far pos size place h n r m most e k (inl q) = ap (λ (x : ℕ). reaches pos size (h + x) place) q
as_far pos size place h n r m most e k (inr (a, b, c)) = alike pos size (h + r) (h + n) place (omega arith) (omega arith)

module _ (held : ℕ) (places : List ℕ) (header : ℕ) {A : Type 0} (f : A → List ℕ) (l : List A) (o : List ℕ) (q : shortest header ++ (shortest (length l) ++ each f l) ≡ o)
    (c : Cursor) (b : List ℕ) (c1 : Cursor) (b1 : List ℕ) (c2 : Cursor) (b2 : List ℕ) (e : Emitted c b (head_of held places header (length l)) c1 b1) (g : Emitted c1 b1 (each f l) c2 b2) where
  output : Emitted c b (head_of held places header (length l) ++ each f l) c2 b2
  output = joined _ b _ c1 b1 _ c2 b2 e g

  spelled : head_of held places header (length l) ++ each f l ≡ headers_of held places ++ o
  spelled = grouped (headers_of held places) (shortest header) (shortest (length l)) (each f l) ∙ ap (λ (t : List ℕ). headers_of held places ++ t) q

  -- before the buffer's end
  pub stopped : c2.skip ≡ 0 → c2.pos < length b → Ended c.pos b (headers_of held places ++ o) c.skip (Ok (Through c2.pos)) b2
  stopped z k = ended_as c.pos b _ _ c.skip _ b2 spelled (stops_short c b _ c2 b2 output z k)

  -- by its elements' count
  pub counted-out : (most whole part r : ℕ) (x : Result Reach Error) → length l ≤ base.count → most ≡ far c.skip (length b - c.pos)
      → OutAfter f l most whole part → r ≡ pick (ltb whole (length l)) (most + 1) (most - part) → x ≡ reaches c.pos (length b) (length (head_of held places header (length l)) + r) c.skip
      → Ended c.pos b (headers_of held places ++ o) c.skip x b2
  counted-out most whole part r x k m s n t =
      ended_as c.pos b _ _ c.skip x b2 spelled (ended c b _ c2 b2 output _ x (sym (length-append (head_of held places header (length l)) (each f l))) (t ∙ as_far c.pos (length b) c.skip _ (length (each f l)) r (length l) most m k (counted_up f l most whole part r s n)))
