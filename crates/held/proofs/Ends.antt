-- How a call ends whose output was emitted as far as there is room: the outcome, and what the buffer is then.
use mathlib.Core.Path.{◌≡◌, refl, sym, ap, ◌∙◌}
use mathlib.Core.List.{List, ◌++◌, append_assoc}
use mathlib.Core.Bool.{Bool, true, false}
use Prim.Native.Nat.{ℕ, ◌+◌, ◌-◌, ◌≤◌, ◌<◌, min}
use native.Mathlib.Omega.{arith}
use lib.Dec.{ltb}
use lib.ListN.{length, drop, length-drop}
use borrow.Author.Tests.{ltb-true, le-ltb}
use Rattle.layout.specs.Limits.{pick}
use Rattle.emit.specs.declared.Cursor.{Cursor}
use Rattle.putting.specs.Put.{put, reached, Puts}
use Rattle.emit.specs.Cursor.{placed, moved, Emitted}
use Rattle.putting.proofs.Writes.{put-none, reached_is}
use Rattle.std.specs.Prelude.{Result, Ok}
use Rattle.types.specs.declared.Error.{Error}
use Rattle.outcomes.specs.declared.Reach.{Reach}
use Rattle.outcomes.specs.declared.Reach.TheVariants.{Through}
use Rattle.outcomes.specs.Outcome.{reaches}
use Rattle.outcomes.proofs.Outcomes.{reaches_through}
use Rattle.held.specs.Headers.{buffer_after, Ended}

-- held headers, a field's header and the varint after it, and the rest
pub grouped : (held a b c : List ℕ) → held ++ (a ++ b) ++ c ≡ held ++ (a ++ (b ++ c))
grouped held a b c = append_assoc held (a ++ b) c ∙ ap (λ (l : List ℕ). held ++ l) (append_assoc a b c)

-- how a call ends, for an output that is spelled otherwise
pub ended_as : (pos : ℕ) (b o o' : List ℕ) (place : ℕ) (r : Result Reach Error) (b' : List ℕ) → o ≡ o' → Ended pos b o place r b' → Ended pos b o' place r b'
ended_as pos b o o' place r b' q (e, f) = (e ∙ ap (λ (l : List ℕ). reaches pos (length b) (length l) place) q, f ∙ ap (λ (l : List ℕ). buffer_after pos b l place) q)

module _ (c : Cursor) (b o : List ℕ) (c' : Cursor) (b' : List ℕ) (e : Emitted c b o c' b') where
  -- where the place lies beyond the output, nothing was written
  left_any : b' ≡ buffer_after c.pos b o c.skip
  unfolding buffer_after placed
  left_any = go (ltb (length o) c.skip) refl
    where
      go : (t : Bool) → ltb (length o) c.skip ≡ t → b' ≡ pick t b (put b c.pos (drop c.skip o))
      go true q = let l : length o < c.skip = ltb-true _ _ q in e.1 ∙ put-none b c.pos (drop c.skip o) (omega (arith, length-drop c.skip o))
      go false q = e.1

  -- where the emission ends, and what of the place is left
  ends_at : (c'.pos ≡ c.pos + min (length o - c.skip) (length b - c.pos)) × (c'.skip ≡ c.skip - length o)
  unfolding moved
  ends_at =
      let d : length (drop c.skip o) ≡ length o - c.skip = length-drop c.skip o in
      let r : reached b c.pos (drop c.skip o) ≡ c.pos + min (length (drop c.skip o)) (length b - c.pos) = reached_is b c.pos (drop c.skip o) in
      let p : c'.pos ≡ reached b c.pos (drop c.skip o) = ap (λ (x : Cursor). x.pos) e.0 in
      (p ∙ r ∙ ap (λ (n : ℕ). c.pos + min n (length b - c.pos)) d, ap (λ (x : Cursor). x.skip) e.0)

  -- by its length
  pub ended : (total : ℕ) (r : Result Reach Error) → total ≡ length o → r ≡ reaches c.pos (length b) total c.skip → Ended c.pos b o c.skip r b'
  ended total r q h = (h ∙ ap (λ (n : ℕ). reaches c.pos (length b) n c.skip) q, left_any)

  -- before the buffer's end: all of it is out
  pub stops_short : c'.skip ≡ 0 → c'.pos < length b → Ended c.pos b o c.skip (Ok (Through c'.pos)) b'
  stops_short z h = let (p, m) = ends_at in (reaches_through c.pos (length b) (length o) c.skip c'.pos (omega arith) (omega arith) (omega arith), left_any)

-- all of it at once, where there is room
pub at_once : (pos : ℕ) (b o : List ℕ) (place end : ℕ) (b' : List ℕ) → place ≡ 0 → pos + length o ≤ length b → Puts b pos o b' end → Ended pos b o place (Ok (Through end)) b'
unfolding buffer_after
at_once pos b o place end b' z h (e, f) =
    let r : reached b pos o ≡ pos + min (length o) (length b - pos) = reached_is b pos o in
    let q : end ≡ reached b pos o = e in (
      reaches_through pos (length b) (length o) place end (omega arith) (omega arith) (omega arith),
      f ∙ ap (λ (n : ℕ). put b pos (drop n o)) (sym z) ∙ sym (simp (le-ltb (length o) place (omega arith))),
    )
