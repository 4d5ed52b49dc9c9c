-- States stay sound. `sound-fresh`: a fresh one is, for any buffer. `sound_kept`: a call on a sound state leaves one that is sound for the buffer left.
use Prim.Native.Nat.{ℕ, ◌≤◌}
use mathlib.Core.Path.{◌≡◌, refl, sym, subst}
use mathlib.Core.Bool.{true}
use mathlib.Core.List.{List}
use native.Mathlib.Omega.{arith}
use lib.Dec.{eqb, ltb}
use lib.ListN.{length}
use lib.Seq.{paste, length-paste}
use borrow.Author.Tests.{le-leb, leb-true, ltb-false}
use Rattle.gathering.specs.Gather.{Gatherer, Gathered, sound, fresh, begun, owed, copied, holds_whole, accepted, gathered}
use Rattle.gathering.proofs.Cases.{in_order, begun-within, either}

pub sound-fresh : (b : List ℕ) → sound fresh b ≡ true
sound-fresh b = le-leb 0 (length b) (omega arith)

record Within (g : Gathered) : Type 0 where
  pub held : g.acc.len ≤ length g.buf

copied-within : (a : Gatherer) (b : List ℕ) (total : ℕ) (chunk : List ℕ) → a.len ≤ length b → total ≤ length b → Within (copied a b total chunk)
unfolding copied
copied-within a b total chunk h f =
    let n : ℕ = owed a.len total (length chunk) in
    let l : length (paste b a.len chunk n) ≡ length b = length-paste b a.len chunk n (omega arith) (omega arith) in
    record { held = omega arith }

accepted-within : (a : Gatherer) (b : List ℕ) (total offset : ℕ) (chunk : List ℕ) → a.len ≤ length b → Within (accepted a b total offset chunk)
unfolding accepted
accepted-within a b total offset chunk h =
    either Within a.complete (λ e. record { held = h }) λ e.
    either Within (ltb (length b) total) (λ e. record { held = h }) λ fits.
    either Within (holds_whole total offset (length chunk)) (λ e. record { held = omega arith }) λ e.
    either Within (eqb offset a.len) (λ e. copied-within a b total chunk h (ltb-false _ _ fits)) λ e. record { held = h }

pub sound_kept : (a : Gatherer) (b : List ℕ) (total offset : ℕ) (chunk : List ℕ) → sound a b ≡ true
    → sound (gathered a b total offset chunk).acc (gathered a b total offset chunk).buf ≡ true
sound_kept a b total offset chunk s =
    let h : a.len ≤ length b = leb-true _ _ s in
    le-leb _ _ (subst Within (sym (in_order a b total offset chunk h)) (accepted-within (begun a offset) b total offset chunk (begun-within a _ offset _ refl h))).held
