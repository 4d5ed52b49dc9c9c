-- What the tests of a call say, and which number it refuses with where some of them fail.
use Prim.Native.Nat.{ℕ}
use mathlib.Core.Path.{◌≡◌, refl}
use mathlib.Core.Bool.{Bool, true, false, ◌&&◌}
use lib.Dec.{eqb}
use borrow.Author.Tests.{eqb-true, eq-eqb, ne_eqb}
use Rattle.layout.specs.Limits.{Limits}
use Rattle.copying.specs.Owed.{sound_owed}
use Rattle.copying.specs.Copy.{Copy}
use Rattle.copying.specs.Refusals.{sound_with, refusing}
use Rattle.copying.proofs.Allowed.{both}

module _ (L : Limits) (writer : Bool) (held : ℕ) (k : Copy) where
  -- a copier whose writer holds an id is unsound, and so is one whose writer is
  pub with_held : (held ≡ 0 → ⊥) → sound_with L writer held k ≡ false
  unfolding sound_with
  with_held h = simp (ne_eqb held 0 h) (neither writer)
    where
      neither : (t : Bool) → (t && false) ≡ false
      neither true = refl
      neither false = refl

  pub with_unsound : writer ≡ false → sound_with L writer held k ≡ false
  unfolding sound_with
  with_unsound w = simp w

  -- else what is owed decides
  pub with_owed : writer ≡ true → held ≡ 0 → sound_with L writer held k ≡ sound_owed L k.reader k.depth k.owed
  unfolding sound_with
  with_owed w n = simp (w, eq-eqb held 0 n)

  pub with_parts : sound_with L writer held k ≡ true → (writer ≡ true) × (held ≡ 0) × (sound_owed L k.reader k.depth k.owed ≡ true)
  unfolding sound_with
  with_parts e =
      let p = both writer (eqb held 0 && sound_owed L k.reader k.depth k.owed) e in
      let q = both (eqb held 0) (sound_owed L k.reader k.depth k.owed) p.1 in
      (p.0, eqb-true held 0 q.0, q.1)

-- 1 whatever the other tests say, 6 whether the reader is broken or not
module _ {A : Type 0} (reader writer broken : Bool) (refused : ℕ → A) (goes : A) where
  pub unsound_reader : reader ≡ false → refusing reader writer broken refused goes ≡ refused 1
  unfolding refusing
  unsound_reader r = simp r

  pub unsound_writer_lem : reader ≡ true → writer ≡ false → refusing reader writer broken refused goes ≡ refused 6
  unfolding refusing
  unsound_writer_lem r w = simp (r, w)

  pub broken_reader : reader ≡ true → writer ≡ true → broken ≡ true → refusing reader writer broken refused goes ≡ refused 2
  unfolding refusing
  broken_reader r w b = simp (r, w, b)

  pub none-refused : reader ≡ true → writer ≡ true → broken ≡ false → refusing reader writer broken refused goes ≡ goes
  unfolding refusing
  none-refused r w b = simp (r, w, b)
