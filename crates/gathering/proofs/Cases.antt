-- Each answer of a call, with the state and the buffer that it leaves, as the definition gives it where that answer's test holds.
use Prim.Native.Nat.{ℕ, ◌+◌, ◌≤◌, ◌<◌}
use mathlib.Core.Path.{◌≡◌, refl, sym, subst}
use mathlib.Core.Bool.{Bool, true, false, cond}
use mathlib.Core.List.{List}
use native.Mathlib.Omega.{arith}
use lib.ListN.{length}
use lib.Seq.{paste}
use lib.Dec.{eqb}
use borrow.Author.Tests.{lt-ltb, le-ltb, le-leb, lt-leb, eq-eqb, ne_eqb}
use Rattle.gathering.specs.Gather.{Gatherer, Gathered, nothing, in_chunk, in_buffer, number, fresh, begun, untouched, owed, copied, holds_whole, accepted, gathered}

-- ---- the copy, of n bytes into what is then b'

module _ (a : Gatherer) (b b' chunk : List ℕ) (total n : ℕ) (hn : n ≡ owed a.len total (length chunk)) (hb : b' ≡ paste b a.len chunk n) where
  pub partial : a.complete ≡ false → a.len + n < total → untouched nothing (record { len = a.len + n; complete = a.complete }) b' ≡ copied a b total chunk
  unfolding copied
  partial e h = simp (← hn, lt-leb _ _ h, e, hb)

  pub filled : total ≤ a.len + n → untouched (in_buffer total) (record { len = a.len + n; complete = true }) b' ≡ copied a b total chunk
  unfolding copied
  filled h = simp (← hn, le-leb _ _ h, hb)

-- ---- the tests of a sound state, in their order

module _ (a : Gatherer) (b : List ℕ) (total offset : ℕ) (chunk : List ℕ) where
  pub over_already : a.complete ≡ true → untouched nothing a b ≡ accepted a b total offset chunk
  unfolding accepted
  over_already e = simp e

  module _ (e : a.complete ≡ false) where
    pub too_long : length b < total → untouched (number 4) a b ≡ accepted a b total offset chunk
    unfolding accepted
    too_long h = simp (e, lt-ltb _ _ h)

    module _ (h : total ≤ length b) where
      pub whole_chunk : holds_whole total offset (length chunk) ≡ true → untouched (in_chunk total) (record { len = 0; complete = true }) b ≡ accepted a b total offset chunk
      unfolding accepted
      whole_chunk w = simp (e, le-ltb _ _ h, w)

      module _ (w : holds_whole total offset (length chunk) ≡ false) where
        pub elsewhere : (offset ≡ a.len → ⊥) → untouched nothing a b ≡ accepted a b total offset chunk
        unfolding accepted
        elsewhere d = simp (e, le-ltb _ _ h, w, ne_eqb _ _ d)

        pub next : offset ≡ a.len → accepted a b total offset chunk ≡ copied a b total chunk
        unfolding accepted
        next d = simp (e, le-ltb _ _ h, w, eq-eqb _ _ d)

-- ---- the test of the state

module _ (a : Gatherer) (b : List ℕ) (total offset : ℕ) (chunk : List ℕ) where
  pub unsound : length b < a.len → untouched (number 3) a b ≡ gathered a b total offset chunk
  unfolding gathered
  unsound h = simp (lt-leb _ _ h)

  pub in_order : a.len ≤ length b → gathered a b total offset chunk ≡ accepted (begun a offset) b total offset chunk
  unfolding gathered
  in_order h = simp (le-leb _ _ h)

-- a state that has forgotten, or not, holds no more than before
pub begun-within : (a s : Gatherer) (offset n : ℕ) → s ≡ begun a offset → a.len ≤ n → s.len ≤ n
begun-within a s offset n e h = subst (λ (x : Gatherer). x.len ≤ n) (sym e) (go (eqb offset 0))
  where
    go : (t : Bool) → (cond t fresh a).len ≤ n
    go true = omega arith
    go false = h

-- what holds of both arms of a test holds of what it picks
pub either : (P : Gathered → Type 0) {x y : Gathered} (t : Bool) → (t ≡ true → P x) → (t ≡ false → P y) → P (cond t x y)
either P true f g = f refl
either P false f g = g refl
