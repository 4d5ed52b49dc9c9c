-- The loop's invariant.
use mathlib.Core.Path.{◌≡◌}
use mathlib.Core.Bool.{true}
use mathlib.Core.List.{List}
use Prim.Native.Nat.{ℕ, ◌-◌, ◌≤◌}
use lib.ListN.{length}
use Rattle.layout.specs.Limits.{base}
use Rattle.istream.specs.declared.IStream.{IStream}
use Rattle.istream.specs.Stream.{state_of, sound_stream}
use Rattle.phase.proofs.Phases.{Live}
use Rattle.copying.specs.Copy.{after, copy}
use Rattle.turns.specs.Turns.{standing}

-- the call goes on from the reader s at pos over b, with what is left of the chunk
pub record Going (s₀ : IStream) (pos₀ : ℕ) (c b₀ b : List ℕ) (s : IStream) (pos : ℕ) (l : List ℕ) : Type 0 where
  pub few : length l ≤ length c
  pub size : length b ≡ length b₀
  pub sound : sound_stream base s ≡ true
  pub live : Live (state_of s)
  pub same : copy base (standing s₀ pos₀) c b₀ ≡ after (length c - length l) (copy base (standing s pos) l b)
