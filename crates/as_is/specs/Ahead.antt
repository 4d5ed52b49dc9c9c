-- Bytes at the start of a chunk that a copier sends as they came, and the reader behind them. Only the copier's own code cites this: `feed`
-- has its equation in copier's `Calls`.
use Rattle.std.specs.Prelude.{ℕ, ◌≤◌, ◌≡◌, true, List, length, take}
use Rattle.layout.specs.Limits.{base}
use Rattle.phase.proofs.Phases.{Live}
use Rattle.istream.specs.declared.IStream.{IStream}
use Rattle.istream.specs.Stream.{state_of, sound_stream}
use Rattle.copying_laws.proofs.OneEvent.{AsIs}

-- from the reader s, where nothing is owed: wherever there is room for the first n bytes of c, they go out, and s' reads on
pub record Ahead (s : IStream) (c : List ℕ) (n : ℕ) (s' : IStream) : Type 0 where
  pub few : n ≤ length c
  pub same : AsIs base (state_of s) s.carried.depth (take n c) (state_of s') s'.carried.depth
  pub sound : sound_stream base s' ≡ true
  pub live : Live (state_of s')
