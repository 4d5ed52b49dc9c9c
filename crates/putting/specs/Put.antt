-- A write of a list over a buffer: as many of its elements as there is room for, from a place on, and all else unaltered.
use Rattle.std.specs.Prelude.{◌≡◌, List, ◌++◌, ℕ, ◌+◌, ◌-◌, ◌≤◌, min, length, take, drop}

-- d with s written over it from `at` on
unfoldable pub over : List ℕ → ℕ → List ℕ → List ℕ
over d at s = take at d ++ (s ++ drop (at + length s) d)

-- d with as much of s written over it, from `at` on, as there is room for
unfoldable pub put : List ℕ → ℕ → List ℕ → List ℕ
unfolding over
put d at s = over d at (take (length d - at) s)

-- where that write ends
unfoldable pub reached : List ℕ → ℕ → List ℕ → ℕ
reached d at s = at + min (length s) (length d - at)

-- both: d is b with o written over it from pos on, as far as there is room, and that ends at `end`
abbrev pub Puts : List ℕ → ℕ → List ℕ → List ℕ → ℕ → Type 0
Puts b pos o d end = (end ≡ reached b pos o) × (d ≡ put b pos o)

-- both, and that there was room for all of o
abbrev pub PutsAll : List ℕ → ℕ → List ℕ → List ℕ → ℕ → Type 0
PutsAll b pos o d end = (end ≡ reached b pos o) × (d ≡ put b pos o) × (pos + length o ≤ length b)

-- ---- an output that goes on from a place: the first `skip` elements of s are out already, and the rest goes from `at` on

-- d after it
abbrev pub put_from : List ℕ → ℕ → ℕ → List ℕ → List ℕ
put_from d at skip s = put d at (drop skip s)

-- where it ends
abbrev pub reached_from : List ℕ → ℕ → ℕ → List ℕ → ℕ
reached_from d at skip s = reached d at (drop skip s)
