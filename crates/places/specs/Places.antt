-- The eight places of the held ids, and a writer's sound states, by the numbers that make up a state.
use Rattle.std.specs.Prelude.{Bool, true, ◌&&◌, List, [], ◌∷◌, ◌++◌, ℕ, leb, eqb, take, drop, replicate}
use Rattle.layout.specs.Limits.{base}

-- whether each element of a list passes a test
unfoldable pub every : (ℕ → Bool) → List ℕ → Bool
every p [] = true
every p (x ∷ xs) = p x && every p xs

-- how many opened sequences are held back: "Up to eight are held".
abbrev pub lazy_depth : ℕ
lazy_depth = 8

-- the first n of some places zeroed, and the others as they were
abbrev pub zeroed : ℕ → List ℕ → List ℕ
zeroed n xs = replicate n 0 ++ drop n xs

-- whether no place is in use
abbrev pub clean : List ℕ → Bool
clean places = every (λ x. eqb x 0) places

-- "Writer: position at most the buffer's length, held at most 8 and at most depth, depth to 255, ids to `ID_MAX`, unused places zero
-- (these are tested too)."
abbrev pub sound_for : ℕ → ℕ → ℕ → List ℕ → ℕ → Bool
sound_for offset depth held places size =
    leb offset size && (leb held lazy_depth && (leb held depth && (leb depth base.depth && (every (λ x. leb x base.id) (take held places) && every (λ x. eqb x 0) (drop held places)))))
