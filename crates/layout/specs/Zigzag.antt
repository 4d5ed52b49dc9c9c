-- "Zigzag maps 0, -1, 1, -2 to 0, 1, 2, 3": n to 2 n, and -(n + 1) to 2 n + 1; and back.
use Rattle.std.specs.Prelude.{ℕ, ◌+◌, ◌*◌, ◌/◌, ◌%◌, eqb, ℤ, pos, negsuc}
use Rattle.layout.specs.Limits.{pick}

abbrev pub zigzag : ℤ → ℕ
zigzag (pos n) = 2 * n
zigzag (negsuc n) = 2 * n + 1

abbrev pub unzigzag : ℕ → ℤ
unzigzag u = pick (eqb (u % 2) 0) (pos (u / 2)) (negsuc (u / 2))
