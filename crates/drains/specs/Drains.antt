-- 02: "A message of n bytes started at offset 0 in a buffer of b bytes, drained when "full" is answered and once at the end if bytes
-- remain, costs exactly n divided by b, rounded up; zero bytes cost none." That a run costs so many is shown in `writes` and `copies`.
use Rattle.std.specs.Prelude.{ℕ, ◌+◌, ◌/◌, ◌%◌, eqb}
use Rattle.layout.specs.Limits.{pick}

-- "n divided by b, rounded up": the quotient, and one more where a remainder is left
unfoldable pub rounded_up : ℕ → ℕ → ℕ
rounded_up n b = n / b + pick (eqb (n % b) 0) 0 1
