-- A value's varint in any number of bytes: the shortest, and the longer ones, which end in bytes 80 and a 00.
use Rattle.std.specs.Prelude.{ℕ, zero, suc, ◌+◌, ◌/◌, ◌%◌, List, [], ◌∷◌}

-- The varint of n in m + 1 bytes, where n is below 128 to the power m + 1. "A varint carries 7 bits a byte, low bits first, and bit 7 says
-- that another byte follows."
unfoldable pub in_bytes : ℕ → ℕ → List ℕ
in_bytes zero n = n ∷ []
in_bytes (suc m) n = (n % 128 + 128) ∷ in_bytes m (n / 128)
