-- "A varint carries 7 bits a byte, low bits first, and bit 7 says that another byte follows."
-- Its value by powers of 128, and its shortest bytes.
use Rattle.std.specs.Prelude.{ℕ, zero, suc, ◌+◌, ◌*◌, ◌/◌, ◌%◌, ◌^◌, true, false, ◌&&◌, List, [], ◌∷◌, ltb, leb}
use Rattle.layout.specs.Limits.{Limits, last_byte, last_bound, pick}

-- what one byte of a varint comes to
pub data Push : Type 0 where
  more : (taken value : ℕ) → Push
  value : ℕ → Push
  overrun : Push

-- what byte number k adds
abbrev pub digit : ℕ → ℕ → ℕ
digit k b = b % 128 * 128 ^ k

-- Byte number k of a varint, b, where the k bytes before it came to v.
-- "Longer varints than needed are accepted within 64 bits." Broken: "a tenth varint byte above 1".
unfoldable pub push : Limits → ℕ → ℕ → ℕ → Push
push L k v b =
    pick (leb (last_byte L) k && leb (last_bound L) b) overrun
    (pick (ltb b 128) (value (v + digit k b)) (more (k + 1) (v + digit k b)))

-- what some bytes come to: a value and the bytes after it; nothing yet, where they end within it; or broken, and the bytes after the
-- offending one
pub data Outcome (A : Type 0) : Type 0 where
  whole : A → List ℕ → Outcome A
  short : Outcome A
  broken : List ℕ → Outcome A

-- a varint's value from byte number k on, where the k bytes before it came to v
unfoldable pub varint_from : Limits → ℕ → ℕ → List ℕ → Outcome ℕ
varint_from L k v [] = short
varint_from L k v (b ∷ bs) = elim (push L k v b) [ more k' v' ↦ varint_from L k' v' bs | value n ↦ whole n bs | overrun ↦ broken bs ]

abbrev pub varint : Limits → List ℕ → Outcome ℕ
varint L bs = varint_from L 0 0 bs

-- The shortest varint of n, in at most f + 1 bytes; f = n is always enough.
unfoldable pub shortest_in : ℕ → ℕ → List ℕ
shortest_in zero n = n ∷ []
shortest_in (suc f) n = elim (ltb n 128) [ true ↦ n ∷ [] | false ↦ (n % 128 + 128) ∷ shortest_in f (n / 128) ]

unfoldable pub shortest : ℕ → List ℕ
shortest n = shortest_in n n
