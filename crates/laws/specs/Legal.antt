-- The limits that fit, and the fields and lists of fields that a message may hold.
use Rattle.std.specs.Prelude.{ℕ, ◌+◌, ◌*◌, ◌^◌, ◌<◌, ◌≤◌, ◌≡◌, List, [], ◌∷◌, length}
use Rattle.layout.specs.Limits.{Limits}
use Rattle.layout.specs.Zigzag.{zigzag}
use Rattle.layout.specs.Field.{Field, bytes_of, unsigned, signed, float, payload, unsigned_array, signed_array, float_array, begin, end}
use Rattle.layout.specs.Message.{All, Bytes, depth_after}

-- Limits whose headers, words and counts are values of the width. 8 is the length of the longest float.
pub record Fit (L : Limits) : Type 0 where
  pub headers : (L.id + 1) * 8 ≤ 2 ^ L.bits
  pub words : (L.size + 1) * 8 ≤ 2 ^ L.bits
  pub counts : L.count < 2 ^ L.bits
  pub floats : 8 ≤ L.size

-- 01's build at another deepest nesting, and the build of 32 bits
abbrev pub nesting : ℕ → Limits
nesting d = record { bits = 64; id = 2147483647; size = 2147483647; count = 2147483647; depth = d }

abbrev pub narrow : ℕ → Limits
narrow d = record { bits = 32; id = 536870911; size = 536870911; count = 2147483647; depth = d }

-- A field that a message may hold at some depth: its id, its value, its bytes or its count and elements are within the limits.
abbrev pub Legal : Limits → Field → Type 0
Legal L (unsigned id n) = (id ≤ L.id) × (n < 2 ^ L.bits)
Legal L (signed id z) = (id ≤ L.id) × (zigzag z < 2 ^ L.bits)
Legal L (float id w x) = (id ≤ L.id) × (x < 256 ^ bytes_of w)
Legal L (payload id r bs) = (id ≤ L.id) × (length bs ≤ L.size) × Bytes bs
Legal L (unsigned_array id ns) = (id ≤ L.id) × (length ns ≤ L.count) × All (λ n. n < 2 ^ L.bits) ns
Legal L (signed_array id zs) = (id ≤ L.id) × (length zs ≤ L.count) × All (λ z. zigzag z < 2 ^ L.bits) zs
Legal L (float_array id w xs) = (id ≤ L.id) × (length xs ≤ L.count) × All (λ x. x < 256 ^ bytes_of w) xs
Legal L (begin id) = id ≤ L.id
Legal L (end id) = id ≤ L.id

-- no open at the deepest nesting, no close at depth 0
abbrev pub Nests : Limits → ℕ → Field → Type 0
Nests L d (unsigned id n) = Unit {0}
Nests L d (signed id z) = Unit {0}
Nests L d (float id w x) = Unit {0}
Nests L d (payload id r bs) = Unit {0}
Nests L d (unsigned_array id ns) = Unit {0}
Nests L d (signed_array id zs) = Unit {0}
Nests L d (float_array id w xs) = Unit {0}
Nests L d (begin id) = d < L.depth
Nests L d (end id) = 0 < d

-- fields that go from one depth to another
abbrev pub Balanced : Limits → ℕ → List Field → ℕ → Type 0
Balanced L d [] e = d ≡ e
Balanced L d (x ∷ xs) e = Nests L d x × Balanced L (depth_after d x) xs e

-- "A close may carry any legal id, which is ignored": the field as a plain copy of it is read, a close with id 0
abbrev pub settled : Field → Field
settled (unsigned id n) = unsigned id n
settled (signed id z) = signed id z
settled (float id w x) = float id w x
settled (payload id r bs) = payload id r bs
settled (unsigned_array id ns) = unsigned_array id ns
settled (signed_array id zs) = signed_array id zs
settled (float_array id w xs) = float_array id w xs
settled (begin id) = begin id
settled (end id) = end 0
