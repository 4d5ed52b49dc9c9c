-- An array of integers is a row: what `Integer` asks of its types.
use Rattle.std.specs.Prelude.{◌≡◌, List, ℕ, ◌+◌, ◌*◌, ℤ, refl}
use Rattle.layout.specs.Varint.{shortest}
use Rattle.layout.specs.Zigzag.{zigzag}
use Rattle.layout.specs.Field.{unsigned_array, signed_array, wire_number, t_unsigneds, t_signeds}
use Rattle.layout.specs.Copy.{field_bytes}
use Rattle.elements.specs.OutAfter.{row_of}

pub unsigneds_written : (id : ℕ) (ns : List ℕ) → field_bytes (unsigned_array id ns) ≡ row_of (id * 8 + wire_number t_unsigneds) shortest ns
unfolding field_bytes
unsigneds_written id ns = refl

pub signeds_written : (id : ℕ) (zs : List ℤ) → field_bytes (signed_array id zs) ≡ row_of (id * 8 + wire_number t_signeds) (λ z. shortest (zigzag z)) zs
unfolding field_bytes
signeds_written id zs = refl
