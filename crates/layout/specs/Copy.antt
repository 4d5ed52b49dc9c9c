-- The plain copy of a complete ticket: "its fields in order, each varint as short as its value allows, each close 07, all else kept."
use Rattle.std.specs.Prelude.{ℕ, List, ◌++◌, length}
use Rattle.layout.specs.Limits.{Limits}
use Rattle.layout.specs.Varint.{shortest}
use Rattle.layout.specs.Zigzag.{zigzag}
use Rattle.layout.specs.Field.{Field, Subtype, bytes_of, header, word, low_bytes, each}
use Rattle.layout.specs.Field.{float, raw, t_unsigned, t_signed, t_fixlen, t_unsigneds, t_signeds, t_floats, t_begin, t_end}
use Rattle.layout.specs.Field.{unsigned, signed, payload, unsigned_array, signed_array, float_array, begin, end}
use Rattle.layout.specs.Message.{fields_of}

-- the shortest bytes of a field; of a close, "the writer uses 0"
unfoldable pub field_bytes : Field → List ℕ
field_bytes (unsigned id n) = header id t_unsigned ++ shortest n
field_bytes (signed id z) = header id t_signed ++ shortest (zigzag z)
field_bytes (float id w x) = header id t_fixlen ++ (word (bytes_of w) (float w) ++ low_bytes (bytes_of w) x)
field_bytes (payload id r bs) = header id t_fixlen ++ (word (length bs) (raw r) ++ bs)
field_bytes (unsigned_array id ns) = header id t_unsigneds ++ (shortest (length ns) ++ each shortest ns)
field_bytes (signed_array id zs) = header id t_signeds ++ (shortest (length zs) ++ each (λ z. shortest (zigzag z)) zs)
field_bytes (float_array id w xs) =
    header id t_floats ++ (shortest (length xs) ++ (word (bytes_of w) (float w) ++ each (low_bytes (bytes_of w)) xs))
field_bytes (begin id) = header id t_begin
field_bytes (end id) = header 0 t_end

-- A fixed-length field's bytes: "a float subtype is written at any data length", so that the bytes are given, not the float.
unfoldable pub fixlen_bytes : ℕ → Subtype → List ℕ → List ℕ
fixlen_bytes id t bytes = header id t_fixlen ++ (word (length bytes) t ++ bytes)

unfoldable pub encode : List Field → List ℕ
encode xs = each field_bytes xs

unfoldable pub plain_copy : Limits → List ℕ → List ℕ
plain_copy L bs = encode (fields_of L bs)
