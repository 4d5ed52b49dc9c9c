-- The writer's public writing calls: each as a write of a series, and as the call that its contract cites.
use Rattle.std.specs.Prelude.{ℕ, Bool, List, [], ◌∷◌, length, ℤ}
use Rattle.layout.specs.Limits.{pick}
use Rattle.layout.specs.Field.{Width, Raw, unsigned, signed, float, payload, unsigned_array, signed_array, float_array}
use Rattle.types.specs.declared.FixlenType.{FixlenType}
use Rattle.types.specs.Types.{subtype}
use Rattle.ostream.specs.declared.OStream.{OStream}
use Rattle.ostream.specs.Emission.{Call}
use Rattle.ostream.specs.Calls.{id_too_large, string_subtype, payload_too_long, array_too_long, unsigned_call, signed_call, boolean_call, fixlen_call, float_call, payload_call}
use Rattle.ostream.specs.Calls.{unsigned_array_call, signed_array_call, float_array_call, begin_call, end_call, end_keep_call}
use Rattle.writes.specs.Written.{Write, field, fixlen, puts, opens, closes, keeps}

-- `write_str` and `write_blob` are payloads, and the calls that take floats or their bits are floats, of their width.
pub data Public : Type 0 where
  write_unsigned : (id n : ℕ) → Public
  write_signed : (id : ℕ) (z : ℤ) → Public
  write_boolean : (id : ℕ) (b : Bool) → Public
  write_fixlen : (id : ℕ) (bytes : List ℕ) (t : FixlenType) → Public
  write_payload : (id : ℕ) (r : Raw) (bytes : List ℕ) → Public
  write_float : (id : ℕ) (w : Width) (bits : ℕ) → Public
  write_array_unsigned : (id : ℕ) (ns : List ℕ) → Public
  write_array_signed : (id : ℕ) (zs : List ℤ) → Public
  write_array_float : (id : ℕ) (w : Width) (bits : List ℕ) → Public
  write_sequence_begin_lazy : (id : ℕ) → Public
  write_sequence_end write_sequence_end_keep : Public

abbrev pub write_of : Public → Write
write_of (write_unsigned id n) = puts (id_too_large id ∷ []) (field (unsigned id n))
write_of (write_signed id z) = puts (id_too_large id ∷ []) (field (signed id z))
write_of (write_boolean id b) = puts (id_too_large id ∷ []) (field (unsigned id (pick b 1 0)))
write_of (write_fixlen id bs t) = puts (string_subtype t ∷ id_too_large id ∷ payload_too_long (length bs) ∷ []) (fixlen id (subtype t) bs)
write_of (write_payload id r bs) = puts (id_too_large id ∷ payload_too_long (length bs) ∷ []) (field (payload id r bs))
write_of (write_float id w x) = puts (id_too_large id ∷ []) (field (float id w x))
write_of (write_array_unsigned id ns) = puts (id_too_large id ∷ array_too_long (length ns) ∷ []) (field (unsigned_array id ns))
write_of (write_array_signed id zs) = puts (id_too_large id ∷ array_too_long (length zs) ∷ []) (field (signed_array id zs))
write_of (write_array_float id w xs) = puts (id_too_large id ∷ array_too_long (length xs) ∷ []) (field (float_array id w xs))
write_of (write_sequence_begin_lazy id) = opens id
write_of write_sequence_end = closes
write_of write_sequence_end_keep = keeps

abbrev pub cited_by : Public → OStream → ℕ → Call
cited_by (write_unsigned id n) s size = unsigned_call s size id n
cited_by (write_signed id z) s size = signed_call s size id z
cited_by (write_boolean id b) s size = boolean_call s size id b
cited_by (write_fixlen id bs t) s size = fixlen_call s size id bs t
cited_by (write_payload id r bs) s size = payload_call s size id r bs
cited_by (write_float id w x) s size = float_call s size id w x
cited_by (write_array_unsigned id ns) s size = unsigned_array_call s size id ns
cited_by (write_array_signed id zs) s size = signed_array_call s size id zs
cited_by (write_array_float id w xs) s size = float_array_call s size id w xs
cited_by (write_sequence_begin_lazy id) s size = begin_call s size id
cited_by write_sequence_end s size = end_call s size
cited_by write_sequence_end_keep s size = end_keep_call s size
