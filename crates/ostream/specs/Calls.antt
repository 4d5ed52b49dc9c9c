-- The writing calls, each by its refusals in order, its output and the state that it leaves.
use Rattle.std.specs.Prelude.{Bool, List, [], ◌++◌, ℕ, ◌+◌, ◌-◌, ◌*◌, ltb, eqb, length, ℤ}
use Rattle.layout.specs.Limits.{base, pick}
use Rattle.layout.specs.Varint.{shortest}
use Rattle.layout.specs.Field.{Width, Raw, float, unsigned, signed, payload, unsigned_array, signed_array, float_array, begin, end}
use Rattle.layout.specs.Copy.{field_bytes}
use Rattle.types.specs.declared.FixlenType.{FixlenType}
use Rattle.types.specs.Types.{subtype}
use Rattle.refusals.specs.Tests.{unsound_writer, deepest, outermost}
use Rattle.refusals.specs.Orders.{scalar_tests, sized_tests, fixlen_tests, begin_tests, end_tests}
use Rattle.ostream.specs.declared.OStream.{OStream}
use Rattle.ostream.specs.Stream.{sound_stream, lazy_depth, held_bytes, committed, holding, dropped}
use Rattle.ostream.specs.Emission.{Test, Call}
pub use Rattle.refusals.specs.Tests.{string_subtype, id_too_large, payload_too_long, array_too_long}
unfoldable pub use Rattle.layout.specs.Copy.{fixlen_bytes}

-- ---- the refusals that look at the state; the others, and their order, are `Tests` and `Orders` of `refusals`

-- "Number 6: the writer state isn't sound for the lent buffer".
abbrev pub unsound : OStream → ℕ → Test
unsound s size = unsound_writer (sound_stream s size)

-- "Number 8: a sequence is opened at depth 255 or closed at depth 0."
abbrev pub too_deep : OStream → Test
too_deep s = deepest s.depth

abbrev pub none_open : OStream → Test
none_open s = outermost s.depth

-- the tests of a field with a payload of n bytes
abbrev pub field_tests : OStream → ℕ → ℕ → ℕ → List Test
field_tests s size id n = sized_tests (sound_stream s size) id base.size n

-- ---- a field

-- A field that is content: the held headers go out before it, and none is held any more.
abbrev pub content : List Test → OStream → List ℕ → Call
content tests s bytes = record { tests = tests; output = held_bytes s ++ bytes; done = committed s s.depth }

-- a field of one varint
abbrev pub scalar : OStream → ℕ → ℕ → List ℕ → Call
scalar s size id bytes = content (scalar_tests (sound_stream s size) id) s bytes

-- a field of one varint by the type's number and the varint's value
abbrev pub varint_call : OStream → ℕ → ℕ → ℕ → ℕ → Call
varint_call s size id wire n = scalar s size id (shortest (id * 8 + wire) ++ shortest n)

abbrev pub unsigned_call : OStream → ℕ → ℕ → ℕ → Call
unsigned_call s size id n = scalar s size id (field_bytes (unsigned id n))

abbrev pub signed_call : OStream → ℕ → ℕ → ℤ → Call
signed_call s size id z = scalar s size id (field_bytes (signed id z))

abbrev pub boolean_call : OStream → ℕ → ℕ → Bool → Call
boolean_call s size id b = unsigned_call s size id (pick b 1 0)

-- ---- fixed-length fields

-- `write_fixlen_raw`, and the general writer above it, which "refuses the string subtype"
abbrev pub raw_call : OStream → ℕ → ℕ → List ℕ → FixlenType → Call
raw_call s size id bytes t = content (field_tests s size id (length bytes)) s (fixlen_bytes id (subtype t) bytes)

abbrev pub fixlen_call : OStream → ℕ → ℕ → List ℕ → FixlenType → Call
fixlen_call s size id bytes t =
    content (fixlen_tests (sound_stream s size) t id (length bytes)) s (fixlen_bytes id (subtype t) bytes)

abbrev pub float_call : OStream → ℕ → ℕ → Width → ℕ → Call
float_call s size id w bits = scalar s size id (field_bytes (float id w bits))

abbrev pub payload_call : OStream → ℕ → ℕ → Raw → List ℕ → Call
payload_call s size id r bytes = content (field_tests s size id (length bytes)) s (field_bytes (payload id r bytes))

-- ---- arrays

abbrev pub array_call : OStream → ℕ → ℕ → ℕ → List ℕ → Call
array_call s size id count bytes = content (sized_tests (sound_stream s size) id base.count count) s bytes

abbrev pub unsigned_array_call : OStream → ℕ → ℕ → List ℕ → Call
unsigned_array_call s size id ns = array_call s size id (length ns) (field_bytes (unsigned_array id ns))

abbrev pub signed_array_call : OStream → ℕ → ℕ → List ℤ → Call
signed_array_call s size id zs = array_call s size id (length zs) (field_bytes (signed_array id zs))

abbrev pub float_array_call : OStream → ℕ → ℕ → Width → List ℕ → Call
float_array_call s size id w xs = array_call s size id (length xs) (field_bytes (float_array id w xs))

-- ---- sequences

-- "An opened sequence is held back until content or a keeping close comes. Up to eight are held, outermost first, unused places zero; a ninth
-- open writes all eight and itself."
abbrev pub begin_call : OStream → ℕ → ℕ → Call
begin_call s size id =
    record {
      tests = begin_tests (sound_stream s size) s.depth id;
      output = pick (ltb s.npending lazy_depth) [] (held_bytes s ++ field_bytes (begin id));
      done = pick (ltb s.npending lazy_depth) (holding s id) (committed s (s.depth + 1));
    }

-- "A plain close of a held one drops it."
abbrev pub end_call : OStream → ℕ → Call
end_call s size =
    record {
      tests = end_tests (sound_stream s size) s.depth;
      output = pick (eqb s.npending 0) (field_bytes (end 0)) [];
      done = pick (eqb s.npending 0) (committed s (s.depth - 1)) (dropped s);
    }

-- a keeping close
abbrev pub end_keep_call : OStream → ℕ → Call
end_keep_call s size =
    record { tests = end_tests (sound_stream s size) s.depth; output = held_bytes s ++ field_bytes (end 0); done = committed s (s.depth - 1) }
