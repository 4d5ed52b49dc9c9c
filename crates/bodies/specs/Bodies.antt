-- What the layout's reader makes of what follows a header where only the end is asked for, and the depth there.
use Rattle.std.specs.Prelude.{Bool, ℕ, ◌/◌, ◌%◌, eqb, leb, List}
use Rattle.layout.specs.Limits.{base}
use Rattle.layout.specs.Varint.{Outcome, whole, short, broken}
use Rattle.layout.specs.Field.{Wire, Field, Subtype, float, raw, bytes_of, subtype_of}
use Rattle.layout.specs.Message.{fixlen, float_array_of, body, depth_after}

-- a field's end, and the depth after it, where it stands at depth d
unfoldable pub deep : ℕ → Outcome Field → Outcome ℕ
deep d (whole x rest) = whole (depth_after d x) rest
deep d short = short
deep d (broken rest) = broken rest

-- what follows a header, at depth d
unfoldable pub after_body : ℕ → Wire → List ℕ → ℕ → Outcome ℕ
after_body id w bs d = deep d (body base d id w bs).outcome

-- whether n bytes can be a fixed-length field of a subtype
abbrev pub fits : Subtype → ℕ → Bool
fits (float w) n = eqb n (bytes_of w)
fits (raw r) n = leb n base.size

-- what follows the word of a fixed-length field, and that of an array of n floats
unfoldable pub after_word : ℕ → ℕ → List ℕ → ℕ → Outcome ℕ
after_word id word bs d = deep d (fixlen base id (word / 8) (subtype_of (word % 8)) bs).outcome

unfoldable pub after_floats : ℕ → ℕ → ℕ → List ℕ → ℕ → Outcome ℕ
after_floats id n word bs d = deep d (float_array_of id n (word / 8) (subtype_of (word % 8)) bs).outcome
