-- The word before the elements of an array of floats: "length × 8 + subtype".
use Rattle.std.specs.Prelude.{ℕ, ◌+◌, ◌*◌}
use Rattle.layout.specs.Field.{Width, float, bytes_of, subtype_number}

abbrev pub word_number : Width → ℕ
word_number w = bytes_of w * 8 + subtype_number (float w)
