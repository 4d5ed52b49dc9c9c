-- The bytes of an output.
use Rattle.std.specs.Prelude.{ℕ, ◌*◌, List, [], ◌++◌}
use Rattle.layout.specs.Limits.{base, longest}
use Rattle.layout.specs.Varint.{shortest}
use Rattle.layout.specs.Field.{low_bytes}
use Rattle.output.specs.declared.Output.{Output}
use Rattle.output.specs.declared.Output.TheVariants.{Empty, One, Two, Three, Four, Eight}

abbrev pub output_bytes : Output → List ℕ
output_bytes Empty = []
output_bytes (One a) = shortest a
output_bytes (Two a b) = shortest a ++ shortest b
output_bytes (Three a b c) = shortest a ++ (shortest b ++ shortest c)
output_bytes (Four x) = low_bytes 4 x
output_bytes (Eight x) = low_bytes 8 x

-- the most bytes that an output has: those of three varints
abbrev pub output_most : ℕ
output_most = 3 * longest base
