-- How long the plain copy of a message given whole is, by the layout's verdict and plain copy.
use Rattle.std.specs.Prelude.{ℕ, List, length, Result, Ok, Err}
use Rattle.layout.specs.Limits.{base}
use Rattle.layout.specs.Message as layout
use Rattle.layout.specs.Message.{field}
use Rattle.layout.specs.Copy.{plain_copy}
use Rattle.passing.specs.declared.Stop.{Stop}
use Rattle.passing.specs.declared.Stop.TheVariants.{Short, Broken}

-- 02: "the exact number of manifest bytes", of a message whose verdict this is and whose plain copy has n bytes. "An incomplete or broken
-- ticket answers as the reader would."
abbrev pub length_in : layout.Verdict → ℕ → Result ℕ (Stop ℕ)
length_in layout.complete n = Ok n
length_in layout.incomplete n = Err Short
length_in (layout.broken_at k) n = Err (Broken k)

-- of a byte string
abbrev pub length_of : List ℕ → Result ℕ (Stop ℕ)
length_of bs = length_in (layout.verdict_of base bs) (length (plain_copy base bs))
