-- The headers that are held back, and where a call's output goes on that begins with them.
use Rattle.std.specs.Prelude.{◌≡◌, List, ◌++◌, ℕ, ◌+◌, ◌*◌, ltb, length, take, drop, Result}
use Rattle.layout.specs.Limits.{base, longest, pick}
use Rattle.layout.specs.Varint.{shortest}
use Rattle.layout.specs.Field.{header, each, t_begin}
use Rattle.putting.specs.Put.{put}
use Rattle.types.specs.declared.Error.{Error}
use Rattle.outcomes.specs.declared.Reach.{Reach}
use Rattle.outcomes.specs.Outcome.{reaches}
use Rattle.places.specs.Places.{lazy_depth}
use Rattle.at_ease.specs.AtOnce.{pair_most}

-- the most bytes of the headers that are held back, and of these with a field's header and the varint after it
abbrev pub held_most : ℕ
held_most = lazy_depth * longest base

abbrev pub head_most : ℕ
head_most = held_most + pair_most

-- the headers of the sequences that are held back, "outermost first"
unfoldable pub headers_of : ℕ → List ℕ → List ℕ
headers_of held places = each (λ id. header id t_begin) (take held places)

-- with the header and one more varint of the field after them
abbrev pub head_of : ℕ → List ℕ → ℕ → ℕ → List ℕ
head_of held places header second = headers_of held places ++ (shortest header ++ shortest second)

-- the buffer after a call: as many of the bytes still to go as there is room for, from the position on
unfoldable pub buffer_after : ℕ → List ℕ → List ℕ → ℕ → List ℕ
buffer_after pos b o place = pick (ltb (length o) place) b (put b pos (drop place o))

-- how a call ends with the output o, gone on with from a place, from pos on over b: the outcome, and the buffer then
abbrev pub Ended : ℕ → List ℕ → List ℕ → ℕ → Result Reach Error → List ℕ → Type 0
Ended pos b o place r b' = (r ≡ reaches pos (length b) (length o) place) × (b' ≡ buffer_after pos b o place)
