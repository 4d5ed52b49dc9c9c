-- What a call comes to whose output has `total` bytes, gone on with from a place, where `pos` bytes of a buffer of `size` are used.
use Rattle.std.specs.Prelude.{ℕ, ◌+◌, ◌-◌, leb, ltb, Result, Ok, Err}
use Rattle.layout.specs.Limits.{pick}
use Rattle.types.specs.declared.Error.{Error}
use Rattle.types.specs.Types.{refusal}
use Rattle.outcomes.specs.declared.Reach.{Reach}
use Rattle.outcomes.specs.declared.Reach.TheVariants.{Through, Full}

-- "Number 11: the place to go on from exceeds the call's whole output." "Full": "the answer is the count of this call's bytes (held
-- headers included) now out, counted from its first byte".
unfoldable pub reaches : ℕ → ℕ → ℕ → ℕ → Result Reach Error
reaches pos size total place =
    pick (ltb total place) (Err (refusal 11))
    (pick (leb (total - place) (size - pos)) (Ok (Through (pos + (total - place)))) (Ok (Full (place + (size - pos)))))
