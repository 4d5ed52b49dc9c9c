-- A copier whose tests all pass: its reader and its writer are sound, and its reader goes on.
use mathlib.Core.Path.{◌≡◌, refl}
use mathlib.Core.Bool.{Bool, true, false}
use Rattle.types.specs.Types.{refusal}
use Rattle.refusals.specs.Judged.{accepted, refused_with}
use Rattle.copying.specs.Refusals.{refusing}

pub all_pass : (reader writer broken : Bool) → refusing reader writer broken (λ n. refused_with (refusal n)) accepted ≡ accepted → (reader ≡ true) × (writer ≡ true) × (broken ≡ false)
unfolding refusing
all_pass true true false h = (refl, refl, refl)
all_pass true true true h = absurd cc
all_pass true false broken h = absurd cc
all_pass false writer broken h = absurd cc
