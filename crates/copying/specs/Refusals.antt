-- Which states a call takes, and the numbers that it refuses with, in their order.
use Rattle.std.specs.Prelude.{ℕ, Bool, true, false, ◌&&◌, eqb}
use Rattle.layout.specs.Limits.{Limits, pick}
use Rattle.machine.specs.Calls.{State, reading, owing, broke}
use Rattle.copying.specs.Owed.{sound_owed}
use Rattle.copying.specs.Copy.{Copy}

-- "Copier: both, no id held, depths equal once any owed event is written; that event's id, subtype, kind, length and count as the layout
-- allows, its place below its output's length.": but for the reader's part, by whether the writer is sound and how many ids it holds.
unfoldable pub sound_with : Limits → Bool → ℕ → Copy → Bool
sound_with L writer held k = writer && (eqb held 0 && sound_owed L k.reader k.depth k.owed)

abbrev pub is_broke : State → Bool
is_broke (reading d p) = false
is_broke (owing d id r) = false
is_broke broke = true

-- "The copier gives 1, then 6 (also where its own conditions above fail), then 2, and no others": by whether reader and writer are sound and
-- the reader is broken, what a refusal with a number comes to, and what the call comes to where there is none.
unfoldable pub refusing : {A : Type 0} → Bool → Bool → Bool → (ℕ → A) → A → A
refusing reader writer broken refused goes = pick reader (pick writer (pick broken (refused 2) goes) (refused 6)) (refused 1)
