-- How many drains the plain copy of a message given whole costs over a buffer of so many bytes. 02: "Give that number for a ticket, next to
-- its manifest length."
use Rattle.std.specs.Prelude.{ℕ, zero, suc, List, Result, Ok, Err}
use Rattle.types.specs.Types.{refusal}
use Rattle.drains.specs.Drains.{rounded_up}
use Rattle.passing.specs.declared.Stop.{Stop}
use Rattle.copy_len.specs.CopyLen.{length_of}
use Rattle.drain_count.specs.declared.Drains.{Drains}
use Rattle.drain_count.specs.declared.Uncounted.{Uncounted}
use Rattle.drain_count.specs.declared.Uncounted.TheVariants.{Stopped, Refused}

-- over a buffer of b bytes, of a message whose length this is
abbrev pub counted : ℕ → Result ℕ (Stop ℕ) → Result Drains Uncounted
counted b (Ok n) = Ok (record { count = rounded_up n b; len = n })
counted b (Err s) = Err (Stopped s)

-- "A buffer length of 0 is refused with 18, before the ticket is looked at."
unfoldable pub drains_in : ℕ → Result ℕ (Stop ℕ) → Result Drains Uncounted
drains_in zero l = Err (Refused (refusal 18))
drains_in (suc b) l = counted (suc b) l

-- of a byte string
abbrev pub drains_of : List ℕ → ℕ → Result Drains Uncounted
drains_of bs b = drains_in b (length_of bs)
