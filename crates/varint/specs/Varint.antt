-- The decoder's step on this crate's types, over any width; and which states a varint can be in.
-- Callers live on `Laws` of proofs/, and open none of these but `start`.
use Rattle.std.specs.Prelude.{ℕ, ◌+◌, ◌^◌, ◌<◌, ◌≤◌, Bool, ◌&&◌, bit_or, nat_le, nat_lt}
use Rattle.layout.specs.Limits.{Limits, last_byte, last_bound, pick}
use Rattle.layout.specs.Varint as layout
use Rattle.varint.specs.declared.Acc.{Acc}
use Rattle.varint.specs.declared.Push.{Push}
use Rattle.varint.specs.declared.Push.TheVariants.{More, Value, Overlong}

-- before the first byte
abbrev pub start : Acc
start = record { value = 0; taken = 0 }

-- k bytes taken, so that one more may follow, and a value of 7 k bits
pub record Sound (L : Limits) (a : Acc) : Type 0 where
  pub few : a.taken ≤ last_byte L
  pub small : a.value < 128 ^ a.taken

-- as a test
unfoldable pub sound_acc : Limits → Acc → Bool
sound_acc L a = nat_le a.taken (last_byte L) && nat_lt a.value (128 ^ a.taken)

-- an answer as the layout's
abbrev pub unanswer : Push → layout.Push
unanswer (More a) = layout.more a.taken a.value
unanswer (Value n) = layout.value n
unanswer Overlong = layout.overrun

-- a varint under way, and one more byte: its seven bits are set at their place, and the last byte has room for what the width leaves.
-- Stated of every state; of one that can be, it is the layout's step (`layout_step` of proofs/Laws).
abbrev with_bits : Acc → ℕ → ℕ → ℕ
with_bits a k b = bit_or a.value (layout.digit k b)

unfoldable pub pushed : Limits → Acc → ℕ → Push
pushed L a b =
    pick (nat_lt a.taken (last_byte L))
    (pick (nat_lt b 128) (Value (with_bits a a.taken b)) (More (record { value = with_bits a a.taken b; taken = a.taken + 1 })))
    (pick (nat_lt b (last_bound L)) (Value (with_bits a (last_byte L) b)) Overlong)
