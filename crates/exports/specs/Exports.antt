-- "The C host calls two exports on byte slices, answering a signed 64-bit number"; a third, the length, is 02's point 1, and a fourth, the
-- number of drains, its point 9.
use Rattle.std.specs.Prelude.{ℕ, zero, suc, ◌-◌, ◌^◌, min, Bool, List, ◌++◌, length, take, drop, leb, ℤ, pos, negsuc}
use Rattle.layout.specs.Limits.{pick}
use Rattle.layout.specs.Message.{Verdict, complete, incomplete, broken_at}
use Rattle.drains.specs.Drains.{rounded_up}

-- "the verdict (0 complete, 1 incomplete, -2 broken)"
unfoldable pub number : Verdict → ℤ
number complete = pos 0
number incomplete = pos 1
number (broken_at n) = negsuc 1

-- what a call that asks for more than the verdict answers of a message that isn't complete, "-2; then -100 incomplete"; 0 of one that is
unfoldable pub refused : Verdict → ℤ
refused complete = pos 0
refused incomplete = negsuc 99
refused (broken_at n) = negsuc 1

-- ---- the copy

-- what the call answers, and the output as it leaves it
pub record Copied : Type 0 where
  pub answer : ℤ
  pub out : List ℕ

abbrev pub result_of : ℤ → List ℕ → Copied
result_of r out = record { answer = r; out = out }

-- "An output beyond 9,223,372,036,854,775,807 bytes counts as that long."
abbrev pub room : List ℕ → ℕ
room out = min (length out) (2 ^ 63 - 1)

abbrev pub enough : List ℕ → List ℕ → Bool
enough m out = leb (length m) (room out)

-- of a complete message whose plain copy is m: "-101 output too short, the output filled with the manifest's start; else the length, the
-- rest of the output unaltered"
unfoldable pub filled : List ℕ → List ℕ → Copied
filled m out =
    pick (enough m out) (result_of (pos (length m)) (m ++ drop (length m) out)) (result_of (negsuc 100) (take (room out) m ++ drop (room out) out))

-- "-2; then -100 incomplete; then -101": the last is `filled`'s. "-2 and -100 write nothing."
unfoldable pub copied : Verdict → List ℕ → List ℕ → Copied
copied complete m out = filled m out
copied incomplete m out = result_of (refused incomplete) out
copied (broken_at n) m out = result_of (refused (broken_at n)) out

-- ---- the length

-- of a message whose plain copy has n bytes. 02: "the exact number of manifest bytes"; "an incomplete or broken ticket answers as the reader
-- would", by the numbers that the copy's call has for it
unfoldable pub measured : Verdict → ℕ → ℤ
measured complete n = pos n
measured incomplete n = refused incomplete
measured (broken_at k) n = refused (broken_at k)

-- ---- the drains

-- over a buffer of b bytes, of a message whose plain copy has n. 02: "A buffer length of 0 is refused with 18, before the ticket is looked
-- at": by that number, as -2 is by the reader's; then as the length
unfoldable pub drained : ℕ → Verdict → ℕ → ℤ
drained zero v n = negsuc 17
drained (suc b) v n = measured v (rounded_up n (suc b))
