-- The calls' numbers on a desk, and what a number tells.
use Rattle.std.specs.Prelude.{◌≡◌, ℕ, Result, MatchResult}
use Rattle.desk.specs.declared.calls.UnknownCall.{UnknownCall}
use Rattle.desk.specs.declared.calls.WriterCall.{WriterCall}
use Rattle.desk.specs.declared.calls.WriterCall.TheVariants as W
use Rattle.desk.specs.declared.calls.CopierCall.{CopierCall}
use Rattle.desk.specs.declared.calls.CopierCall.TheVariants as C

abbrev pub writer_number : WriterCall → ℕ
writer_number W.Unsigned = 1
writer_number W.Signed = 2
writer_number W.Boolean = 3
writer_number W.Fixlen = 4
writer_number W.Fp32 = 5
writer_number W.Fp64 = 6
writer_number W.Str = 7
writer_number W.Blob = 8
writer_number W.Begin = 13
writer_number W.End = 14
writer_number W.EndKeep = 15
writer_number W.Flush = 16
writer_number W.BufferSet = 17
writer_number W.Open = 20

abbrev pub copier_number : CopierCall → ℕ
copier_number C.Open = 24
copier_number C.Feed = 25
copier_number C.Flush = 26
copier_number C.BufferSet = 27

-- the call has this number, or no call has it
abbrev pub IsWriterCall : ℕ → Result WriterCall UnknownCall → Type 0
IsWriterCall n r = MatchResult r (λ call. writer_number call ≡ n) (λ _. (call : WriterCall) → ¬ (writer_number call ≡ n))

abbrev pub IsCopierCall : ℕ → Result CopierCall UnknownCall → Type 0
IsCopierCall n r = MatchResult r (λ call. copier_number call ≡ n) (λ _. (call : CopierCall) → ¬ (copier_number call ≡ n))
