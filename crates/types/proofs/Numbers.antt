-- Each refusal has one number of 01's or 02's, and each of these numbers one refusal: a promise that names `refusal 9` speaks of number 9.
use Prim.Native.Nat.{ℕ, zero, suc, ◌≤◌}
use native.Mathlib.Omega.{arith}
use mathlib.Core.Path.{◌≡◌, refl}
use Rattle.types.specs.declared.Error.{Error}
use Rattle.types.specs.declared.Error.TheVariants.{UnsoundReader, InvalidMsg, UnsoundGatherer, PayloadTooLong, BadBuffer, UnsoundWriter, StringSubtype, Nesting, IdTooLarge, TooLong, PlaceBeyond, NoBuffer}
use Rattle.types.specs.Types.{number_of, refusal}

pub refusal-number : (e : Error) → refusal (number_of e) ≡ e
refusal-number UnsoundReader = refl
refusal-number InvalidMsg = refl
refusal-number UnsoundGatherer = refl
refusal-number PayloadTooLong = refl
refusal-number BadBuffer = refl
refusal-number UnsoundWriter = refl
refusal-number StringSubtype = refl
refusal-number Nesting = refl
refusal-number IdTooLarge = refl
refusal-number TooLong = refl
refusal-number PlaceBeyond = refl
refusal-number NoBuffer = refl

pub number-refusal : (n : ℕ) → 1 ≤ n → n ≤ 11 → number_of (refusal n) ≡ n
number-refusal zero a b = absurd (omega arith)
number-refusal (suc zero) a b = refl
number-refusal (suc (suc zero)) a b = refl
number-refusal (suc (suc (suc zero))) a b = refl
number-refusal (suc (suc (suc (suc zero)))) a b = refl
number-refusal (suc (suc (suc (suc (suc zero))))) a b = refl
number-refusal (suc (suc (suc (suc (suc (suc zero)))))) a b = refl
number-refusal (suc (suc (suc (suc (suc (suc (suc zero))))))) a b = refl
number-refusal (suc (suc (suc (suc (suc (suc (suc (suc zero)))))))) a b = refl
number-refusal (suc (suc (suc (suc (suc (suc (suc (suc (suc zero))))))))) a b = refl
number-refusal (suc (suc (suc (suc (suc (suc (suc (suc (suc (suc zero)))))))))) a b = refl
number-refusal (suc (suc (suc (suc (suc (suc (suc (suc (suc (suc (suc zero))))))))))) a b = refl
number-refusal (suc (suc (suc (suc (suc (suc (suc (suc (suc (suc (suc (suc n)))))))))))) a b = absurd (omega arith)

pub eighteen : number_of (refusal 18) ≡ 18
eighteen = refl
