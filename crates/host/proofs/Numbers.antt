-- What the copy's call answers of a message that isn't complete, by its number, and of one that is.
use Prim.Native.Nat.{ℕ}
use mathlib.Core.Path.{◌≡◌, refl, sym, ap}
use mathlib.Core.List.{List}
use lib.IntN.{ℤ}
use Rattle.layout.specs.Message.{Verdict, complete, incomplete, broken_at}
use Rattle.exports.specs.Exports.{refused, result_of, filled, copied}

pub not_copied : (v : Verdict) {n : ℤ} (m out : List ℕ) → (v ≡ complete → ⊥) × (n ≡ refused v) → result_of n out ≡ copied v m out
unfolding refused copied
not_copied complete m out h = absurd (h.0 refl)
not_copied incomplete m out h = ap (λ (n : ℤ). result_of n out) h.1
not_copied (broken_at k) m out h = ap (λ (n : ℤ). result_of n out) h.1

pub as_complete : (v : Verdict) (m out : List ℕ) → v ≡ complete → filled m out ≡ copied v m out
unfolding copied
as_complete v m out e = ap (λ (x : Verdict). copied x m out) (sym e)
