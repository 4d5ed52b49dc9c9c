-- The plain copy is no longer than the message, and so what is counted of it wraps nowhere.
use Prim.Native.Nat.{ℕ, ◌+◌, ◌%◌, ◌≤◌, ◌<◌}
use mathlib.Core.Path.{◌≡◌, refl, sym, ap, ◌∙◌}
use mathlib.Core.List.{List}
use native.Mathlib.Nat.{mod-eq_of_lt}
use native.Mathlib.Omega.{arith}
use lib.ListN.{length}
use Rattle.layout.specs.Limits.{base}
use Rattle.layout.specs.Varint.{Outcome, whole, short, broken}
use Rattle.layout.specs.Field.{each}
use Rattle.layout.specs.Message.{Bytes, Fields, message, fields_of, whole_of, Verdict, complete, verdict_of}
use Rattle.layout.specs.Copy.{encode, plain_copy}
use Rattle.laws.proofs.Message.{fields_back}
use Rattle.std.specs.Prelude.{Ok}
use Rattle.copy_len.specs.CopyLen.{length_in, length_of}

pub copy_short : (t : List ℕ) → Bytes t → length (plain_copy base t) ≤ length t
unfolding plain_copy fields_of message whole_of encode each
copy_short t a = go (message base t).outcome refl
  where
    go : (o : Outcome Fields) → (message base t).outcome ≡ o → length (encode (whole_of o)) ≤ length t
    go (whole fs rest) q = (fields_back base (length t) 0 t fs rest a q).shorter
    go short q = omega arith
    go (broken rest) q = omega arith

-- what was counted wraps nowhere
pub length_told : (t : List ℕ) {n : ℕ} → Bytes t → length t < 18446744073709551616 → (verdict_of base t ≡ complete) × (n ≡ length (plain_copy base t) % 18446744073709551616) → Ok n ≡ length_of t
length_told t {n} a l p =
    let e : n ≡ length (plain_copy base t) = p.1 ∙ mod-eq_of_lt (omega (arith, copy_short t a)) in
    ap Ok e ∙ ap (λ (v : Verdict). length_in v (length (plain_copy base t))) (sym p.0)

-- a header of n bytes, or what follows it, is counted
pub added : (n m k : ℕ) {x : ℕ} → x ≡ n % 18446744073709551616 → m ≡ k → (x + m) % 18446744073709551616 ≡ (n + k) % 18446744073709551616
added n m k e h = omega (arith, e, h)
