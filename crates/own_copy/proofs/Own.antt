-- A message of whole fields in their shortest form, from depth 0 back to it: its verdict and its plain copy.
use Prim.Native.Nat.{ℕ}
use native.Mathlib.Omega.{arith}
use mathlib.Core.Path.{◌≡◌, sym, ◌∙◌, subst}
use mathlib.Core.List.{List}
use lib.ListN.{length, take}
use lib.Seq.{take_all}
use Rattle.layout.specs.Limits.{base}
use Rattle.layout.specs.Message.{complete, verdict_of}
use Rattle.layout.specs.Copy.{plain_copy}
use Rattle.laws.specs.Legal.{Balanced}
use Rattle.laws.proofs.Laws.{fit_base}
use Rattle.shortest.specs.Own.{OwnFields}
use Rattle.copying_laws.proofs.AsIs.{own_copy}

pub own_whole : (T : List ℕ) (n d : ℕ) → OwnFields base 0 (take n T) d → n ≡ length T → d ≡ 0 → (verdict_of base T ≡ complete) × (plain_copy base T ≡ T)
own_whole T n d a e z =
    own_copy base fit_base T a.fields a.legal (subst (Balanced base 0 a.fields) z a.balanced) (sym (take_all n T (omega (arith, e))) ∙ a.bytes)
