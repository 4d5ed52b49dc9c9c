-- "Refused, in checking order": the tests of every kind of call stand in the order of 01's numbers (`change_ordered` and so on), so that of the
-- refusals that apply a call gives the one with the lowest number (`lowest`).
use Prim.Native.Nat.{ℕ, ◌≤◌, ◌<◌}
use mathlib.Core.Path.{◌≡◌, refl, subst}
use mathlib.Core.Bool.{Bool, true, false}
use mathlib.Core.List.{List, [], ◌∷◌}
use native.Mathlib.Omega.{arith}
use Rattle.layout.specs.Limits.{pick}
use Rattle.layout.specs.Message.{All}
use Rattle.types.specs.declared.Error.{Error}
use Rattle.types.specs.declared.FixlenType.{FixlenType}
use Rattle.types.specs.Types.{number_of}
use Rattle.refusals.specs.Judged.{Test, refused_with, judged}
use Rattle.refusals.specs.Orders.{change_tests, scalar_tests, sized_tests, fixlen_tests, begin_tests, end_tests}

-- the number that a test refuses with
abbrev number_in : Test → ℕ
number_in t = number_of t.error

-- each test's number is below those of the tests behind it
abbrev pub Ordered : List Test → Type 0
Ordered [] = Unit {0}
Ordered (t ∷ ts) = All (λ u. number_in t < number_in u) ts × Ordered ts

pub change_ordered : (sound : Bool) (size offset : ℕ) (drained : Bool) → Ordered (change_tests sound size offset drained)
change_ordered sound size offset drained = ((omega arith, tt), (tt, tt))

pub scalar_ordered : (sound : Bool) (id : ℕ) → Ordered (scalar_tests sound id)
scalar_ordered sound id = ((omega arith, tt), (tt, tt))

pub sized_ordered : (sound : Bool) (id most n : ℕ) → Ordered (sized_tests sound id most n)
sized_ordered sound id most n = ((omega arith, (omega arith, tt)), ((omega arith, tt), (tt, tt)))

pub fixlen_ordered : (sound : Bool) (t : FixlenType) (id n : ℕ) → Ordered (fixlen_tests sound t id n)
fixlen_ordered sound t id n = ((omega arith, (omega arith, (omega arith, tt))), ((omega arith, (omega arith, tt)), ((omega arith, tt), (tt, tt))))

pub begin_ordered : (sound : Bool) (depth id : ℕ) → Ordered (begin_tests sound depth id)
begin_ordered sound depth id = ((omega arith, (omega arith, tt)), ((omega arith, tt), (tt, tt)))

pub end_ordered : (sound : Bool) (depth : ℕ) → Ordered (end_tests sound depth)
end_ordered sound depth = ((omega arith, tt), (tt, tt))

-- ---- the lowest number

-- a test that applies has no number below n
abbrev pub NotBelow : ℕ → Test → Type 0
NotBelow n t = t.fails ≡ true → n ≤ number_in t

above : (n : ℕ) (ts : List Test) → All (λ u. n < number_in u) ts → All (NotBelow n) ts
above n [] a = tt
above n (t ∷ ts) a = (λ e. omega (arith, a.0), above n ts a.1)

pub lowest : (ts : List Test) → Ordered ts → (e : Error) → judged ts ≡ refused_with e → All (NotBelow (number_of e)) ts
lowest [] o e j = let z : ◌≡◌ {A = ℕ} 0 1 = cc in absurd (omega arith)
lowest (t ∷ ts) o e j = go t.fails refl j (lowest ts o.1 e)
  where
    go : (b : Bool) → t.fails ≡ b → pick b (refused_with t.error) (judged ts) ≡ refused_with e → (judged ts ≡ refused_with e → All (NotBelow (number_of e)) ts)
        → All (NotBelow (number_of e)) (t ∷ ts)
    go true p j rest =
        let s : t.error ≡ e = cc in
        subst (λ (x : Error). All (NotBelow (number_of x)) (t ∷ ts)) s ((λ q. omega arith), above (number_in t) ts o.0)
    go false p j rest = ((λ q. let z : ◌≡◌ {A = ℕ} 0 1 = cc in absurd (omega arith)), rest j)
