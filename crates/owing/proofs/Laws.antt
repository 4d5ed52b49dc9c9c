-- What is owed of an event, whatever the chunk that it came from; and the kinds of arrays there and back.
use Prim.Native.Nat.{ℕ}
use mathlib.Core.Path.{◌≡◌, refl}
use mathlib.Core.List.{List, []}
use Rattle.types.specs.Types.{kind, array_kind}
use Rattle.types.specs.declared.ArrayKind.{ArrayKind}
use Rattle.types.specs.declared.ArrayKind.TheVariants as Kinds
use Rattle.event.specs.declared.Event as given
use Rattle.event.specs.declared.Event.TheVariants as events
use Rattle.event.specs.Event.{event_of}
use Rattle.owed.specs.Owed.{owe}

pub kind_there : (k : ArrayKind) → array_kind (kind k) ≡ k
kind_there Kinds.Unsigned = refl
kind_there Kinds.Signed = refl
kind_there Kinds.Fp32 = refl
kind_there Kinds.Fp64 = refl

-- what is owed of an event does not depend on the chunk that it came from
pub owe_any : (due : ℕ) (c : List ℕ) (e : given.Event) → owe due (event_of [] e) ≡ owe due (event_of c e)
owe_any due c (events.Unsigned id n) = refl
owe_any due c (events.Signed id z) = refl
owe_any due c (events.Fp32 id x) = refl
owe_any due c (events.Fp32Nan id n) = refl
owe_any due c (events.Fp64 id x) = refl
owe_any due c (events.Fp64Nan id n) = refl
owe_any due c (events.Str id b) = refl
owe_any due c (events.Blob id b) = refl
owe_any due c (events.Fixlen id s n) = refl
owe_any due c (events.Array id k n) = refl
owe_any due c (events.Begin id) = refl
owe_any due c events.End = refl
