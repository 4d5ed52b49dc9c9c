-- An event with the phase after it.
use mathlib.Core.Path.{◌≡◌, ap}
use Rattle.std.specs.Prelude.{Some}
use Rattle.event.specs.declared.Event.{Event}
use Rattle.phase.specs.declared.Carried.{Carried}
use Rattle.phase.specs.declared.Phase.{Phase}
use Rattle.phase.specs.declared.Stepped.TheVariants.{Raised}

pub raised : (e : Event) {p q : Phase} (c : Carried) → p ≡ q → Some (Raised e p c) ≡ Some (Raised e q c)
raised e c h = ap (λ (p : Phase). Some (Raised e p c)) h
