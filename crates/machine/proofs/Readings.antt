-- Laws of the layout's readings: what follows what follows, and events raised before.
use Prim.Native.Nat.{ℕ}
use mathlib.Core.Path.{◌≡◌, refl, ap, ◌∙◌}
use mathlib.Core.List.{List, ◌++◌, append_assoc}
use Rattle.layout.specs.Varint.{Outcome, whole, short, broken}
use Rattle.layout.specs.Event.{Event}
use Rattle.layout.specs.Reading.{Reading, quiet, raise, given, follow, and_then, becoming}

pub raise-raise : {A : Type 0} (es fs : List Event) (r : Reading A) → raise (es ++ fs) r ≡ raise es (raise fs r)
raise-raise es fs r = ap (λ (l : List Event). record { events = l; outcome = r.outcome }) (append_assoc es fs r.events)

pub follow-raise : {A B : Type 0} (es fs : List Event) (o : Outcome A) (g : A → List ℕ → Reading B) → follow (es ++ fs) o g ≡ raise es (follow fs o g)
unfolding follow
follow-raise es fs (whole a rest) g = raise-raise es fs (g a rest)
follow-raise es fs short g = refl
follow-raise es fs (broken rest) g = refl

pub and_then-raise : {A B : Type 0} (es : List Event) (r : Reading A) (g : A → List ℕ → Reading B) → and_then (raise es r) g ≡ raise es (and_then r g)
and_then-raise es r g = follow-raise es r.events r.outcome g

pub follow-follow : {A B C : Type 0} (es : List Event) (o : Outcome A) (f : A → List ℕ → Reading B) (g : B → List ℕ → Reading C)
    → and_then (follow es o f) g ≡ follow es o (λ a rest. and_then (f a rest) g)
unfolding follow
follow-follow es (whole a rest) f g = follow-raise es (f a rest).events (f a rest).outcome g
follow-follow es short f g = refl
follow-follow es (broken rest) f g = refl

pub and_then-and_then : {A B C : Type 0} (r : Reading A) (f : A → List ℕ → Reading B) (g : B → List ℕ → Reading C)
    → and_then (and_then r f) g ≡ and_then r (λ a rest. and_then (f a rest) g)
and_then-and_then r f g = follow-follow r.events r.outcome f g

pub and_then-quiet : {A B : Type 0} (a : A) (rest : List ℕ) (g : A → List ℕ → Reading B) → and_then (quiet (whole a rest)) g ≡ g a rest
unfolding follow
and_then-quiet a rest g = refl

pub and_then-given : {A B C : Type 0} (o : Outcome A) (f : A → List ℕ → Reading B) (g : B → List ℕ → Reading C)
    → and_then (given o f) g ≡ given o (λ a rest. and_then (f a rest) g)
unfolding given follow
and_then-given (whole a rest) f g = refl
and_then-given short f g = refl
and_then-given (broken rest) f g = refl

pub given_ext : {A B : Type 0} (o : Outcome A) (f g : A → List ℕ → Reading B) → ((a : A) (rest : List ℕ) → f a rest ≡ g a rest) → given o f ≡ given o g
unfolding given
given_ext (whole a rest) f g h = h a rest
given_ext short f g h = refl
given_ext (broken rest) f g h = refl

pub follow_ext : {A B : Type 0} (es : List Event) (o : Outcome A) (f g : A → List ℕ → Reading B) → ((a : A) (rest : List ℕ) → f a rest ≡ g a rest) → follow es o f ≡ follow es o g
unfolding follow
follow_ext es (whole a rest) f g h = ap (raise es) (h a rest)
follow_ext es short f g h = refl
follow_ext es (broken rest) f g h = refl

pub becoming_then : {A B C : Type 0} (f : A → B) (r : Reading A) (g : B → List ℕ → Reading C) → and_then (becoming f r) g ≡ and_then r (λ a rest. g (f a) rest)
becoming_then f r g =
    and_then-and_then r _ g
    ∙ follow_ext r.events r.outcome _ _ (λ a rest. and_then-quiet (f a) rest g)
