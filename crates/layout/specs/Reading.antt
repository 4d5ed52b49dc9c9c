-- How a part of a message is read: the events that it raises, in order, and what its bytes come to.
use Rattle.std.specs.Prelude.{ℕ, zero, suc, ◌+◌, ◌*◌, ◌^◌, List, [], ◌∷◌, ◌++◌}
use Rattle.layout.specs.Varint.{Outcome, whole, short, broken}
use Rattle.layout.specs.Event.{Event}

pub record Reading (A : Type 0) : Type 0 where
  pub events : List Event
  pub outcome : Outcome A

-- nothing raised
abbrev pub quiet : {A : Type 0} → Outcome A → Reading A
quiet o = record { events = []; outcome = o }

-- these events, and then a reading
abbrev pub raise : {A : Type 0} → List Event → Reading A → Reading A
raise es r = record { events = es ++ r.events; outcome = r.outcome }

-- a value that raises nothing, and what follows it
unfoldable pub given : {A B : Type 0} → Outcome A → (A → List ℕ → Reading B) → Reading B
given (whole a rest) f = f a rest
given short f = quiet short
given (broken rest) f = quiet (broken rest)

-- a reading, and what follows it
unfoldable pub follow : {A B : Type 0} → List Event → Outcome A → (A → List ℕ → Reading B) → Reading B
follow es (whole a rest) f = raise es (f a rest)
follow es short f = record { events = es; outcome = short }
follow es (broken rest) f = record { events = es; outcome = broken rest }

abbrev pub and_then : {A B : Type 0} → Reading A → (A → List ℕ → Reading B) → Reading B
and_then r f = follow r.events r.outcome f

-- a reading whose value is made into another
abbrev pub becoming : {A B : Type 0} → (A → B) → Reading A → Reading B
becoming f r = and_then r (λ a rest. quiet (whole (f a) rest))

-- n more bytes, low byte first, where the k bytes before them came to v
unfoldable pub low_from : ℕ → ℕ → ℕ → List ℕ → Outcome ℕ
low_from zero k v bs = whole v bs
low_from (suc n) k v [] = short
low_from (suc n) k v (b ∷ bs) = low_from n (k + 1) (v + b * 256 ^ k) bs
