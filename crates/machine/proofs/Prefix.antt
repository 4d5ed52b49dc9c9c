-- Prefixes: reading a joined string is reading the first part and going on; a broken one is broken at the same byte whatever follows, and
-- one that is not broken has no broken prefix. This is what makes every cut of a message the same.
use Prim.Native.Nat.{ℕ, zero, suc, ◌-◌}
use native.Mathlib.Omega.{arith}
use mathlib.Core.Path.{◌≡◌, refl, sym, ap, ◌∙◌}
use mathlib.Core.Bool.{Bool, true, false}
use mathlib.Core.List.{List, [], ◌∷◌, ◌++◌, append_assoc, append-nil}
use lib.ListN.{length, length-append}
use lib.Dec.{eqb}
use Rattle.layout.specs.Limits.{Limits, pick}
use Rattle.layout.specs.Varint.{Outcome, whole, short, broken}
use Rattle.layout.specs.Event.{Event}
use Rattle.layout.specs.Message.{complete, incomplete, broken_at, events_of, verdict_of}
use Rattle.machine.specs.Machine.{Phase, idle, in_header, Stepped, on, bad, step, Spot, at, broken_before, Walk, onward, walk, walk_on, ending, end_of, verdict_after}
use Rattle.machine.specs.Machine.{in_unsigned, in_signed, in_word, in_unsigned_count, in_signed_count, in_float_count, in_array_word, in_float, in_payload}
use Rattle.machine.proofs.Bridge.{events-walk, verdict_walk}

-- a walk, and another from where it leads
unfoldable pub and_on : Limits → Walk → List ℕ → Walk
and_on L w bs = record { events = w.events ++ (walk_on L w.spot bs).events; spot = (walk_on L w.spot bs).spot }

onward_on : (L : Limits) (s : Stepped) (xs ys : List ℕ) → ((d : ℕ) (p : Phase) → walk L d p (xs ++ ys) ≡ and_on L (walk L d p xs) ys)
    → onward s (xs ++ ys) (λ d p. walk L d p (xs ++ ys)) ≡ and_on L (onward s xs (λ d p. walk L d p xs)) ys
unfolding onward and_on walk_on
onward_on L (on es d p) xs ys h =
    ap (λ (w : Walk). record { events = es ++ w.events; spot = w.spot }) (h d p)
    ∙ ap (λ (l : List Event). record { events = l; spot = (walk_on L (walk L d p xs).spot ys).spot }) (sym (append_assoc es (walk L d p xs).events (walk_on L (walk L d p xs).spot ys).events))
onward_on L bad xs ys h = refl

pub walk-append : (L : Limits) (d : ℕ) (p : Phase) (xs ys : List ℕ) → walk L d p (xs ++ ys) ≡ and_on L (walk L d p xs) ys
unfolding walk and_on walk_on
walk-append L d p [] ys = refl
walk-append L d p (x ∷ xs) ys = onward_on L (step L d p x) xs ys (λ d' p'. walk-append L d' p' xs ys)

-- Reading a joined string: the events of the first part, then those from where it leads.
pub events-append : (L : Limits) (xs ys : List ℕ) → events_of L (xs ++ ys) ≡ events_of L xs ++ (walk_on L (walk L 0 idle xs).spot ys).events
unfolding and_on
events-append L xs ys =
    events-walk L (xs ++ ys) ∙ ap (λ (w : Walk). w.events) (walk-append L 0 idle xs ys)
    ∙ ap (λ (es : List Event). es ++ (walk_on L (walk L 0 idle xs).spot ys).events) (sym (events-walk L xs))

pub verdict_append : (L : Limits) (xs ys : List ℕ) → verdict_of L (xs ++ ys) ≡ verdict_after (length (xs ++ ys)) (end_of (walk_on L (walk L 0 idle xs).spot ys).spot)
unfolding and_on
verdict_append L xs ys = verdict_walk L (xs ++ ys) ∙ ap (λ (w : Walk). verdict_after (length (xs ++ ys)) (end_of w.spot)) (walk-append L 0 idle xs ys)

-- ---- broken

-- only at a broken spot is the verdict broken
whole_not_broken : (t : Bool) (n : ℕ) → pick t complete incomplete ≡ broken_at n → ⊥
whole_not_broken true n e = let z : ◌≡◌ {A = ℕ} 0 1 = cc in absurd (omega arith)
whole_not_broken false n e = let z : ◌≡◌ {A = ℕ} 0 1 = cc in absurd (omega arith)

broken_only : (m n : ℕ) (o : Outcome ℕ) → verdict_after m o ≡ broken_at n → (rest : List ℕ) × (o ≡ broken rest) × (n ≡ m - length rest)
unfolding verdict_after
broken_only m n (whole d rest) e = absurd (whole_not_broken (eqb d 0) n e)
broken_only m n short e = let z : ◌≡◌ {A = ℕ} 0 1 = cc in absurd (omega arith)
broken_only m n (broken rest) e = (rest, refl, cc)

never_broken : (d : ℕ) (p : Phase) (rest : List ℕ) → ending d p ≡ broken rest → ⊥
unfolding ending
never_broken d (in_header zero v) rest e = let z : ◌≡◌ {A = ℕ} 0 1 = cc in absurd (omega arith)
never_broken d (in_header (suc k) v) rest e = let z : ◌≡◌ {A = ℕ} 0 1 = cc in absurd (omega arith)
never_broken d (in_unsigned id left k v) rest e = let z : ◌≡◌ {A = ℕ} 0 1 = cc in absurd (omega arith)
never_broken d (in_signed id left k v) rest e = let z : ◌≡◌ {A = ℕ} 0 1 = cc in absurd (omega arith)
never_broken d (in_word id k v) rest e = let z : ◌≡◌ {A = ℕ} 0 1 = cc in absurd (omega arith)
never_broken d (in_unsigned_count id k v) rest e = let z : ◌≡◌ {A = ℕ} 0 1 = cc in absurd (omega arith)
never_broken d (in_signed_count id k v) rest e = let z : ◌≡◌ {A = ℕ} 0 1 = cc in absurd (omega arith)
never_broken d (in_float_count id k v) rest e = let z : ◌≡◌ {A = ℕ} 0 1 = cc in absurd (omega arith)
never_broken d (in_array_word id c k v) rest e = let z : ◌≡◌ {A = ℕ} 0 1 = cc in absurd (omega arith)
never_broken d (in_float id w left k v) rest e = let z : ◌≡◌ {A = ℕ} 0 1 = cc in absurd (omega arith)
never_broken d (in_payload id r total o) rest e = let z : ◌≡◌ {A = ℕ} 0 1 = cc in absurd (omega arith)

broken_spot : (q : Spot) (rest : List ℕ) → end_of q ≡ broken rest → q ≡ broken_before rest
unfolding end_of
broken_spot (at d p) rest e = absurd (never_broken d p rest e)
broken_spot (broken_before r) rest e = let z : r ≡ rest = cc in ap broken_before z

pub broken_walk : (L : Limits) (xs : List ℕ) (n : ℕ) → verdict_of L xs ≡ broken_at n → (rest : List ℕ) × ((walk L 0 idle xs).spot ≡ broken_before rest) × (n ≡ length xs - length rest)
broken_walk L xs n e =
    let b = broken_only (length xs) n (end_of (walk L 0 idle xs).spot) (sym (verdict_walk L xs) ∙ e) in
    (b.0, broken_spot _ b.0 b.1, b.2)

-- A broken byte string is broken at the same byte whatever follows, with the same events.
pub broken_stays : (L : Limits) (xs ys : List ℕ) (n : ℕ) → verdict_of L xs ≡ broken_at n → (verdict_of L (xs ++ ys) ≡ broken_at n) × (events_of L (xs ++ ys) ≡ events_of L xs)
unfolding walk_on end_of verdict_after
broken_stays L xs ys n e =
    let b = broken_walk L xs n e in
    let c : length (xs ++ ys) - length (b.0 ++ ys) ≡ n = simp (length-append) (omega (arith, b.2)) in (
      verdict_append L xs ys ∙ ap (λ (q : Spot). verdict_after (length (xs ++ ys)) (end_of (walk_on L q ys).spot)) b.1 ∙ ap broken_at c,
      events-append L xs ys ∙ ap (λ (q : Spot). events_of L xs ++ (walk_on L q ys).events) b.1 ∙ append-nil (events_of L xs),
    )

-- A complete or incomplete one has no broken prefix.
pub no_broken_prefix : (L : Limits) (xs ys : List ℕ) → ((n : ℕ) → verdict_of L (xs ++ ys) ≡ broken_at n → ⊥) → (n : ℕ) → verdict_of L xs ≡ broken_at n → ⊥
no_broken_prefix L xs ys h n e = h n (broken_stays L xs ys n e).0
