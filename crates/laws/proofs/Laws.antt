-- The layout's laws, for every byte string and every record of limits that fits. Each statement can be read without its proof, with the
-- layout's definitions and those of this crate's specs/; the lemmas stand in the files beside this one.
use Prim.Native.Nat.{ℕ, ◌≤◌}
use mathlib.Core.Path.{◌≡◌, refl, sym, ap, ◌∙◌, subst}
use mathlib.Core.Logic.{◌↔◌}
use mathlib.Core.Bool.{Bool, true, false}
use mathlib.Core.List.{List, [], map}
use native.Mathlib.Omega.{arith}
use lib.ListN.{length}
use lib.Dec.{eqb, lit≤, lit<}
use borrow.Author.Tests.{eqb-true}
use Rattle.layout.specs.Limits.{Limits, base}
use Rattle.layout.specs.Varint.{Outcome, whole, short, broken}
use Rattle.layout.specs.Field.{Field}
use Rattle.layout.specs.Event.{Event, joined, bytewise}
use Rattle.layout.specs.Message.{Fields, message, events_of, fields_of, whole_of, verdict_by, verdict_of, complete, incomplete, WholeFields, Complete}
use Rattle.layout.specs.Copy.{encode, plain_copy}
use Rattle.layout.specs.Message.{All, Bytes}
use Rattle.laws.specs.Legal.{Fit, Legal, Balanced, settled, nesting, narrow}
use Rattle.laws.specs.Events.{fields_events, fields_joined, encode_events}
use Rattle.laws.proofs.Bytes.{encode_bytes}
use Rattle.laws.proofs.Message.{encode-settled, fields_forth, Run, fields_back, wholly_read}
use Rattle.laws.proofs.Copying.{fields_bytes, bytewise_bytes}
use Rattle.laws.proofs.Joining.{fields_joined_lem}

-- 01's limits at every deepest nesting, and the limits of a build of 32 bits
pub fit_nesting : (d : ℕ) → Fit (nesting d)
fit_nesting d = record { headers = lit≤ tt; words = lit≤ tt; counts = lit< tt; floats = lit≤ tt }

pub fit_base : Fit base
fit_base = fit_nesting 255

pub fit_narrow : (d : ℕ) → Fit (narrow d)
fit_narrow d = record { headers = lit≤ tt; words = lit≤ tt; counts = lit< tt; floats = lit≤ tt }

-- ---- legal and balanced fields, written

-- They are accepted: complete, the same fields but for the ids of closes, and their own events.
pub accepts : (L : Limits) → Fit L → (xs : List Field) → All (Legal L) xs → Balanced L 0 xs 0 →
    (verdict_of L (encode xs) ≡ complete) × (fields_of L (encode xs) ≡ map settled xs) × (events_of L (encode xs) ≡ fields_events xs)
unfolding verdict_of fields_of events_of message verdict_by whole_of
accepts L fit xs h b =
    let e = fields_forth L fit xs (length (encode xs)) 0 0 h b (omega arith) in
    (ap (λ r. verdict_by (length (encode xs)) r.outcome) e, ap (λ r. whole_of r.outcome) e, ap (λ r. r.events) e)

-- ---- complete messages

depth_zero : (n : ℕ) (fs : Fields) (rest : List ℕ) → verdict_by n (whole fs rest) ≡ complete → fs.depth ≡ 0
unfolding verdict_by
depth_zero n fs rest e = go (eqb fs.depth 0) refl
  where
    go : (t : Bool) → eqb fs.depth 0 ≡ t → fs.depth ≡ 0
    go true q = eqb-true fs.depth 0 q
    go false q = let e' : incomplete ≡ complete = simp q at e in absurd (let z : ◌≡◌ {A = ℕ} 0 1 = cc in omega arith)

-- what reading a complete message comes to
complete_run : (L : Limits) (T : List ℕ) → Bytes T → verdict_of L T ≡ complete → Run L 0 T (events_of L T) (record { list = fields_of L T; depth = 0 })
unfolding verdict_of fields_of events_of message verdict_by whole_of
complete_run L T a e = go (message L T).outcome refl e
  where
    go : (o : Outcome Fields) → (message L T).outcome ≡ o → verdict_by (length T) o ≡ complete → Run L 0 T (events_of L T) (record { list = fields_of L T; depth = 0 })
    go (whole fs rest) q s =
        let f≡ : fs ≡ record { list = fields_of L T; depth = 0 } = λ i. record { list = ap whole_of (sym q) i; depth = depth_zero (length T) fs rest s i } in
        subst (Run L 0 T (events_of L T)) f≡ (fields_back L (length T) 0 T fs rest a q)
    go short q s = absurd (let z : ◌≡◌ {A = ℕ} 0 1 = cc in omega arith)
    go (broken r) q s = absurd (let z : ◌≡◌ {A = ℕ} 0 1 = cc in omega arith)

wholly_message : (L : Limits) (T : List ℕ) (xs : List Field) → Bytes T → WholeFields L 0 T xs 0 → (message L T).outcome ≡ whole (record { list = xs; depth = 0 }) []
unfolding message
wholly_message L T xs a w = wholly_read L w (length T) a (omega arith)

-- The verdict is complete exactly when the bytes are whole fields, none broken, ending at depth 0.
pub complete_iff : (L : Limits) (T : List ℕ) → Bytes T → (verdict_of L T ≡ complete) ↔ Complete L T
unfolding verdict_of verdict_by
complete_iff L T a = (λ e. (fields_of L T, (complete_run L T a e).wholly), λ w. ap (verdict_by (length T)) (wholly_message L T w.0 a w.1))

-- Those fields are the only ones, and the message's.
pub complete_fields : (L : Limits) (T : List ℕ) (xs : List Field) → Bytes T → WholeFields L 0 T xs 0 → fields_of L T ≡ xs
unfolding fields_of whole_of
complete_fields L T xs a w = ap whole_of (wholly_message L T xs a w)

-- The fields of a complete message are legal and balanced, and its events are theirs.
pub complete_legal : (L : Limits) (T : List ℕ) → Bytes T → verdict_of L T ≡ complete →
    All (Legal L) (fields_of L T) × Balanced L 0 (fields_of L T) 0 × (events_of L T ≡ fields_events (fields_of L T))
complete_legal L T a e = let r = complete_run L T a e in (r.legal, r.balanced, r.events)

-- "Its events are the layout's, each payload's pieces joined": those of its fields, with one piece for each payload.
pub complete_joined : (L : Limits) (T : List ℕ) → Bytes T → verdict_of L T ≡ complete → joined (events_of L T) ≡ fields_joined (fields_of L T)
complete_joined L T a e = ap joined (complete_legal L T a e).2 ∙ fields_joined_lem (fields_of L T)

-- ---- the plain copy of a complete message

copy-accepted : (L : Limits) → Fit L → (T : List ℕ) → Bytes T → verdict_of L T ≡ complete →
    (verdict_of L (plain_copy L T) ≡ complete) × (fields_of L (plain_copy L T) ≡ map settled (fields_of L T)) × (events_of L (plain_copy L T) ≡ fields_events (fields_of L T))
unfolding plain_copy
copy-accepted L fit T a e = let r = complete_legal L T a e in accepts L fit (fields_of L T) r.0 r.1

-- It is a byte string,
pub copy_bytes : (L : Limits) (T : List ℕ) → Bytes T → verdict_of L T ≡ complete → Bytes (plain_copy L T)
unfolding plain_copy
copy_bytes L T a e = encode_bytes L (fields_of L T) (complete_legal L T a e).0

-- is complete,
pub copy_complete : (L : Limits) → Fit L → (T : List ℕ) → Bytes T → verdict_of L T ≡ complete → verdict_of L (plain_copy L T) ≡ complete
copy_complete L fit T a e = (copy-accepted L fit T a e).0

-- has the same events,
pub copy-events : (L : Limits) → Fit L → (T : List ℕ) → Bytes T → verdict_of L T ≡ complete → events_of L (plain_copy L T) ≡ events_of L T
copy-events L fit T a e = (copy-accepted L fit T a e).2 ∙ sym (complete_legal L T a e).2

-- and is its own plain copy.
pub copy_again : (L : Limits) → Fit L → (T : List ℕ) → Bytes T → verdict_of L T ≡ complete → plain_copy L (plain_copy L T) ≡ plain_copy L T
unfolding plain_copy
copy_again L fit T a e = ap encode (copy-accepted L fit T a e).1 ∙ encode-settled (fields_of L T)

-- It is an encoding of the events, one event after another,
pub copy_of-events : (L : Limits) (T : List ℕ) → Bytes T → verdict_of L T ≡ complete → encode_events 0 (events_of L T) ≡ plain_copy L T
unfolding plain_copy
copy_of-events L T a e = ap (encode_events 0) (complete_legal L T a e).2 ∙ fields_bytes (fields_of L T)

-- however the payloads were cut.
pub copy_of_pieces : (L : Limits) (T : List ℕ) (es : List Event) → Bytes T → verdict_of L T ≡ complete → bytewise es ≡ events_of L T → encode_events 0 es ≡ plain_copy L T
copy_of_pieces L T es a e s = sym (bytewise_bytes 0 es) ∙ ap (encode_events 0) s ∙ copy_of-events L T a e

same_copy : (L : Limits) (T U : List ℕ) → Bytes T → Bytes U → verdict_of L T ≡ complete → verdict_of L U ≡ complete → events_of L T ≡ events_of L U → plain_copy L T ≡ plain_copy L U
same_copy L T U a b e f s = sym (copy_of-events L T a e) ∙ ap (encode_events 0) s ∙ copy_of-events L U b f

-- Two complete messages have the same plain copy exactly when they have the same events.
pub exactly_when : (L : Limits) → Fit L → (T U : List ℕ) → Bytes T → Bytes U → verdict_of L T ≡ complete → verdict_of L U ≡ complete →
    (plain_copy L T ≡ plain_copy L U) ↔ (events_of L T ≡ events_of L U)
exactly_when L fit T U a b e f = (λ s. sym (copy-events L fit T a e) ∙ ap (events_of L) s ∙ copy-events L fit U b f, same_copy L T U a b e f)

-- No complete message with the same events is shorter than the plain copy.
pub shortest-copy : (L : Limits) (T U : List ℕ) → Bytes T → Bytes U → verdict_of L T ≡ complete → verdict_of L U ≡ complete → events_of L U ≡ events_of L T → length (plain_copy L T) ≤ length U
unfolding plain_copy
shortest-copy L T U a b e f s = omega (arith, ap length (same_copy L T U a b e f (sym s)), (complete_run L U b f).shorter)
