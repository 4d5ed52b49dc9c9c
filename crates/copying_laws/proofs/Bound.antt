-- What is still to come of a message; what is out never exceeds the bytes of the whole message's events, reserved bytes aside, so that a
-- copier that goes on sending ends; and at "full" it is less.
use Prim.Native.Nat.{ℕ, ◌+◌, ◌≤◌, ◌<◌}
use native.Mathlib.Omega.{arith}
use mathlib.Core.Path.{◌≡◌, ap, ◌∙◌}
use mathlib.Core.Logic.{inl, inr}
use mathlib.Core.List.{List, [], ◌∷◌, ◌++◌, append_assoc}
use lib.ListN.{length, length-append}
use Rattle.layout.specs.Limits.{Limits}
use Rattle.layout.specs.Event.{Event, bytewise}
use Rattle.layout.specs.Message.{events_of}
use Rattle.laws.specs.Events.{event_bytes, due_after_all, encode_events}
use Rattle.laws.proofs.Copying.{encode-append, bytewise_bytes}
use Rattle.machine.specs.Machine.{in_header, in_unsigned, in_signed, in_word, in_unsigned_count, in_signed_count, in_float_count, in_array_word, in_float, in_payload}
use Rattle.machine.specs.Machine.{idle, at_byte, step, Spot, onward, walk, walk_on}
use Rattle.machine.specs.Calls.{State, reading, owing, broke}
use Rattle.machine.specs.Run.{due, spot_of, Follows}
use Rattle.machine.proofs.Bridge.{events-walk}
use Rattle.machine.proofs.Prefix.{events-append}
use Rattle.copying.specs.Owed.{rest}
use Rattle.copying.specs.Copy.{Copy}
use Rattle.copying.specs.Run.{Keeps, InPayload, Wants}

-- the events still to come: the one due, and those of the bytes xs from where a state stands
unfoldable pub later : Limits → State → List ℕ → List Event
later L s xs = due s ++ (walk_on L (spot_of s) xs).events

pub events-later : (L : Limits) (bs xs : List ℕ) (es : List Event) (s : State) → Follows L bs es s → events_of L (bs ++ xs) ≡ bytewise es ++ later L s xs
unfolding later
events-later L bs xs es s f =
    events-append L bs xs ∙ ap (λ (l : List Event). l ++ (walk_on L (walk L 0 idle bs).spot xs).events) (events-walk L bs ∙ f.events)
    ∙ ap (λ (p : Spot). (bytewise es ++ due s) ++ (walk_on L p xs).events) f.spot
    ∙ append_assoc (bytewise es) (due s) (walk_on L (spot_of s) xs).events

-- the first of two lists of events has no more bytes than both
first_fewer : (es fs : List Event) → length (encode_events 0 es) ≤ length (encode_events 0 (es ++ fs))
first_fewer es fs = let e = ap length (encode-append 0 es fs) ∙ length-append (encode_events 0 es) (encode_events (due_after_all 0 es) fs) in omega arith

-- bs are the bytes read and `more` those to come
pub out_bound : (L : Limits) (reserved bs more out : List ℕ) (k : Copy) → Keeps L reserved bs out k
    → length out + length (rest k.owed) ≤ length reserved + length (encode_events 0 (events_of L (bs ++ more)))
out_bound L reserved bs more out k q =
    let es = q.events in
    let xs = later L k.reader more in
    let a : length (out ++ rest k.owed) ≡ length out + length (rest k.owed) = length-append out (rest k.owed) in
    let b : length (out ++ rest k.owed) ≡ length reserved + length (encode_events 0 es) = ap length q.bytes ∙ length-append reserved (encode_events 0 es) in
    let d : length (encode_events 0 (bytewise es)) ≡ length (encode_events 0 es) = ap length (bytewise_bytes 0 es) in
    let f = first_fewer (bytewise es) xs in
    let g : length (encode_events 0 (events_of L (bs ++ more))) ≡ length (encode_events 0 (bytewise es ++ xs)) =
    ap (λ (l : List Event). length (encode_events 0 l)) (events-later L bs more es k.reader q.follows) in
    omega arith

-- ---- at "full" there is more to come

-- a payload's next byte is an event's
payload_goes_on : (L : Limits) (n : ℕ) (s : State) (xs : List ℕ) → InPayload s → 0 < length xs → 1 ≤ length (encode_events n (later L s xs))
unfolding later walk_on walk onward step at_byte encode_events event_bytes
payload_goes_on L n (reading d (in_payload id r total o)) (x ∷ xs) i h = omega arith
payload_goes_on L n (reading d p) [] i h = absurd (omega arith)
payload_goes_on L n (reading d (in_header k v)) (x ∷ xs) i h = absurd i
payload_goes_on L n (reading d (in_unsigned id left k v)) (x ∷ xs) i h = absurd i
payload_goes_on L n (reading d (in_signed id left k v)) (x ∷ xs) i h = absurd i
payload_goes_on L n (reading d (in_word id k v)) (x ∷ xs) i h = absurd i
payload_goes_on L n (reading d (in_unsigned_count id k v)) (x ∷ xs) i h = absurd i
payload_goes_on L n (reading d (in_signed_count id k v)) (x ∷ xs) i h = absurd i
payload_goes_on L n (reading d (in_float_count id k v)) (x ∷ xs) i h = absurd i
payload_goes_on L n (reading d (in_array_word id c k v)) (x ∷ xs) i h = absurd i
payload_goes_on L n (reading d (in_float id w left k v)) (x ∷ xs) i h = absurd i
payload_goes_on L n (owing d id r) xs i h = absurd i
payload_goes_on L n broke xs i h = absurd i

-- A byte is owed, of the event or of the payload that c goes on with: what is out is less than the message's events come to.
pub wants_bound : (L : Limits) (reserved bs c more out : List ℕ) (k : Copy) → Keeps L reserved bs out k → Wants k c
    → length out < length reserved + length (encode_events 0 (events_of L (bs ++ (c ++ more))))
wants_bound L reserved bs c more out k q (inl h) = let b = out_bound L reserved bs (c ++ more) out k q in omega arith
wants_bound L reserved bs c more out k q (inr (o, i, h)) =
    let es = q.events in
    let xs = later L k.reader (c ++ more) in
    let a : length (out ++ rest k.owed) ≡ length out + length (rest k.owed) = length-append out (rest k.owed) in
    let b : length (out ++ rest k.owed) ≡ length reserved + length (encode_events 0 es) = ap length q.bytes ∙ length-append reserved (encode_events 0 es) in
    let d : length (encode_events 0 (bytewise es)) ≡ length (encode_events 0 es) = ap length (bytewise_bytes 0 es) in
    let n = length-append c more in
    let f = payload_goes_on L (due_after_all 0 (bytewise es)) k.reader (c ++ more) i (omega arith) in
    let e = ap length (encode-append 0 (bytewise es) xs) ∙ length-append (encode_events 0 (bytewise es)) (encode_events (due_after_all 0 (bytewise es)) xs) in
    let g : length (encode_events 0 (events_of L (bs ++ (c ++ more)))) ≡ length (encode_events 0 (bytewise es ++ xs)) =
    ap (λ (l : List Event). length (encode_events 0 l)) (events-later L bs (c ++ more) es k.reader q.follows) in
    omega arith
