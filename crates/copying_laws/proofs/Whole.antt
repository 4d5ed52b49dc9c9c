-- A whole message copied in one call: its plain copy stands in the buffer, the rest of which stays as it came; or, where it is too long, the
-- buffer is filled with its start.
use Prim.Native.Nat.{ℕ, ◌+◌, ◌<◌, ◌≤◌}
use native.Mathlib.Nat.{not-suc-le-zero}
use native.Mathlib.Omega.{arith}
use mathlib.Core.Path.{◌≡◌, refl, sym, ap, ◌∙◌, subst}
use mathlib.Core.Logic.{inl, inr}
use mathlib.Core.List.{List, [], ◌∷◌, ◌++◌, append_assoc, append-nil}
use lib.ListN.{length, take, drop, length-append, length-take, take-append-drop}
use lib.Seq.{take-length, take_all, take_at}
use Rattle.layout.specs.Limits.{Limits}
use Rattle.layout.specs.Event.{Event, bytewise}
use Rattle.layout.specs.Message.{complete, broken_at, verdict_of, events_of, Bytes}
use Rattle.layout.specs.Copy.{plain_copy}
use Rattle.laws.specs.Events.{event_bytes, due_after_all, encode_events}
use Rattle.laws.proofs.Copying.{encode-append, bytewise_bytes}
use Rattle.laws.proofs.Laws.{copy_of-events, copy_of_pieces}
use Rattle.machine.specs.Machine.{Phase, in_header, in_unsigned, in_signed, in_word, in_unsigned_count, in_signed_count, in_float_count, in_array_word, in_float, in_payload}
use Rattle.machine.specs.Machine.{step, at_byte, onward, walk, walk_on}
use Rattle.machine.specs.Calls.{State, reading, owing, broke, fresh, verdict_at}
use Rattle.machine.specs.Run.{Follows}
use Rattle.machine.proofs.Bridge.{events-walk}
use Rattle.machine.proofs.Prefix.{broken_stays}
use Rattle.machine.proofs.Calls.{fresh_follows}
use Rattle.machine.proofs.Runs.{verdict_at_lem, verdict_broken}
use Rattle.copying.specs.Owed.{Owed, nothing, rest}
use Rattle.copying.specs.Copy.{Copy, Said, full, verdict, invalid, unfinished, Copied, copy}
use Rattle.copying.specs.Run.{Keeps, InPayload, Wants, Kept, Final}
use Rattle.copying.proofs.Keeps.{copy_keeps}
use Rattle.copying_laws.proofs.Bound.{later, events-later}

-- a fresh copier, at the buffer's start
abbrev pub start : Copy
start = record { reader = fresh; depth = 0; pos = 0; owed = nothing }

start_keeps : (L : Limits) (b : List ℕ) → Keeps L [] [] ([] ++ take 0 b) start
unfolding rest encode_events
start_keeps L b = record { events = []; follows = fresh_follows L; bytes = refl }

-- ---- what is still to come of a message

-- the plain copy is what is out, what is owed, and what is to come
copy-later : (L : Limits) (bs xs out : List ℕ) (k : Copy) → Bytes (bs ++ xs) → verdict_of L (bs ++ xs) ≡ complete → (q : Keeps L [] bs out k)
    → plain_copy L (bs ++ xs) ≡ (out ++ rest k.owed) ++ encode_events (due_after_all 0 (bytewise q.events)) (later L k.reader xs)
copy-later L bs xs out k a v q =
    sym (copy_of-events L (bs ++ xs) a v) ∙ ap (encode_events 0) (events-later L bs xs q.events k.reader q.follows)
    ∙ encode-append 0 (bytewise q.events) (later L k.reader xs)
    ∙ ap (λ (l : List ℕ). l ++ encode_events (due_after_all 0 (bytewise q.events)) (later L k.reader xs)) (bytewise_bytes 0 q.events ∙ sym q.bytes)

-- a payload's byte is a byte of the copy
payload_byte : (L : Limits) (n : ℕ) (s : State) (xs : List ℕ) → InPayload s → 0 < length xs → 0 < length (encode_events n (later L s xs))
unfolding later walk_on walk onward step at_byte encode_events event_bytes
payload_byte L n (reading d p) [] i h = absurd (not-suc-le-zero h)
payload_byte L n (reading d (in_header k v)) (x ∷ xs) i h = absurd i
payload_byte L n (reading d (in_unsigned id left k v)) (x ∷ xs) i h = absurd i
payload_byte L n (reading d (in_signed id left k v)) (x ∷ xs) i h = absurd i
payload_byte L n (reading d (in_word id k v)) (x ∷ xs) i h = absurd i
payload_byte L n (reading d (in_unsigned_count id k v)) (x ∷ xs) i h = absurd i
payload_byte L n (reading d (in_signed_count id k v)) (x ∷ xs) i h = absurd i
payload_byte L n (reading d (in_float_count id k v)) (x ∷ xs) i h = absurd i
payload_byte L n (reading d (in_array_word id c k v)) (x ∷ xs) i h = absurd i
payload_byte L n (reading d (in_float id w left k v)) (x ∷ xs) i h = absurd i
payload_byte L n (reading d (in_payload id r total o)) (x ∷ xs) i h = omega arith
payload_byte L n (owing d id r) xs i h = absurd i
payload_byte L n broke xs i h = absurd i

-- where a byte is wanted, the copy goes on
wanted : (L : Limits) (n : ℕ) (k : Copy) (xs : List ℕ) → Wants k xs → 0 < length (rest k.owed) + length (encode_events n (later L k.reader xs))
wanted L n k xs (inl h) = omega arith
wanted L n k xs (inr h) = let l = payload_byte L n k.reader xs h.1 h.2 in omega arith

-- ---- the call

pub record Whole (M b : List ℕ) (r : Copied) : Type 0 where
  pub fits : length M ≤ length b → (r.answer ≡ verdict complete) × (r.copy.pos ≡ length M) × (r.buf ≡ M ++ drop (length M) b)
  pub short : length b < length M → (r.answer ≡ full) × (r.buf ≡ take (length b) M)

take_first : (x y : List ℕ) (n : ℕ) → n ≡ length x → take n (x ++ y) ≡ x
take_first x y n e = take_at x y n (sym e)

-- "full": the buffer holds the start of a longer copy
at_full : (L : Limits) (c b : List ℕ) (r : Copied) → Bytes c → verdict_of L c ≡ complete → Kept L [] [] [] start c b r → r.copy.pos ≡ length b → Wants r.copy (drop r.used c)
    → (length b < length (plain_copy L c)) × (r.buf ≡ take (length b) (plain_copy L c))
at_full L c b r a v h p w =
    let T = take r.used c ++ drop r.used c in
    let e : T ≡ c = take-append-drop r.used c in
    let q = h.keeps in
    let n = due_after_all 0 (bytewise q.events) in
    let out : take r.copy.pos r.buf ≡ r.buf = take_all r.copy.pos r.buf (omega (arith, h.size)) in
    let m : plain_copy L c ≡ (r.buf ++ rest r.copy.owed) ++ encode_events n (later L r.copy.reader (drop r.used c)) =
    ap (plain_copy L) (sym e) ∙ copy-later L (take r.used c) (drop r.used c) (take r.copy.pos r.buf) r.copy (subst Bytes (sym e) a) (ap (verdict_of L) e ∙ v) q
    ∙ ap (λ (l : List ℕ). (l ++ rest r.copy.owed) ++ encode_events n (later L r.copy.reader (drop r.used c))) out in
    let x = wanted L n r.copy (drop r.used c) w in
    let y = ap length m ∙ length-append (r.buf ++ rest r.copy.owed) (encode_events n (later L r.copy.reader (drop r.used c))) in
    let z = length-append r.buf (rest r.copy.owed) in
    let t : take (length b) (plain_copy L c) ≡ r.buf =
    ap (take (length b)) (m ∙ append_assoc r.buf (rest r.copy.owed) (encode_events n (later L r.copy.reader (drop r.used c))))
    ∙ take_first r.buf (rest r.copy.owed ++ encode_events n (later L r.copy.reader (drop r.used c))) (length b) (sym h.size) in
    (omega (arith, h.size), sym t)

-- the verdict: all of it is there
at_end : (L : Limits) (c b : List ℕ) (r : Copied) → Bytes c → verdict_of L c ≡ complete → Kept L [] [] [] start c b r → r.used ≡ length c → r.copy.owed ≡ nothing
    → (d : ℕ) (p : Phase) → r.copy.reader ≡ reading d p
    → (verdict_at d p ≡ complete) × (r.copy.pos ≡ length (plain_copy L c)) × (r.buf ≡ plain_copy L c ++ drop (length (plain_copy L c)) b)
unfolding rest
at_end L c b r a v h u o d p s =
    let q = h.keeps in
    let e : take r.used c ≡ c = ap (λ (n : ℕ). take n c) u ∙ take-length c in
    let f : Follows L c q.events (reading d p) =
    subst (λ (s : State). Follows L c q.events s) s (subst (λ (l : List ℕ). Follows L l q.events r.copy.reader) e q.follows) in
    let w : bytewise q.events ≡ events_of L c = sym (events-walk L c ∙ f.events ∙ append-nil (bytewise q.events)) in
    let out : take r.copy.pos r.buf ≡ plain_copy L c =
    sym (append-nil (take r.copy.pos r.buf)) ∙ ap (λ (x : Owed). take r.copy.pos r.buf ++ rest x) (sym o) ∙ q.bytes ∙ copy_of_pieces L c q.events a v w in
    let n : r.copy.pos ≡ length (plain_copy L c) = omega (arith, ap length out, length-take r.copy.pos r.buf, h.within, h.size) in (
      sym (verdict_at_lem L c d p f.spot) ∙ v,
      n,
      sym (take-append-drop r.copy.pos r.buf) ∙ ap (λ (l : List ℕ). l ++ drop r.copy.pos r.buf) out
          ∙ ap (λ (l : List ℕ). plain_copy L c ++ l) (h.beyond ∙ ap (λ (m : ℕ). drop m b) n),
    )

-- a complete message is not broken
not_broken : (L : Limits) (c : List ℕ) (n : ℕ) (es : List Event) → verdict_of L c ≡ complete → Follows L (take n c) es broke → ⊥
not_broken L c n es v f =
    let b = broken_stays L (take n c) (drop n c) (length (take n c)) (verdict_broken L (take n c) f.spot) in
    let e : complete ≡ broken_at (length (take n c)) = sym v ∙ ap (verdict_of L) (sym (take-append-drop n c)) ∙ b.0 in
    let w : ◌≡◌ {A = ℕ} 0 1 = cc in omega arith

-- A complete message in one call of a fresh copier, over any buffer.
pub copy-whole : (L : Limits) (c b : List ℕ) → Bytes c → verdict_of L c ≡ complete → Whole (plain_copy L c) b (copy L start c b)
copy-whole L c b a v = go (copy L start c b).answer refl h.final
  where
    h : Kept L [] [] [] start c b (copy L start c b)
    h = copy_keeps L [] [] [] start c b (start_keeps L b) (omega arith) tt

    go : (x : Said) → (copy L start c b).answer ≡ x → Final x (copy L start c b).copy (copy L start c b).used c (length b) → Whole (plain_copy L c) b (copy L start c b)
    go full e f = let q = at_full L c b (copy L start c b) a v h f.0 f.1 in record { fits = λ l. let s = q.0 in absurd (omega arith); short = λ l. (e, q.1) }
    go (verdict x) e (u, o, (d, p, s, i)) =
        let q = at_end L c b (copy L start c b) a v h u o d p s in
        record { fits = λ l. (e ∙ ap verdict (i ∙ q.0), q.1, q.2); short = λ l. absurd (omega (arith, q.1, h.within)) }
    go invalid e f = absurd (not_broken L c (copy L start c b).used h.keeps.events v (subst (λ (s : State). Follows L (take (copy L start c b).used c) h.keeps.events s) f.1 h.keeps.follows))
    go unfinished e f = absurd f
