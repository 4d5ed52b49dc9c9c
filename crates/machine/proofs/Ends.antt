-- Calling on ends: from any state, two calls a byte and two more bring a verdict or a refusal, and further calls change nothing.
use Prim.Native.Nat.{ℕ, zero, suc, ◌+◌, ◌-◌, ◌*◌, ◌<◌, ◌≤◌, min}
use native.Mathlib.Nat.{not-suc-le-zero}
use native.Mathlib.Omega.{arith}
use mathlib.Core.Path.{◌≡◌, refl, ap, ◌∙◌, subst}
use mathlib.Core.Bool.{Bool, true, false}
use mathlib.Core.List.{List, [], ◌∷◌}
use lib.ListN.{length, drop, length-drop}
use lib.Dec.{ltb}
use borrow.Author.Tests.{ltb-true, ltb-false}
use Rattle.layout.specs.Limits.{Limits, pick}
use Rattle.layout.specs.Field.{Raw}
use Rattle.layout.specs.Event.{Event}
use Rattle.machine.specs.Machine.{Phase, idle, in_header, in_unsigned, in_signed, in_word, in_unsigned_count, in_signed_count, in_float_count, in_array_word, in_float, in_payload}
use Rattle.machine.specs.Machine.{Stepped, on, bad, step}
use Rattle.machine.specs.Calls.{State, reading, owing, broke, Said, event, verdict, invalid, Called, piece, raised_state, scanned, scan, call}
use Rattle.machine.specs.Run.{Ending, ended, unfinished, Chunk, more, calls, chunk}

-- ---- one call

-- Events that a state can give though no byte is read: the one that is due, and an empty piece of a payload that is spent already. (No
-- reader stands in such a payload; the theorems below hold for any state.)
abbrev spent : Bool → ℕ
spent true = 0
spent false = 1

abbrev pub empty_at : Phase → ℕ
empty_at (in_header k v) = 0
empty_at (in_unsigned id left k v) = 0
empty_at (in_signed id left k v) = 0
empty_at (in_word id k v) = 0
empty_at (in_unsigned_count id k v) = 0
empty_at (in_signed_count id k v) = 0
empty_at (in_float_count id k v) = 0
empty_at (in_array_word id c k v) = 0
empty_at (in_float id w left k v) = 0
empty_at (in_payload id r total o) = spent (ltb o total)

abbrev pub empty_in : State → ℕ
empty_in (reading d p) = empty_at p
empty_in (owing d id r) = 1
empty_in broke = 0

at_most_one : (p : Phase) → empty_at p ≤ 1
at_most_one (in_header k v) = omega arith
at_most_one (in_unsigned id left k v) = omega arith
at_most_one (in_signed id left k v) = omega arith
at_most_one (in_word id k v) = omega arith
at_most_one (in_unsigned_count id k v) = omega arith
at_most_one (in_signed_count id k v) = omega arith
at_most_one (in_float_count id k v) = omega arith
at_most_one (in_array_word id c k v) = omega arith
at_most_one (in_float id w left k v) = omega arith
at_most_one (in_payload id r total o) = go (ltb o total)
  where
    go : (t : Bool) → spent t ≤ 1
    go true = omega arith
    go false = omega arith

pub one_empty : (s : State) → empty_in s ≤ 1
one_empty (reading d p) = at_most_one p
one_empty (owing d id r) = omega arith
one_empty broke = omega arith

-- An event brings the end of the chunk nearer; k bytes were read before it and m are left.
abbrev Nearer : Said → State → State → ℕ → ℕ → ℕ → Type 0
Nearer (event e) s s' k n m = 2 * (n + m - k) + empty_in s' < 2 * m + empty_in s
Nearer (verdict v) s s' k n m = Unit {0}
Nearer invalid s s' k n m = Unit {0}

-- n bytes of the chunk were read before, and m are left
record Advance (s : State) (n m : ℕ) (r : Called) : Type 0 where
  few : r.read ≤ n + m
  nearer : Nearer r.answer s r.state r.read n m

-- a byte that raised nothing, and what follows it
one_more : (a : Said) (d : ℕ) (p : Phase) (s s' : State) (k n m : ℕ) → Nearer a (reading d p) s' k (suc n) m → Nearer a s s' k n (suc m)
one_more (event e) d p s s' k n m h = omega (arith, at_most_one p)
one_more (verdict v) d p s s' k n m h = tt
one_more invalid d p s s' k n m h = tt

advance_byte : (s : State) (n m : ℕ) (q : Stepped) (f : ℕ → Phase → Called) → ((d : ℕ) (p : Phase) → Advance (reading d p) (suc n) m (f d p)) → Advance s n (suc m) (scanned (suc n) q f)
unfolding scanned
advance_byte s n m (on [] d p) f h =
    let i = h d p in
    record { few = omega (arith, i.few); nearer = one_more (f d p).answer d p s (f d p).state (f d p).read n m i.nearer }
advance_byte s n m (on (e ∷ es) d p) f h = record { few = omega arith; nearer = omega (arith, one_empty (raised_state d p es)) }
advance_byte s n m bad f h = record { few = omega arith; nearer = tt }

-- after a piece the payload is not spent, or done
none_after : (id : ℕ) (r : Raw) (total o : ℕ) → empty_at (pick (ltb o total) (in_payload id r total o) idle) ≡ 0
none_after id r total o = go (ltb o total) refl
  where
    go : (t : Bool) → ltb o total ≡ t → empty_at (pick t (in_payload id r total o) idle) ≡ 0
    go true e = ap spent e
    go false e = refl

advance_piece : (n d id : ℕ) (r : Raw) (total o m : ℕ) (bs : List ℕ) → Advance (reading d (in_payload id r total o)) n (suc m) (piece n d id r total o (min (total - o) (suc m)) bs)
advance_piece n d id r total o m bs =
    record { few = omega arith; nearer = go (ltb o total) refl (none_after id r total (o + min (total - o) (suc m))) }
  where
    go : (t : Bool) {x : ℕ} → ltb o total ≡ t → x ≡ 0 → 2 * (n + suc m - (n + min (total - o) (suc m))) + x < 2 * suc m + spent (ltb o total)
    go true e z = let w : spent (ltb o total) ≡ 0 = ap spent e in let l : o < total = ltb-true o total e in omega arith
    go false e z = let w : spent (ltb o total) ≡ 1 = ap spent e in let l : total ≤ o = ltb-false o total e in omega arith

advance_cons : (L : Limits) (n d : ℕ) (p : Phase) (b : ℕ) (bs : List ℕ) → ((d' : ℕ) (p' : Phase) → Advance (reading d' p') (suc n) (length bs) (scan L (suc n) d' p' bs))
    → Advance (reading d p) n (suc (length bs)) (scan L n d p (b ∷ bs))
unfolding scan
advance_cons L n d (in_header k v) b bs h = advance_byte _ n (length bs) (step L d (in_header k v) b) _ h
advance_cons L n d (in_unsigned id left k v) b bs h = advance_byte _ n (length bs) (step L d (in_unsigned id left k v) b) _ h
advance_cons L n d (in_signed id left k v) b bs h = advance_byte _ n (length bs) (step L d (in_signed id left k v) b) _ h
advance_cons L n d (in_word id k v) b bs h = advance_byte _ n (length bs) (step L d (in_word id k v) b) _ h
advance_cons L n d (in_unsigned_count id k v) b bs h = advance_byte _ n (length bs) (step L d (in_unsigned_count id k v) b) _ h
advance_cons L n d (in_signed_count id k v) b bs h = advance_byte _ n (length bs) (step L d (in_signed_count id k v) b) _ h
advance_cons L n d (in_float_count id k v) b bs h = advance_byte _ n (length bs) (step L d (in_float_count id k v) b) _ h
advance_cons L n d (in_array_word id c k v) b bs h = advance_byte _ n (length bs) (step L d (in_array_word id c k v) b) _ h
advance_cons L n d (in_float id w left k v) b bs h = advance_byte _ n (length bs) (step L d (in_float id w left k v) b) _ h
advance_cons L n d (in_payload id r total o) b bs h = advance_piece n d id r total o (length bs) (b ∷ bs)

advance_scan : (L : Limits) (n d : ℕ) (p : Phase) (bs : List ℕ) → Advance (reading d p) n (length bs) (scan L n d p bs)
unfolding scan
advance_scan L n d p [] = record { few = omega arith; nearer = tt }
advance_scan L n d p (b ∷ bs) = advance_cons L n d p b bs (λ d' p'. advance_scan L (suc n) d' p' bs)

advance_call : (L : Limits) (s : State) (c : List ℕ) → Advance s 0 (length c) (call L s c)
unfolding call
advance_call L (reading d p) c = advance_scan L 0 d p c
advance_call L (owing d id r) c = record { few = omega arith; nearer = omega arith }
advance_call L broke c = record { few = omega arith; nearer = tt }

-- the calls that are enough: more than this many
abbrev pub turns : State → List ℕ → ℕ
turns s c = 2 * length c + empty_in s

-- A call reads at most the chunk, and one that gives an event leaves fewer turns.
pub call_few : (L : Limits) (s : State) (c : List ℕ) → (call L s c).read ≤ length c
call_few L s c = omega (arith, (advance_call L s c).few)

pub call_nearer : (L : Limits) (s : State) (c : List ℕ) (e : Event) → (call L s c).answer ≡ event e → turns (call L s c).state (drop (call L s c).read c) < turns s c
call_nearer L s c e h =
    let i : 2 * (0 + length c - (call L s c).read) + empty_in (call L s c).state < 2 * length c + empty_in s =
    subst (λ (a : Said). Nearer a s (call L s c).state (call L s c).read 0 (length c)) h (advance_call L s c).nearer in
    let l : length (drop (call L s c).read c) ≡ length c - (call L s c).read = length-drop (call L s c).read c in
    omega arith

-- ---- a chunk

-- what a call's answer comes to, its event being followed by these calls
abbrev pub answered : Called → Chunk → Chunk
answered r q =
    elim r.answer [
      | event e ↦ more e r.read q
      | verdict v ↦ record { events = []; read = r.read; answer = ended (verdict v); state = r.state }
      | invalid ↦ record { events = []; read = r.read; answer = ended invalid; state = r.state }
    ]

-- a verdict or a refusal
abbrev pub Final : Ending Said → Type 0
Final (ended (event e)) = ⊥
Final (ended (verdict v)) = Unit {0}
Final (ended invalid) = Unit {0}
Final unfinished = ⊥

answered_final : (k : ℕ) (a : Said) (s : State) (q : Chunk) → ((e : Event) → a ≡ event e → Final q.answer) → Final (answered (record { read = k; answer = a; state = s }) q).answer
answered_final k (event e) s q h = h e refl
answered_final k (verdict v) s q h = tt
answered_final k invalid s q h = tt

-- more calls than `turns` are enough
calls_final : (L : Limits) (n : ℕ) (s : State) (c : List ℕ) → turns s c < n → Final (calls L n s c).answer
unfolding calls
calls_final L zero s c h = absurd (not-suc-le-zero h)
calls_final L (suc n) s c h =
    let r = call L s c in
    answered_final r.read r.answer r.state (calls L n r.state (drop r.read c))
    (λ e a. let l = call_nearer L s c e a in calls_final L n r.state (drop r.read c) (omega arith))

-- two ways to go on that agree where an event was given
answered_same : (k : ℕ) (a : Said) (s : State) (p q : Chunk) → Final (answered (record { read = k; answer = a; state = s }) p).answer → ((e : Event) → a ≡ event e → Final p.answer → p ≡ q)
    → answered (record { read = k; answer = a; state = s }) p ≡ answered (record { read = k; answer = a; state = s }) q
answered_same k (event e) s p q f h = ap (more e k) (h e refl f)
answered_same k (verdict v) s p q f h = refl
answered_same k invalid s p q f h = refl

-- calls that end, and any number that is enough
calls-ended : (L : Limits) (n m : ℕ) (s : State) (c : List ℕ) → Final (calls L n s c).answer → turns s c < m → calls L n s c ≡ calls L m s c
unfolding calls
calls-ended L zero m s c f h = absurd f
calls-ended L (suc n) zero s c f h = absurd (not-suc-le-zero h)
calls-ended L (suc n) (suc m) s c f h =
    let r = call L s c in
    answered_same r.read r.answer r.state (calls L n r.state (drop r.read c)) (calls L m r.state (drop r.read c)) f
    (λ e a f'. let l = call_nearer L s c e a in calls-ended L n m r.state (drop r.read c) f' (omega arith))

enough : (s : State) (c : List ℕ) → turns s c < 2 * length c + 2
enough s c = let o = one_empty s in omega arith

-- CALLING ON ENDS. From any state and on any chunk: `chunk`'s calls end with a verdict or a refusal; so does any larger number of calls;
-- and any calls that end so come to the same as `chunk`, so that further ones change nothing.
pub calling_ends : (L : Limits) (s : State) (c : List ℕ)
    → Final (chunk L s c).answer × ((k : ℕ) → Final (calls L (2 * length c + 2 + k) s c).answer) × ((n : ℕ) → Final (calls L n s c).answer → calls L n s c ≡ chunk L s c)
calling_ends L s c = (
  calls_final L (2 * length c + 2) s c (enough s c),
  λ k. (let o = enough s c in calls_final L (2 * length c + 2 + k) s c (omega arith)),
  λ n f. calls-ended L n (2 * length c + 2) s c f (enough s c),
)

-- A chunk's calls are a call and, where it gives an event, the calls on the rest of the chunk: no number of turns is left in it.
pub chunk_unfolds : (L : Limits) (s : State) (c : List ℕ) → chunk L s c ≡ answered (call L s c) (chunk L (call L s c).state (drop (call L s c).read c))
unfolding calls
chunk_unfolds L s c =
    let r = call L s c in
    let t : 2 * length c + 2 ≡ suc (2 * length c + 1) = omega arith in
    ap (λ (n : ℕ). calls L n s c) t
    ∙ answered_same r.read r.answer r.state (calls L (2 * length c + 1) r.state (drop r.read c)) (chunk L r.state (drop r.read c))
    (subst (λ (n : ℕ). Final (calls L n s c).answer) t (calls_final L (2 * length c + 2) s c (enough s c)))
    (λ e a f. calls-ended L (2 * length c + 1) (2 * length (drop r.read c) + 2) r.state (drop r.read c) f (enough r.state (drop r.read c)))
