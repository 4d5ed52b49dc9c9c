-- What each drain sends: "Opening at offset o leaves the buffer's first o bytes as they came; they go out with the first drain, after
-- which writing starts at 0."
use Prim.Native.Nat.{ℕ}
use mathlib.Core.Path.{◌≡◌, refl, sym, ap, ◌∙◌}
use mathlib.Core.Bool.{Bool, false}
use mathlib.Core.List.{List, [], ◌∷◌, ◌++◌, append_assoc, append-nil}
use lib.ListN.{length, take, drop, take-append-drop}
use lib.Seq.{take-take}
use Rattle.layout.specs.Message.{All}
use Rattle.ostream.specs.declared.Counted.{Counted}
use Rattle.ostream.specs.Buffer.{bad_buffer, sent}
use Rattle.writes.specs.Series.{Op, Desk, Act, write, drain, change, aside, other, sending, writing, act, acts, Allowed, Lawful, Stays, join}
use Rattle.ostream.proofs.Buffers.{change_taken}
use Rattle.writes.proofs.Runs.{Fine, by_write, by_aside, by_other, drained_desk, keeps, kept}

-- A drain sends the bytes below the position, and what follows it has none reserved.
pub sends : (d : Desk) → Fine d → ((act drain d).transfers ≡ d.transfers ++ (sent d.stream d.buf ∷ [])) × ((act drain d).reserved ≡ [])
sends d f = (ap (λ (x : Desk). x.transfers) (drained_desk d f), ap (λ (x : Desk). x.reserved) (drained_desk d f))

-- So does a change that is taken, and the buffer lent then has its first bytes reserved.
pub change_sends : (d : Desk) (b : List ℕ) (o : ℕ) (drained : Bool) → Fine d → (bad_buffer (length b) o drained).fails ≡ false
    → ((act (change b o drained) d).transfers ≡ d.transfers ++ (sent d.stream d.buf ∷ [])) × ((act (change b o drained) d).reserved ≡ take o b)
unfolding act
change_sends d b o drained f t =
    let e = change_taken d.stream (length d.buf) (length b) o drained t f.sound.0 in
    (ap (λ (r : Counted). (sending d r.answer r.stream b (take o b)).transfers) e, ap (λ (r : Counted). (sending d r.answer r.stream b (take o b)).reserved) e)

-- These are the reserved bytes as they came, and then the message's.
pub sends_reserved : (d : Desk) → Fine d → sent d.stream d.buf ≡ d.reserved ++ drop (length d.reserved) (sent d.stream d.buf)
sends_reserved d f =
    let x : List ℕ = take d.stream.offset d.buf in
    let n : ℕ = length d.reserved in
    sym (take-append-drop n x) ∙ ap (λ (l : List ℕ). l ++ drop n x) (take-take n d.stream.offset d.buf f.reserved ∙ f.as_came)

-- ---- over one buffer

-- the transfers so far: none, or a first one with the reserved bytes, and the others with message bytes alone
data Transferred (r : List ℕ) (d : Desk) : Type 0 where
  waiting : d.transfers ≡ [] → d.sent ≡ [] → d.reserved ≡ r → Transferred r d
  gone : (m : List ℕ) (ms : List (List ℕ)) → d.transfers ≡ (r ++ m) ∷ ms → d.sent ≡ m ++ join ms → d.reserved ≡ [] → Transferred r d

-- a desk whose transfers, and what they sent, are another's
same_transfers : (r : List ℕ) (d x : Desk) → x.transfers ≡ d.transfers → x.sent ≡ d.sent → x.reserved ≡ d.reserved → Transferred r d → Transferred r x
same_transfers r d x a b c (waiting t s v) = waiting (a ∙ t) (b ∙ s) (c ∙ v)
same_transfers r d x a b c (gone m ms t s v) = gone m ms (a ∙ t) (b ∙ s) (c ∙ v)

join_last : (xs : List (List ℕ)) (x : List ℕ) → join (xs ++ (x ∷ [])) ≡ join xs ++ x
unfolding join
join_last [] x = append-nil x
join_last (y ∷ ys) x = ap (λ (l : List ℕ). y ++ l) (join_last ys x) ∙ sym (append_assoc y (join ys) x)

drained : (r : List ℕ) (d : Desk) → Fine d → Transferred r d
    → (m : List ℕ) × (ms : List (List ℕ)) × ((act drain d).transfers ≡ (r ++ m) ∷ ms) × ((act drain d).sent ≡ m ++ join ms) × ((act drain d).reserved ≡ [])
unfolding join
drained r d f (waiting t s v) =
    let x : List ℕ = sent d.stream d.buf in
    let y : List ℕ = drop (length d.reserved) x in (
      y,
      [],
      (sends d f).0 ∙ ap (λ (l : List (List ℕ)). l ++ (x ∷ [])) t ∙ ap (λ (l : List ℕ). l ∷ []) (sends_reserved d f ∙ ap (λ (l : List ℕ). l ++ y) v),
      ap (λ (z : Desk). z.sent) (drained_desk d f) ∙ ap (λ (l : List ℕ). l ++ y) s ∙ sym (append-nil y),
      (sends d f).1,
    )
drained r d f (gone m ms t s v) =
    let x : List ℕ = sent d.stream d.buf in (
      m,
      ms ++ (x ∷ []),
      (sends d f).0 ∙ ap (λ (l : List (List ℕ)). l ++ (x ∷ [])) t,
      ap (λ (z : Desk). z.sent) (drained_desk d f) ∙ ap (λ (l : List ℕ). d.sent ++ drop (length l) x) v
          ∙ ap (λ (l : List ℕ). l ++ x) s ∙ append_assoc m (join ms) x ∙ ap (λ (l : List ℕ). m ++ l) (sym (join_last ms x)),
      (sends d f).1,
    )

writing-transfers : (r : List ℕ) (d : Desk) (ops : List Op) → Fine d → d.ops ≡ ops → Transferred r d → Transferred r (writing d ops)
unfolding writing
writing-transfers r d [] f e t = t
writing-transfers r d (op ∷ rest) f e t =
    by_write (Transferred r) d op rest f e (λ a g. same_transfers r d _ refl refl refl t) (λ a g. same_transfers r d _ refl refl refl t) (λ x a. same_transfers r d _ refl refl refl t)

transferred_act : (r : List ℕ) (a : Act) (d : Desk) → Fine d → Allowed a d → Stays a → Transferred r d → Transferred r (act a d)
unfolding act
transferred_act r write d f h s t = writing-transfers r d d.ops f refl t
transferred_act r drain d f h s t = let q = drained r d f t in gone q.0 q.1 q.2 q.3 q.4
transferred_act r (change b o drained) d f h s t = absurd s
transferred_act r (aside op place) d f h s t = by_aside (Transferred r) d op place h (λ numbers. same_transfers r d _ refl refl refl t)
transferred_act r (other x) d f h s t = by_other (Transferred r) d x h (λ numbers. same_transfers r d _ refl refl refl t)

transferred : (r : List ℕ) (as' : List Act) (d : Desk) → Fine d → Lawful as' d → All Stays as' → Transferred r d → Transferred r (acts as' d)
unfolding acts Lawful
transferred r [] d f h s t = t
transferred r (a ∷ as') d f h s t = transferred r as' (act a d) (keeps a d f h.0).fine h.1 s.1 (transferred_act r a d f h.0 s.0 t)

-- From a desk that has sent nothing: the first drain sends the reserved bytes as they came and then bytes of the message, and every later
-- one bytes of the message alone.
pub first_drain : (as' : List Act) (d : Desk) → Fine d → Lawful as' d → All Stays as' → d.transfers ≡ [] → d.sent ≡ []
    → (m : List ℕ) × (ms : List (List ℕ)) × ((act drain (acts as' d)).transfers ≡ (d.reserved ++ m) ∷ ms) × ((act drain (acts as' d)).sent ≡ m ++ join ms)
first_drain as' d f h s t e =
    let q = drained d.reserved (acts as' d) (kept as' d f h).fine (transferred d.reserved as' d f h s (waiting t e refl)) in
    (q.0, q.1, q.2, q.3)
