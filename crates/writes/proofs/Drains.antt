-- How many drains a series costs: "A message of n bytes costs at most n drains, the last flush included unless it has no byte to send,
-- where every buffer lent has at least one byte and starts at offset 0".
use Prim.Native.Nat.{ℕ, suc, ◌+◌, ◌≤◌}
use native.Mathlib.Omega.{arith}
use mathlib.Core.Path.{◌≡◌, refl, sym, ap, ◌∙◌, subst}
use mathlib.Core.Bool.{Bool, true, false}
use mathlib.Core.List.{List, [], ◌∷◌, ◌++◌}
use lib.Dec.{ltb}
use borrow.Author.Tests.{ltb-true}
use lib.ListN.{length, take, drop, length-append}
use lib.Seq.{length-take-le}
use Rattle.layout.specs.Limits.{pick}
use Rattle.layout.specs.Message.{All}
use Rattle.putting.specs.Put.{put}
use Rattle.putting.proofs.Writes.{length-put}
use Rattle.std.specs.Prelude.{Ok}
use Rattle.ostream.specs.Stream.{at}
use Rattle.ostream.proofs.Calls.{is_sound}
use Rattle.writes.specs.Series.{Op, Desk, Act, write, drain, change, aside, other, beside, none, counts, sending, writing, act, acts, Allowed, Lawful, Plain}
use Rattle.writes.proofs.Runs.{whole, Fine, by_write, by_change, by_aside, by_other, drained_desk, keeps, kept, all_sent}

-- Counted so far: no more drains than bytes sent, and at "full" the buffer is written to its end.
pub record Lean (d : Desk) : Type 0 where
  pub room : 1 ≤ length d.buf
  pub start : d.reserved ≡ []
  pub few : d.drains ≤ length d.sent
  pub filled : d.full ≡ true → d.stream.offset ≡ length d.buf

-- a counted drain sends a byte at least
sends_one : (d : Desk) → Lean d → counts d ≡ true → 1 ≤ d.stream.offset
sends_one d l c = go d.full refl (none d.ops) refl (ltb 0 d.stream.offset) refl
  where
    go : (x : Bool) → d.full ≡ x → (y : Bool) → none d.ops ≡ y → (z : Bool) → ltb 0 d.stream.offset ≡ z → 1 ≤ d.stream.offset
    go true e y f z g = omega (arith, l.filled e, l.room)
    go false e y f true g = ltb-true 0 d.stream.offset g
    go false e true f false g = let w : false ≡ true = simp (e, f, g) at c in let v : ◌≡◌ {A = ℕ} 0 1 = cc in absurd (omega arith)
    go false e false f false g = let w : false ≡ true = simp (e, f, g) at c in let v : ◌≡◌ {A = ℕ} 0 1 = cc in absurd (omega arith)

lean_sending : (d : Desk) (b : List ℕ) → Fine d → Lean d → 1 ≤ length b → Lean (sending d (Ok d.stream.offset) (at d.stream 0) b [])
lean_sending d b f l h =
    let i : d.stream.offset ≤ length d.buf = (is_sound d.stream (length d.buf) f.sound.0).inside in
    let n : length (drop (length d.reserved) (take d.stream.offset d.buf)) ≡ d.stream.offset =
    ap (λ (r : List ℕ). length (drop (length r) (take d.stream.offset d.buf))) l.start ∙ length-take-le d.stream.offset d.buf i in
    let m : length (d.sent ++ drop (length d.reserved) (take d.stream.offset d.buf)) ≡ length d.sent + d.stream.offset = length-append d.sent _ ∙ ap (λ (x : ℕ). length d.sent + x) n in
    record { room = h; start = refl; few = go (counts d) refl m; filled = λ e. let w : ◌≡◌ {A = ℕ} 0 1 = cc in absurd (omega arith) }
  where
    go : (t : Bool) → counts d ≡ t → {n : ℕ} → n ≡ length d.sent + d.stream.offset → pick t (suc d.drains) d.drains ≤ n
    go true e q = omega (arith, sends_one d l e, l.few)
    go false e q = omega (arith, l.few)

lean_beside : (d : Desk) (numbers : List ℕ) → Lean d → Lean (beside d d.stream d.buf numbers)
lean_beside d numbers l = record { room = l.room; start = l.start; few = l.few; filled = l.filled }

lean_writing : (d : Desk) (ops : List Op) → Fine d → Lean d → d.ops ≡ ops → Lean (writing d ops)
unfolding writing
lean_writing d [] f l e = l
lean_writing d (op ∷ rest) f l e =
    let i : d.stream.offset ≤ length d.buf = (is_sound d.stream (length d.buf) f.sound.0).inside in
    let n : length (put d.buf d.stream.offset (drop d.place (op.output d.stream))) ≡ length d.buf = length-put d.buf d.stream.offset _ i in
    by_write Lean d op rest f e
    (λ a r. record { room = omega (arith, n, l.room); start = l.start; few = l.few; filled = λ x. let w : ◌≡◌ {A = ℕ} 0 1 = cc in absurd (omega arith) })
    (λ a r. record { room = omega (arith, n, l.room); start = l.start; few = l.few; filled = λ x. sym n })
    (λ x a. record { room = l.room; start = l.start; few = l.few; filled = λ x. let w : ◌≡◌ {A = ℕ} 0 1 = cc in absurd (omega arith) })

lean_change : (d : Desk) (b : List ℕ) (o : ℕ) → Fine d → Lean d → 1 ≤ length b → o ≡ 0 → Lean (sending d (Ok d.stream.offset) (at d.stream o) b (take o b))
lean_change d b o f l h z = subst (λ (o : ℕ). Lean (sending d (Ok d.stream.offset) (at d.stream o) b (take o b))) (sym z) (lean_sending d b f l h)

lean_act : (a : Act) (d : Desk) → Fine d → Lean d → Allowed a d → Plain a → Lean (act a d)
unfolding act
lean_act write d f l h p = lean_writing d d.ops f l refl
lean_act drain d f l h p = subst Lean (sym (drained_desk d f)) (lean_sending d d.buf f l l.room)
lean_act (change b o drained) d f l h p = by_change Lean d b o drained f (λ i. lean_change d b o f l p.0 p.1) (lean_beside d (5 ∷ []) l)
lean_act (aside op place) d f l h p = by_aside Lean d op place h (λ numbers. lean_beside d numbers l)
lean_act (other x) d f l h p = by_other Lean d x h (λ numbers. lean_beside d numbers l)

pub lean_acts : (as' : List Act) (d : Desk) → Fine d → Lean d → Lawful as' d → All Plain as' → Lean (acts as' d)
unfolding acts Lawful
lean_acts [] d f l h p = l
lean_acts (a ∷ as') d f l h p = lean_acts as' (act a d) (keeps a d f h.0).fine (lean_act a d f l h.0 p.0) h.1 p.1

-- "Drains that the caller adds to those at "full" and at the end aren't counted."
pub few_drains : (as' : List Act) (d : Desk) → Fine d → Lean d → Lawful as' d → All Plain as' → (acts as' d).ops ≡ [] → (act drain (acts as' d)).drains ≤ length (whole d)
unfolding Allowed
few_drains as' d f l h p e =
    let r = kept as' d f h in
    let m = lean_act drain (acts as' d) r.fine (lean_acts as' d f l h p) tt tt in
    subst (λ (x : List ℕ). (act drain (acts as' d)).drains ≤ length x) (all_sent as' d f h e) m.few
