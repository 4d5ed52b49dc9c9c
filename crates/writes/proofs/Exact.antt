-- How many drains a series costs over one buffer, drained at "full" alone: each but the last sends the whole buffer, so that with the last
-- one they are the message's bytes divided by the buffer's, rounded up. And a byte is owed at "full", so that the last one has bytes to send
-- wherever the message has any.
use Prim.Native.Nat.{ℕ, suc, ◌+◌, ◌-◌, ◌*◌, ◌≤◌, ◌<◌}
use native.Mathlib.Nat.{zero-mul, suc-mul}
use native.Mathlib.Omega.{arith}
use mathlib.Core.Path.{◌≡◌, refl, sym, ap, ◌∙◌, subst}
use mathlib.Core.Bool.{Bool, true, false, ◌&&◌, ◌||◌}
use mathlib.Core.List.{List, [], ◌∷◌, ◌++◌, append-nil}
use lib.Dec.{ltb}
use borrow.Author.Tests.{ltb-true, ltb-false}
use lib.ListN.{length, take, drop, length-append, length-drop}
use lib.Seq.{length-take-le}
use Rattle.layout.specs.Limits.{pick}
use Rattle.putting.specs.Put.{put}
use Rattle.putting.proofs.Writes.{length-put}
use Rattle.drains.specs.Drains.{rounded_up}
use Rattle.drains.proofs.Rounding.{rounded_parts}
use Rattle.std.specs.Prelude.{Ok}
use Rattle.ostream.specs.Stream.{at}
use Rattle.ostream.specs.Emission.{accepted}
use Rattle.ostream.proofs.Calls.{is_sound}
use Rattle.writes.specs.Series.{Op, judgement, outputs, Desk, Act, write, drain, change, aside, other, beside, none, counts, sending, writing, act, acts, Allowed, Lawful}
use Rattle.writes.specs.Exact.{AtFull, DrainedAtFull, flushed}
use Rattle.writes.proofs.Runs.{whole, Fine, Placed, outputs_first, by_write, by_aside, by_other, drained_desk, keeps}

inside : (d : Desk) → Fine d → d.stream.offset ≤ length d.buf
inside d f = (is_sound d.stream (length d.buf) f.sound.0).inside

-- what is sent, what stands in the buffer and what is to come
whole_length : (d : Desk) → Fine d → d.reserved ≡ [] → length (whole d) ≡ length d.sent + d.stream.offset + length (drop d.place (outputs d.stream d.ops))
unfolding whole
whole_length d f r =
    let here : List ℕ = drop (length d.reserved) (take d.stream.offset d.buf) in
    let rest : List ℕ = drop d.place (outputs d.stream d.ops) in
    let n : length here ≡ d.stream.offset =
    ap (λ (r : List ℕ). length (drop (length r) (take d.stream.offset d.buf))) r ∙ length-take-le d.stream.offset d.buf (inside d f) in
    omega (arith, length-append d.sent (here ++ rest), length-append here rest, n)

-- So far, over a buffer of `size` bytes, `total` being all that the series comes to: each drain was counted and sent the whole buffer; and
-- where "full" was answered there is more to come.
pub record Level (size total : ℕ) (d : Desk) : Type 0 where
  pub long : length d.buf ≡ size
  pub start : d.reserved ≡ []
  pub even : length d.sent ≡ d.drains * size
  pub counted : length d.transfers ≡ d.drains
  pub filled : d.full ≡ true → d.stream.offset ≡ size
  pub owes : d.full ≡ true → length d.sent + d.stream.offset < total
  pub more : 1 ≤ d.drains → length d.sent < total

-- at "full" a byte is owed
owed : (d : Desk) (op : Op) (rest : List Op) (f : Fine d) (e : d.ops ≡ op ∷ rest) → d.reserved ≡ [] → judgement op d.stream ≡ accepted
    → length d.buf - d.stream.offset < length (op.output d.stream) - d.place → length d.sent + length d.buf < length (whole d)
owed d op rest f e r a g =
    let o : List ℕ = op.output d.stream in
    let later : List ℕ = outputs (op.done d.stream) rest in
    let n : length (drop d.place (outputs d.stream d.ops)) ≡ length o + length later - d.place =
    ap (λ (l : List ℕ). length (drop d.place l)) (outputs_first d op rest f e accepted a) ∙ length-drop d.place (o ++ later) ∙ ap (λ (m : ℕ). m - d.place) (length-append o later) in
    omega (arith, whole_length d f r, n, inside d f)

module _ (size total : ℕ) where
  level-writing : (d : Desk) (ops : List Op) → Fine d → Level size total d → length (whole d) ≡ total → d.ops ≡ ops → Level size total (writing d ops)
  unfolding writing
  level-writing d [] f l w e = l
  level-writing d (op ∷ rest) f l w e =
      let n : length (put d.buf d.stream.offset (drop d.place (op.output d.stream))) ≡ size = length-put d.buf d.stream.offset _ (inside d f) ∙ l.long in
      by_write (Level size total) d op rest f e
      (λ a r. record { long = n; start = l.start; even = l.even; counted = l.counted; filled = λ x. absurd (no x); owes = λ x. absurd (no x); more = l.more })
      (λ a r.
      record {
        long = n;
        start = l.start;
        even = l.even;
        counted = l.counted;
        filled = λ x. l.long;
        owes = λ x. subst (λ (m : ℕ). length d.sent + length d.buf < m) w (owed d op rest f e l.start a r);
        more = l.more;
      })
      (λ x a. record { long = l.long; start = l.start; even = l.even; counted = l.counted; filled = λ x. absurd (no x); owes = λ x. absurd (no x); more = l.more })
    where
      no : false ≡ true → ⊥
      no x = let w : ◌≡◌ {A = ℕ} 0 1 = cc in omega arith

  -- a drain that is counted
  count : (d : Desk) → d.full ≡ true → counts d ≡ true
  count d e = ap (λ (t : Bool). t || (none d.ops && ltb 0 d.stream.offset)) e

  -- what it sends
  sends : (d : Desk) → Fine d → Level size total d → length (d.sent ++ drop (length d.reserved) (take d.stream.offset d.buf)) ≡ length d.sent + d.stream.offset
  sends d f l =
      length-append d.sent _
      ∙ ap (λ (x : ℕ). length d.sent + x)
      (ap (λ (r : List ℕ). length (drop (length r) (take d.stream.offset d.buf))) l.start ∙ length-take-le d.stream.offset d.buf (inside d f))

  level-sending : (d : Desk) → Fine d → Level size total d → d.full ≡ true → Level size total (sending d (Ok d.stream.offset) (at d.stream 0) d.buf [])
  level-sending d f l e =
      let k : pick (counts d) (suc d.drains) d.drains ≡ suc d.drains = ap (λ (t : Bool). pick t (suc d.drains) d.drains) (count d e) in
      let m = sends d f l in
      record {
        long = l.long;
        start = refl;
        even = omega (arith, m, l.even, l.filled e, suc-mul d.drains size) ∙ ap (λ (n : ℕ). n * size) (sym k);
        counted = length-append d.transfers _ ∙ omega (arith, l.counted, k);
        filled = λ x. absurd (no x);
        owes = λ x. absurd (no x);
        more = λ x. omega (arith, m, l.owes e);
      }
    where
      no : false ≡ true → ⊥
      no x = let w : ◌≡◌ {A = ℕ} 0 1 = cc in omega arith

  level-beside : (d : Desk) (numbers : List ℕ) → Level size total d → Level size total (beside d d.stream d.buf numbers)
  level-beside d numbers l = record { long = l.long; start = l.start; even = l.even; counted = l.counted; filled = l.filled; owes = l.owes; more = l.more }

  level-act : (a : Act) (d : Desk) → Fine d → Level size total d → length (whole d) ≡ total → Allowed a d → AtFull a d → Level size total (act a d)
  unfolding act
  level-act write d f l w h p = level-writing d d.ops f l w refl
  level-act drain d f l w h p = subst (Level size total) (sym (drained_desk d f)) (level-sending d f l p)
  level-act (change b o drained) d f l w h p = absurd p
  level-act (aside op place) d f l w h p = by_aside (Level size total) d op place h (λ numbers. level-beside d numbers l)
  level-act (other x) d f l w h p = by_other (Level size total) d x h (λ numbers. level-beside d numbers l)

  pub level-acts : (as' : List Act) (d : Desk) → Fine d → Level size total d → length (whole d) ≡ total → Lawful as' d → DrainedAtFull as' d → Level size total (acts as' d)
  unfolding acts Lawful DrainedAtFull
  level-acts [] d f l w h p = l
  level-acts (a ∷ as') d f l w h p =
      let k = keeps a d f h.0 in
      level-acts as' (act a d) k.fine (level-act a d f l w h.0 p.0) (ap length k.same ∙ w) h.1 p.1

  -- ---- the end

  module _ (d : Desk) (f : Fine d) (l : Level size total d) (w : length (whole d) ≡ total) (e : d.ops ≡ []) where
    -- all is sent or in the buffer
    at_end : total ≡ d.drains * size + d.stream.offset
    unfolding outputs
    at_end =
        let z : d.place ≡ 0 = subst (λ (ops : List Op). Placed d.place d.stream ops) e f.placed in
        let n : length (drop d.place (outputs d.stream d.ops)) ≡ 0 = ap (λ (ops : List Op). length (drop d.place (outputs d.stream ops))) e ∙ ap (λ (p : ℕ). length (drop p (outputs d.stream []))) z in
        omega (arith, w, whole_length d f l.start, n, l.even)

    -- "if bytes remain": they do wherever the message has any
    pub remains : 1 ≤ total → 1 ≤ d.stream.offset
    remains h = go (ltb 0 d.drains) refl
      where
        go : (t : Bool) → ltb 0 d.drains ≡ t → 1 ≤ d.stream.offset
        go true q = omega (arith, l.more (ltb-true 0 d.drains q), at_end, l.even)
        go false q = let z : d.drains ≡ 0 = omega (arith, ltb-false 0 d.drains q) in let y : d.drains * size ≡ 0 = ap (λ (n : ℕ). n * size) z ∙ zero-mul size in omega (arith, at_end)

    last : ltb 0 d.stream.offset ≡ true → counts d ≡ true
    last q = ap (λ (t : Bool). d.full || t) (ap (λ (ops : List Op). none ops && ltb 0 d.stream.offset) e ∙ q) ∙ or_true d.full
      where
        or_true : (t : Bool) → (t || true) ≡ true
        or_true true = refl
        or_true false = refl

    -- the drains so far, and one more if bytes remain
    rounded : 1 ≤ size → d.drains + pick (ltb 0 d.stream.offset) 1 0 ≡ rounded_up total size
    rounded h = rounded_parts d.drains size d.stream.offset h (omega (arith, inside d f, l.long)) ∙ ap (λ (n : ℕ). rounded_up n size) (sym at_end)

    flushed_drains : (flushed d).drains ≡ d.drains + pick (ltb 0 d.stream.offset) 1 0
    flushed_drains = go (ltb 0 d.stream.offset) refl
      where
        go : (t : Bool) → ltb 0 d.stream.offset ≡ t → (pick t (act drain d) d).drains ≡ d.drains + pick t 1 0
        go true q = ap (λ (x : Desk). x.drains) (drained_desk d f) ∙ ap (λ (t : Bool). pick t (suc d.drains) d.drains) (last q) ∙ omega arith
        go false q = omega arith

    flushed-transfers : length (flushed d).transfers ≡ d.drains + pick (ltb 0 d.stream.offset) 1 0
    flushed-transfers = go (ltb 0 d.stream.offset) refl
      where
        go : (t : Bool) → ltb 0 d.stream.offset ≡ t → length (pick t (act drain d) d).transfers ≡ d.drains + pick t 1 0
        go true q = ap (λ (x : Desk). length x.transfers) (drained_desk d f) ∙ length-append d.transfers _ ∙ omega (arith, l.counted)
        go false q = omega (arith, l.counted)

    -- the transfers, the last one included, and the drains counted
    pub exactly : 1 ≤ size → (length (flushed d).transfers ≡ rounded_up total size) × ((flushed d).drains ≡ rounded_up total size)
    exactly h = (flushed-transfers ∙ rounded h, flushed_drains ∙ rounded h)

    -- all of it is sent
    pub flushed-sent : (act drain d).sent ≡ (flushed d).sent
    flushed-sent = go (ltb 0 d.stream.offset) refl
      where
        go : (t : Bool) → ltb 0 d.stream.offset ≡ t → (act drain d).sent ≡ (pick t (act drain d) d).sent
        go true q = refl
        go false q =
            let z : d.stream.offset ≡ 0 = omega (arith, ltb-false 0 d.stream.offset q) in
            ap (λ (x : Desk). x.sent) (drained_desk d f)
            ∙ ap (λ (r : List ℕ). d.sent ++ drop (length r) (take d.stream.offset d.buf)) l.start
            ∙ ap (λ (n : ℕ). d.sent ++ take n d.buf) z ∙ append-nil d.sent
