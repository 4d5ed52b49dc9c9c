-- How many drains a run of the copier costs over one buffer, drained at "full" alone: each but the last sends the whole buffer, so that with
-- the last one they are the bytes sent divided by the buffer's, rounded up. And a byte is owed at "full", so that the last one has bytes to
-- send wherever there are any. Of every message, whatever its verdict; then of the complete ones.
use Prim.Native.Nat.{ℕ, zero, suc, ◌+◌, ◌*◌, ◌≤◌, ◌<◌}
use native.Mathlib.Nat.{zero-mul, suc-mul, not-suc-le-zero}
use native.Mathlib.Omega.{arith}
use mathlib.Core.Path.{◌≡◌, refl, sym, ap, ◌∙◌, subst}
use mathlib.Core.Bool.{Bool, true, false, ◌&&◌, ◌||◌}
use mathlib.Core.List.{List, [], ◌∷◌, ◌++◌, append-nil}
use lib.Dec.{ltb}
use borrow.Author.Tests.{ltb-true, ltb-false}
use lib.ListN.{length, take}
use Rattle.layout.specs.Limits.{base, pick}
use Rattle.layout.specs.Message.{All, Bytes, events_of}
use Rattle.layout.specs.Copy.{plain_copy}
use Rattle.laws.specs.Events.{encode_events}
use Rattle.machine.specs.Run.{join}
use Rattle.drains.specs.Drains.{rounded_up}
use Rattle.drains.proofs.Rounding.{rounded_parts}
use Rattle.ostream.specs.Stream.{at}
use Rattle.copier.specs.Calls.{bytes, Sent, over}
use Rattle.copies.specs.Desk.{Desk, start, Act, feed, drain, change, stray, none, counts, sending, feeding, act, acts, MayStand, Allowed}
use Rattle.copies.specs.Stands.{out, goes_on, goings, enough}
use Rattle.copies.specs.Demand.{Whole, Run}
use Rattle.copies.specs.Exact.{AtFull, DrainedAtFull, flushed, transfer, transfers, Costs, turn, plainly}
use Rattle.copies.proofs.Sound.{drain_is}
use Rattle.copies.proofs.Runs.{Fine, out-length, inside, same_size, less, feed_sends, fine_act, fine_acts, stray_is}
use Rattle.copies.proofs.Sent.{fine_start, all_bytes, at_the_end, all_sent}
use Rattle.copies.proofs.Ends.{calling_ends}
use Rattle.copies.proofs.Demand.{chunk_bytes, demand}

drained_desk : (reserved : List ℕ) (cs : List (List ℕ)) (d : Desk) → Fine reserved cs d
    → act drain d ≡ sending d (bytes d.copier.writer.offset) (over d.copier (at d.copier.writer 0)) d.buf
unfolding act
drained_desk reserved cs d f = ap (λ (r : Sent). sending d r.sends r.copier d.buf) (drain_is d.copier (length d.buf) f.sound.writer)

-- ---- so far

module _ (cs : List (List ℕ)) (size : ℕ) where
  -- the bytes of all that the chunks say
  abbrev all : List ℕ
  all = encode_events 0 (events_of base (join cs))

  -- Each drain was counted and sent the whole buffer; and where "full" was answered there is more to come.
  record Level (d : Desk) : Type 0 where
    long : length d.buf ≡ size
    even : length d.sent ≡ d.drains * size
    owes : d.full ≡ true → length (out d) < length all
    more : 1 ≤ d.drains → length d.sent < length all

  -- ---- a feed

  -- "full" where a chunk was handed on: a byte is owed
  fed_owes : (d : Desk) (c : List ℕ) (later : List (List ℕ)) → (f : Fine [] cs d) → d.chunks ≡ c ∷ later → (act feed d).full ≡ true → length (out (act feed d)) < length all
  unfolding join
  fed_owes d c later f e x =
      let (z, l) = less [] cs d c later f e (join later) x in
      let s = f.stands in
      let j : join cs ≡ s.read ++ (c ++ join later) =
      all_bytes [] cs d s ∙ ap (λ (u : List ℕ). (s.read ++ u) ++ join d.chunks) z ∙ ap (λ (u : List ℕ). u ++ join d.chunks) (append-nil s.read) ∙ ap (λ (l : List (List ℕ)). s.read ++ join l) e in
      let m = ap (λ (u : List ℕ). length (encode_events 0 (events_of base u))) j in
      omega (arith, l, m)

  level-feed : (d : Desk) → Fine [] cs d → Level d → Level (act feed d)
  unfolding act feeding
  level-feed d f l = by_chunks d.chunks refl
    where
      by_chunks : (x : List (List ℕ)) → d.chunks ≡ x → Level (feeding d d.chunks)
      by_chunks [] e = subst (λ (x : List (List ℕ)). Level (feeding d x)) (sym e) l
      by_chunks (c ∷ later) e =
          let k = feed_sends d in
          record {
            long = same_size [] cs d d.chunks f refl ∙ l.long;
            even = ap length k.0 ∙ l.even ∙ ap (λ (n : ℕ). n * size) (sym k.1);
            owes = fed_owes d c later f e;
            more = λ h. subst (λ (x : List ℕ). length x < length all) (sym k.0) (l.more (subst (λ (n : ℕ). 1 ≤ n) k.1 h));
          }

  -- ---- a drain

  -- one at "full" is counted
  at_full : (d : Desk) → d.full ≡ true → counts d ≡ true
  at_full d e = ap (λ (t : Bool). t || (none d.chunks && ltb 0 d.copier.writer.offset)) e

  level_drain : (d : Desk) → Fine [] cs d → Level d → d.full ≡ true → Level (act drain d)
  level_drain d f l e =
      subst Level (sym (drained_desk [] cs d f))
      (let k : ◌≡◌ {A = ℕ} (pick (counts d) 1 0) 1 = ap (λ (t : Bool). pick t 1 0) (at_full d e) in
      let m : length (out d) ≡ length d.sent + d.copier.writer.offset = out-length d.sent d.buf d.copier.writer.offset (inside d.copier (length d.buf) f.sound) in
      let n : pick (counts d) 1 0 + d.drains ≡ suc d.drains = omega (arith, k) in
      record {
        long = l.long;
        even = omega (arith, m, l.even, l.long, f.filled e, suc-mul d.drains size) ∙ ap (λ (n : ℕ). n * size) (sym n);
        owes = λ x. absurd cc;
        more = λ x. l.owes e;
      })

  -- ---- any acts

  level-act : (a : Act) (d : Desk) → MayStand a d → AtFull a d → Fine [] cs d → Level d → Level (act a d)
  level-act feed d h p f l = level-feed d f l
  level-act drain d h p f l = level_drain d f l p
  level-act (change b) d h p f l = absurd p
  level-act (stray x) d h p f l = subst Level (sym (stray_is x d h)) l

  level-acts : (as' : List Act) (d : Desk) → Allowed as' d → DrainedAtFull as' d → Fine [] cs d → Level d → Level (acts as' d)
  unfolding acts DrainedAtFull
  level-acts [] d h p f l = l
  level-acts (a ∷ as') d h p f l = level-acts as' (act a d) h.1 p.1 (fine_act [] cs a d h.0 f) (level-act a d h.0 p.0 f l)

  -- each drain made is counted
  act-counted : (a : Act) (d : Desk) → MayStand a d → AtFull a d → Fine [] cs d → (act a d).drains ≡ transfer a + d.drains
  act-counted feed d h p f = omega (arith, (feed_sends d).1)
  act-counted drain d h p f =
      ap (λ (x : Desk). x.drains) (drained_desk [] cs d f) ∙ ap (λ (t : Bool). pick t 1 0 + d.drains) (at_full d p)
  act-counted (change b) d h p f = absurd p
  act-counted (stray x) d h p f = omega (arith, ap (λ (x : Desk). x.drains) (stray_is x d h))

  acts-counted : (as' : List Act) (d : Desk) → Allowed as' d → DrainedAtFull as' d → Fine [] cs d → (acts as' d).drains ≡ transfers as' + d.drains
  unfolding acts DrainedAtFull transfers
  acts-counted [] d h p f = omega arith
  acts-counted (a ∷ as') d h p f =
      let e = acts-counted as' (act a d) h.1 p.1 (fine_act [] cs a d h.0 f) in
      omega (arith, e, act-counted a d h.0 p.0 f)

  -- ---- the end

  module _ (d : Desk) (f : Fine [] cs d) (l : Level d) (e : d.chunks ≡ []) where
    abbrev left : ℕ
    left = d.copier.writer.offset

    -- all is sent or in the buffer
    at_end : length all ≡ d.drains * size + left
    at_end =
        omega (arith, l.even, ap length (at_the_end [] cs d f.stands e).0, out-length d.sent d.buf left (inside d.copier (length d.buf) f.sound))

    remains : 1 ≤ length all → 1 ≤ left
    remains h = go (ltb 0 d.drains) refl
      where
        go : (t : Bool) → ltb 0 d.drains ≡ t → 1 ≤ left
        go true q = omega (arith, l.more (ltb-true 0 d.drains q), at_end, l.even)
        go false q = let z : d.drains ≡ 0 = omega (arith, ltb-false 0 d.drains q) in let y : d.drains * size ≡ 0 = ap (λ (n : ℕ). n * size) z ∙ zero-mul size in omega (arith, at_end)

    -- the drains so far, and one more if bytes remain
    rounded : 1 ≤ size → d.drains + pick (ltb 0 left) 1 0 ≡ rounded_up (length all) size
    rounded h = rounded_parts d.drains size left h (omega (arith, l.long, inside d.copier (length d.buf) f.sound)) ∙ ap (λ (n : ℕ). rounded_up n size) (sym at_end)

    flushed_drains : (flushed d).drains ≡ d.drains + pick (ltb 0 left) 1 0
    flushed_drains = go (ltb 0 left) refl
      where
        or_true : (t : Bool) → (t || true) ≡ true
        or_true true = refl
        or_true false = refl

        last : ltb 0 left ≡ true → counts d ≡ true
        last q = ap (λ (t : Bool). d.full || t) (ap (λ (l : List (List ℕ)). none l && ltb 0 left) e ∙ q) ∙ or_true d.full

        go : (t : Bool) → ltb 0 left ≡ t → (pick t (act drain d) d).drains ≡ d.drains + pick t 1 0
        go true q =
            let k : ◌≡◌ {A = ℕ} (pick (counts d) 1 0) 1 = ap (λ (t : Bool). pick t 1 0) (last q) in
            ap (λ (x : Desk). x.drains) (drained_desk [] cs d f) ∙ omega (arith, k)
        go false q = omega arith

    flushed-sent : (flushed d).sent ≡ (act drain d).sent
    flushed-sent = go (ltb 0 left) refl
      where
        go : (t : Bool) → ltb 0 left ≡ t → (pick t (act drain d) d).sent ≡ (act drain d).sent
        go true q = refl
        go false q =
            let z : left ≡ 0 = omega (arith, ltb-false 0 left q) in
            sym (append-nil d.sent) ∙ ap (λ (n : ℕ). d.sent ++ take n d.buf) (sym z)
            ∙ sym (ap (λ (x : Desk). x.sent) (drained_desk [] cs d f))

-- ---- from the start

start-level : (b : List ℕ) (cs : List (List ℕ)) → Level cs (length b) (start b cs)
start-level b cs = record { long = refl; even = sym (zero-mul (length b)); owes = λ x. absurd cc; more = λ x. absurd (not-suc-le-zero x) }

-- WHAT A RUN COSTS, of any bytes in any chunks, over every buffer of one byte or more.
pub drains_exactly : (b : List ℕ) (cs : List (List ℕ)) (as' : List Act) → 1 ≤ length b → All Bytes cs → Allowed as' (start b cs) → DrainedAtFull as' (start b cs)
    → (acts as' (start b cs)).chunks ≡ [] → Costs (encode_events 0 (events_of base (join cs))) b cs as'
drains_exactly b cs as' h a p q e =
    let d : Desk = acts as' (start b cs) in
    let f₀ : Fine [] cs (start b cs) = fine_start 0 b cs h a in
    let f : Fine [] cs d = fine_acts [] cs as' (start b cs) p f₀ in
    let l : Level cs (length b) d = level-acts cs (length b) as' (start b cs) p q f₀ (start-level b cs) in
    let r = rounded cs (length b) d f l e h in
    record {
      sent = flushed-sent cs (length b) d f l e ∙ all_sent 0 b cs as' h a p e;
      drains = flushed_drains cs (length b) d f l e ∙ r;
      transfers = omega (arith, r, acts-counted cs (length b) as' (start b cs) p q f₀);
      remain = remains cs (length b) d f l e;
    }

-- Of a complete message, by the length of its plain copy.
pub run_exactly : (T : List ℕ) → Whole T → (r : Run T) → DrainedAtFull r.schedule (start r.buf r.chunks) → Costs (plain_copy base T) r.buf r.chunks r.schedule
run_exactly T w r q =
    let a = chunk_bytes T r.chunks w.0 r.joins in
    subst (λ (M : List ℕ). Costs M r.buf r.chunks r.schedule) (sym (all_sent 0 r.buf r.chunks r.schedule r.room a r.allowed r.finished) ∙ demand.copies T w r)
    (drains_exactly r.buf r.chunks r.schedule r.room a r.allowed q r.finished)

-- ---- such runs exist

module _ (cs : List (List ℕ)) where
  plainly_allowed : (n : ℕ) (d : Desk) → Allowed (plainly n d) d
  unfolding plainly
  plainly_allowed zero d = tt
  plainly_allowed (suc n) d = (stands d.full, plainly_allowed n (act (turn d) d))
    where
      stands : (t : Bool) → MayStand (pick t drain feed) d
      stands true = tt
      stands false = tt

  plainly-at_full : (n : ℕ) (d : Desk) → DrainedAtFull (plainly n d) d
  unfolding plainly DrainedAtFull
  plainly-at_full zero d = tt
  plainly-at_full (suc n) d = (full d.full refl, plainly-at_full n (act (turn d) d))
    where
      full : (t : Bool) → d.full ≡ t → AtFull (pick t drain feed) d
      full true e = e
      full false e = tt

  -- every other act feeds, and each of these feeds goes on
  plainly_goes : (n : ℕ) (d : Desk) → Fine [] cs d → n ≤ 2 * goings (plainly n d) d + pick d.full 1 0
  unfolding plainly goings
  plainly_goes zero d f = omega arith
  plainly_goes (suc n) d f = go (λ x g. plainly_goes n x g) d.full refl
    where
      one : (t : Bool) → pick t 1 0 ≤ 1
      one true = omega arith
      one false = omega arith

      go : ((x : Desk) → Fine [] cs x → n ≤ 2 * goings (plainly n x) x + pick x.full 1 0) → (t : Bool) → d.full ≡ t
          → suc n ≤ 2 * (goes_on (pick t drain feed) d + goings (plainly n (act (pick t drain feed) d)) (act (pick t drain feed) d)) + pick t 1 0
      go ih true e =
          let x : Desk = act drain d in
          let k : ◌≡◌ {A = ℕ} (pick x.full 1 0) 0 = ap (λ (y : Desk). pick y.full 1 0) (drained_desk [] cs d f) in
          omega (arith, ih x (fine_act [] cs drain d tt f), k)
      go ih false e =
          let x : Desk = act feed d in
          let k : goes_on feed d ≡ 1 = ap (λ (t : Bool). pick t 0 1) e in
          omega (arith, ih x (fine_act [] cs feed d tt f), k, one x.full)

-- Drained whenever "full" was answered, and else the chunks handed on: often enough, and each chunk has its verdict.
pub exactly_ends : (b : List ℕ) (cs : List (List ℕ)) → 1 ≤ length b → All Bytes cs → (n : ℕ) → 2 * enough cs ≤ n
    → Allowed (plainly n (start b cs)) (start b cs) × DrainedAtFull (plainly n (start b cs)) (start b cs) × ((acts (plainly n (start b cs)) (start b cs)).chunks ≡ [])
exactly_ends b cs h a n l =
    let p = plainly_allowed cs n (start b cs) in
    let g : n ≤ 2 * goings (plainly n (start b cs)) (start b cs) + 0 = plainly_goes cs n (start b cs) (fine_start 0 b cs h a) in
    (p, plainly-at_full cs n (start b cs), calling_ends 0 b cs (plainly n (start b cs)) h a p (omega (arith, g)))
