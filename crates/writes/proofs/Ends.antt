-- Calling on ends: from any desk of a series, at any position of any buffer of one byte or more, some number of calls, with a drain or
-- another buffer at each "full", leaves no write to be made, and more turns change nothing.
use Prim.Native.Nat.{ℕ, zero, suc, ◌+◌, ◌-◌, ◌≤◌, ◌<◌}
use native.Mathlib.Nat.{not-suc-le-zero}
use native.Mathlib.Omega.{arith}
use mathlib.Core.Path.{◌≡◌, refl, sym, ap, ◌∙◌, subst}
use mathlib.Core.Bool.{Bool, true, false}
use mathlib.Core.List.{List, [], ◌∷◌, ◌++◌}
use mathlib.Core.Logic.{◌⊎◌, inl, inr}
use lib.ListN.{take, length, drop, length-append, length-drop}
use Rattle.layout.specs.Limits.{pick}
use Rattle.layout.specs.Message.{All}
use Rattle.putting.specs.Put.{put}
use Rattle.putting.proofs.Writes.{length-put}
use Rattle.ostream.specs.declared.OStream.{OStream}
use Rattle.std.specs.Prelude.{Ok}
use Rattle.ostream.specs.declared.Counted.{Counted}
use Rattle.ostream.specs.Stream.{at}
use Rattle.ostream.specs.Emission.{Judgement, accepted, refused_with}
use Rattle.ostream.proofs.Calls.{is_sound}
use Rattle.ostream.proofs.Buffers.{fits, change_taken}
use Rattle.writes.specs.Series.{Op, judgement, output_by, done_by, Steady, outputs, Desk, Act, write, drain, change, aside, other, sending, writing, act, acts, none, Allowed, Lawful, Plain, Frees, next, Ending, ended, unfinished, carried, Ends}
use Rattle.writes.specs.Exact.{AtFull, DrainedAtFull}
use Rattle.writes.proofs.Runs.{Placed, Fine, outputs-at, outputs_first, placed_in, kept_all, kept_part, kept_none, by_write, drained_desk, keeps}

-- Only an end is told as one: where the turns run out, none is.
pub carried-ended : (sink : Desk → Act) (n : ℕ) (d e : Desk) → carried sink n d ≡ ended e → e.ops ≡ []
unfolding carried
carried-ended sink zero d e q = absurd (never q)
  where
    never : unfinished ≡ ended e → ⊥
    never q = let z : ◌≡◌ {A = ℕ} 0 1 = cc in omega arith
carried-ended sink (suc n) d e q = go (carried-ended sink n (act (next sink d) d) e) d.ops refl q
  where
    same : {x y : Desk} → ended x ≡ ended y → x ≡ y
    same q = cc

    go : (carried sink n (act (next sink d) d) ≡ ended e → e.ops ≡ []) → (ops : List Op) → d.ops ≡ ops
        → elim (none ops) as (λ t. Ending) [ true ↦ ended d | false ↦ carried sink n (act (next sink d) d) ] ≡ ended e → e.ops ≡ []
    go ih [] f q = ap (λ (x : Desk). x.ops) (sym (same q)) ∙ f
    go ih (op ∷ ops) f q = ih q

-- ---- what is still to be done

abbrev to_do : Desk → ℕ
to_do d = length (drop d.place (outputs d.stream d.ops)) + length d.ops

record Ready (d : Desk) : Type 0 where
  fine : Fine d
  room : 1 ≤ length d.buf

-- a change that is taken
changed_desk : (d : Desk) (b : List ℕ) (o : ℕ) (drained : Bool) → Fine d → o < length b
    → act (change b o drained) d ≡ sending d (Ok d.stream.offset) (at d.stream o) b (take o b)
unfolding act
changed_desk d b o drained f h = ap (λ (r : Counted). sending d r.answer r.stream b (take o b)) (change_taken d.stream (length d.buf) (length b) o drained (fits (length b) o drained h) f.sound.0)

-- At "full" a byte is freed, and what is to be done stays.
record Freed (d x : Desk) : Type 0 where
  ready : Ready x
  same : to_do x ≡ to_do d
  free : x.stream.offset < length x.buf
  on : x.full ≡ false

freed_sending : (d : Desk) (b : List ℕ) (o : ℕ) (r : List ℕ) → Ready d → o < length b → Fine (sending d (Ok d.stream.offset) (at d.stream o) b r)
    → Freed d (sending d (Ok d.stream.offset) (at d.stream o) b r)
freed_sending d b o r q h f =
    record {
      ready = record { fine = f; room = omega arith };
      same = ap (λ (l : List ℕ). length (drop d.place l) + length d.ops) (outputs-at d.stream o d.ops q.fine.steady);
      free = h;
      on = refl;
    }

frees : (a : Act) (d : Desk) → Frees a → Ready d → Freed d (act a d)
unfolding Allowed
frees write d h r = absurd h
frees drain d h r = subst (λ (x : Desk). Fine x → Freed d x) (sym (drained_desk d r.fine)) (freed_sending d d.buf 0 [] r r.room) (keeps drain d r.fine tt).fine
frees (change b o drained) d h r =
    subst (λ (x : Desk). Fine x → Freed d x) (sym (changed_desk d b o drained r.fine h)) (freed_sending d b o (take o b) r h) (keeps (change b o drained) d r.fine tt).fine
frees (aside op place) d h r = absurd h
frees (other x) d h r = absurd h

-- A write leaves less to do, or it is full, and then it has put out as many bytes as there was room for.
abbrev Less : Desk → Desk → Type 0
Less d x = (to_do x < to_do d) ⊎ ((x.full ≡ true) × (to_do x + (length d.buf - d.stream.offset) ≤ to_do d))

module _ (d : Desk) (op : Op) (rest : List Op) (r : Ready d) (e : d.ops ≡ op ∷ rest) where
  abbrev f : Fine d
  f = r.fine

  abbrev s : OStream
  s = d.stream

  -- what is to be done, by what the tests say
  to_do_lem : (v : Judgement) → judgement op s ≡ v → d.place ≤ length (output_by v op s) → to_do d ≡ length (output_by v op s) - d.place + length (outputs (done_by v op s) rest) + suc (length rest)
  to_do_lem v a p =
      ap (λ (l : List ℕ). length (drop d.place l) + length d.ops) (outputs_first d op rest f e v a)
      ∙ ap (λ (l : List Op). length (drop d.place (output_by v op s ++ outputs (done_by v op s) rest)) + length l) e
      ∙ ap (λ (n : ℕ). n + suc (length rest)) (length-drop d.place (output_by v op s ++ outputs (done_by v op s) rest) ∙ ap (λ (n : ℕ). n - d.place) (length-append (output_by v op s) (outputs (done_by v op s) rest)) ∙ apart _ _ _ p)
    where
      apart : (x y z : ℕ) → z ≤ x → x + y - z ≡ x - z + y
      apart x y z h = omega arith

  steady : All Steady (op ∷ rest)
  steady = subst (All Steady) e f.steady

  written-room : length (put d.buf s.offset (drop d.place (op.output s))) ≡ length d.buf
  written-room = length-put d.buf s.offset _ (is_sound s (length d.buf) f.sound.0).inside

  write_ready : Ready (writing d (op ∷ rest)) × Less d (writing d (op ∷ rest))
  write_ready =
      by_write (λ (x : Desk). Ready x × Less d x) d op rest f e
      (λ a g.
      let p = placed_in d op rest f e a in (
        record { fine = (kept_all d op rest f e a g).fine; room = omega (arith, written-room, r.room) },
        inl (omega (arith, to_do_lem accepted a p, ap length (outputs-at (op.done s) (s.offset + (length (op.output s) - d.place)) rest steady.1))),
      ))
      (λ a g.
      let p = placed_in d op rest f e a in (
        record { fine = (kept_part d op rest f e a g).fine; room = omega (arith, written-room, r.room) },
        inr (
          refl,
          omega (
            arith,
            to_do_lem accepted a p,
            ap length e,
            length-drop (d.place + (length d.buf - s.offset)) (outputs (at s (length d.buf)) d.ops),
            ap length (outputs-at s (length d.buf) d.ops f.steady ∙ outputs_first d op rest f e accepted a),
            length-append (op.output s) (outputs (op.done s) rest),
          ),
        ),
      ))
      (λ x a.
      let k = kept_none d op rest f e x a in
      let p : d.place ≤ 0 = subst (λ (v : Judgement). d.place ≤ length (output_by v op s)) a (subst (λ (ops : List Op). Placed d.place s ops) e f.placed) in
      (record { fine = k.fine; room = r.room }, inl (omega (arith, to_do_lem (refused_with x) a p))))

-- ---- the end

module _ (sink : Desk → Act) (able : (d : Desk) → Frees (sink d)) where
  allowed_frees : (a : Act) (d : Desk) → Frees a → Allowed a d
  unfolding Allowed
  allowed_frees write d h = tt
  allowed_frees drain d h = tt
  allowed_frees (change b o drained) d h = tt
  allowed_frees (aside op place) d h = absurd h
  allowed_frees (other x) d h = absurd h

  allowed_next : (t : Bool) (d : Desk) → Allowed (pick t (sink d) write) d
  unfolding Allowed
  allowed_next true d = allowed_frees (sink d) d (able d)
  allowed_next false d = tt

  plain_next : ((d : Desk) → Plain (sink d)) → (t : Bool) (d : Desk) → Plain (pick t (sink d) write)
  plain_next h true d = h d
  plain_next h false d = tt

  full_next : ((x : Desk) → sink x ≡ drain) → (t : Bool) (d : Desk) → d.full ≡ t → AtFull (pick t (sink d) write) d
  full_next h true d e = subst (λ (a : Act). AtFull a d) (sym (h d)) e
  full_next h false d e = tt

  -- The end, with the acts that come to it: a schedule as any other.
  record Reaches (d : Desk) : Type 0 where
    made : List Act
    lawful : Lawful made d
    plain : ((x : Desk) → Plain (sink x)) → All Plain made
    at_full : ((x : Desk) → sink x ≡ drain) → DrainedAtFull made d
    count : ℕ
    ends : Ends sink count d (acts made d)

  here : (d : Desk) → d.ops ≡ [] → Reaches d
  unfolding acts Lawful carried DrainedAtFull
  here d e = record { made = []; lawful = tt; plain = λ h. tt; at_full = λ h. tt; count = 1; ends = record { enough = by_turn; no_more = e } }
    where
      by_turn : (m : ℕ) → 1 ≤ m → carried sink m d ≡ ended d
      by_turn zero h = absurd (not-suc-le-zero h)
      by_turn (suc m) h = ap (λ (ops : List Op). elim (none ops) as (λ t. Ending) [ true ↦ ended d | false ↦ carried sink m (act (next sink d) d) ]) e

  step : (d : Desk) (op : Op) (rest : List Op) → d.ops ≡ op ∷ rest → Reaches (act (next sink d) d) → Reaches d
  unfolding acts Lawful carried DrainedAtFull
  step d op rest e r =
      record {
        made = next sink d ∷ r.made;
        lawful = (allowed_next d.full d, r.lawful);
        plain = λ h. (plain_next h d.full d, r.plain h);
        at_full = λ h. (full_next h d.full d refl, r.at_full h);
        count = suc r.count;
        ends = record { enough = by_turn; no_more = r.ends.no_more };
      }
    where
      by_turn : (m : ℕ) → suc r.count ≤ m → carried sink m d ≡ ended (acts r.made (act (next sink d) d))
      by_turn zero h = absurd (not-suc-le-zero h)
      by_turn (suc m) h =
          ap (λ (ops : List Op). elim (none ops) as (λ t. Ending) [ true ↦ ended d | false ↦ carried sink m (act (next sink d) d) ]) e
          ∙ r.ends.enough m (omega arith)

  freeing_on : (d : Desk) (op : Op) (rest : List Op) → d.ops ≡ op ∷ rest → d.full ≡ true → Reaches (act (sink d) d) → Reaches d
  freeing_on d op rest e f r = step d op rest e (subst (λ (t : Bool). Reaches (act (pick t (sink d) write) d)) (sym f) r)

  writing_on : (d : Desk) (op : Op) (rest : List Op) → d.ops ≡ op ∷ rest → d.full ≡ false → Reaches (act write d) → Reaches d
  writing_on d op rest e f r = step d op rest e (subst (λ (t : Bool). Reaches (act (pick t (sink d) write) d)) (sym f) r)

  -- one write, and then as many turns as less to do takes
  module _ (n : ℕ) (less : (d : Desk) → Ready d → to_do d < n → Reaches d) where
    -- where a byte is free
    free_ends : (d : Desk) → Ready d → d.full ≡ false → d.stream.offset < length d.buf → to_do d ≤ n → Reaches d
    unfolding act
    free_ends d r g z h = go d.ops refl
      where
        go : (ops : List Op) → d.ops ≡ ops → Reaches d
        go [] e = here d e
        go (op ∷ rest) e =
            let w = write_ready d op rest r e in
            writing_on d op rest e g (subst (λ (ops : List Op). Reaches (writing d ops)) (sym e) (less (writing d (op ∷ rest)) w.0 (by_less (writing d (op ∷ rest)) w.1)))
          where
            by_less : (x : Desk) → Less d x → to_do x < n
            by_less x (inl l) = omega arith
            by_less x (inr (t, l)) = omega arith

    -- from a full one
    full_ends : (d : Desk) → Ready d → d.full ≡ true → to_do d ≤ n → Reaches d
    full_ends d r g h = go d.ops refl
      where
        go : (ops : List Op) → d.ops ≡ ops → Reaches d
        go [] e = here d e
        go (op ∷ rest) e =
            let q = frees (sink d) d (able d) r in
            freeing_on d op rest e g (free_ends (act (sink d) d) q.ready q.on q.free (omega (arith, q.same)))

    -- from anywhere
    any_ends : (d : Desk) → Ready d → to_do d ≤ n → Reaches d
    unfolding act
    any_ends d r h = by_full d.full refl
      where
        by_ops : (ops : List Op) → d.ops ≡ ops → d.full ≡ false → Reaches d
        by_ops [] e g = here d e
        by_ops (op ∷ rest) e g =
            let w = write_ready d op rest r e in
            writing_on d op rest e g (subst (λ (ops : List Op). Reaches (writing d ops)) (sym e) (by_less (writing d (op ∷ rest)) w.0 w.1))
          where
            by_less : (x : Desk) → Ready x → Less d x → Reaches x
            by_less x q (inl l) = less x q (omega arith)
            by_less x q (inr (t, l)) = full_ends x q t (omega arith)

        by_full : (t : Bool) → d.full ≡ t → Reaches d
        by_full true g = full_ends d r g h
        by_full false g = by_ops d.ops refl g

  reaches : (n : ℕ) (d : Desk) → Ready d → to_do d < n → Reaches d
  reaches zero d r h = absurd (not-suc-le-zero h)
  reaches (suc n) d r h = any_ends n (reaches n) d r (omega arith)

  -- From any desk, over a buffer of one byte or more, calling on ends, whatever buffers the sink lends.
  pub calling_ends : (d : Desk) → Fine d → 1 ≤ length d.buf
      → (n : ℕ) × (as' : List Act) × Lawful as' d × (((x : Desk) → Plain (sink x)) → All Plain as') × Ends sink n d (acts as' d)
  calling_ends d f h = let r = reaches (suc (to_do d)) d (record { fine = f; room = h }) (omega arith) in (r.count, r.made, r.lawful, r.plain, r.ends)

  -- With a sink that drains, its drains stand at "full" alone.
  pub drained-ends : ((x : Desk) → sink x ≡ drain) → (d : Desk) → Fine d → 1 ≤ length d.buf
      → (n : ℕ) × (as' : List Act) × Lawful as' d × DrainedAtFull as' d × Ends sink n d (acts as' d)
  drained-ends q d f h = let r = reaches (suc (to_do d)) d (record { fine = f; room = h }) (omega arith) in (r.count, r.made, r.lawful, r.at_full q, r.ends)
