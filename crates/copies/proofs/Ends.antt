-- Calling on ends: every schedule with enough feeds brings each chunk to its verdict, and from any acts feed and drain in turn do.
use Prim.Native.Nat.{ℕ, zero, suc, ◌+◌, ◌-◌, ◌*◌, ◌≤◌, ◌<◌}
use native.Mathlib.Omega.{arith}
use mathlib.Core.Path.{◌≡◌, refl, sym, ap, ◌∙◌, subst}
use mathlib.Core.Logic.{◌⊎◌, inl, inr}
use mathlib.Core.Bool.{Bool, true, false, ◌||◌}
use mathlib.Core.List.{List, [], ◌∷◌, ◌++◌, append-nil}
use lib.Dec.{leb, ltb}
use borrow.Author.Tests.{ltb-true, ltb-false, lt-ltb, le-ltb, leb-true, leb-false}
use lib.ListN.{length, take, length-take}
use Rattle.layout.specs.Limits.{base, pick}
use Rattle.layout.specs.Message.{All, Bytes, events_of}
use Rattle.laws.specs.Events.{encode_events}
use Rattle.machine.specs.Run.{join}
use Rattle.ostream.specs.Stream.{at, opened}
use Rattle.copier.specs.Calls.{bytes, Started, Sent, over, changed}
use Rattle.copies.specs.Desk.{Desk, opened_at, Act, feed, drain, change, stray, feeding, sending, act, acts, MayStand, Allowed}
use Rattle.copies.specs.Stands.{out, goes_on, goings, enough, turns}
use Rattle.copies.proofs.Sound.{drain_is, change_is, change_unfit, start_is}
use Rattle.copies.proofs.Runs.{Fine, out-length, inside, moves, fine_act, fine_acts, stray_is}
use Rattle.copies.proofs.Sent.{up_to, fine_start}

-- ---- what is left to do

-- a buffer that is full before the call says so takes one feed more
abbrev flag : Desk → ℕ
flag d = pick (d.full || ltb d.copier.writer.offset (length d.buf)) 0 1

-- n bytes are to be out at the end
abbrev to_do : ℕ → Desk → ℕ
to_do n d = 2 * length d.chunks + (2 * (n - length (out d)) + flag d)

light : (d : Desk) → flag d ≤ 1
light d = go (d.full || ltb d.copier.writer.offset (length d.buf))
  where
    go : (t : Bool) → pick t 0 1 ≤ 1
    go true = omega arith
    go false = omega arith

flag_full : (d : Desk) → d.full ≡ true → flag d ≡ 0
flag_full d e = simp e

flag_free : (d : Desk) → d.copier.writer.offset < length d.buf → flag d ≡ 0
flag_free d l = go d.full refl
  where
    go : (t : Bool) → d.full ≡ t → flag d ≡ 0
    go true e = simp e
    go false e = simp (e, lt-ltb _ _ l)

flag_spent : (d : Desk) → d.full ≡ false → length d.buf ≤ d.copier.writer.offset → flag d ≡ 1
flag_spent d e l = simp (e, le-ltb _ _ l)

-- ---- each act

module _ (reserved : List ℕ) (cs : List (List ℕ)) where
  abbrev total : ℕ
  total = length reserved + length (encode_events 0 (events_of base (join cs)))

  -- a feed where a chunk is left
  feed_falls : (d : Desk) (c : List ℕ) (later : List (List ℕ)) → Fine reserved cs d → d.chunks ≡ c ∷ later → goes_on feed d + to_do total (act feed d) ≤ to_do total d
  feed_falls d c later f e =
      let x = act feed d in
      let g : Fine reserved cs x = fine_act reserved cs feed d tt f in
      let m = moves reserved cs d c later f e in
      let n : length d.chunks ≡ suc (length later) = ap length e in
      by_kind x m.0 (up_to reserved cs x g.stands) n m.1 d.full refl
    where
      by_kind : (x : Desk) → length (out d) ≤ length (out x) → length (out x) ≤ total → length d.chunks ≡ suc (length later)
          → (x.chunks ≡ later) ⊎ ((length x.chunks ≡ suc (length later)) × (x.full ≡ true) × (length (out x) ≡ length d.sent + length d.buf))
          → (t : Bool) → d.full ≡ t → pick d.full 0 1 + to_do total x ≤ to_do total d
      by_kind x a u n (inl h) t q =
          let v : length x.chunks ≡ length later = ap length h in
          let w = light x in
          let y = one t in
          subst (λ (z : Bool). pick z 0 1 + to_do total x ≤ to_do total d) (sym q) (omega arith)
        where
          one : (t : Bool) → pick t 0 1 ≤ 1
          one true = omega arith
          one false = omega arith
      by_kind x a u n (inr (h, i, j)) true q =
          let v = flag_full x i in
          subst (λ (z : Bool). pick z 0 1 + to_do total x ≤ to_do total d) (sym q) (omega arith)
      by_kind x a u n (inr (h, i, j)) false q = subst (λ (z : Bool). pick z 0 1 + to_do total x ≤ to_do total d) (sym q) (go (ltb d.copier.writer.offset (length d.buf)) refl)
        where
          go : (t : Bool) → ltb d.copier.writer.offset (length d.buf) ≡ t → 1 + to_do total x ≤ to_do total d
          go true r =
              let v = flag_full x i in
              let l : d.copier.writer.offset < length d.buf = ltb-true d.copier.writer.offset (length d.buf) r in
              let o = out-length d.sent d.buf d.copier.writer.offset (inside d.copier (length d.buf) f.sound) in
              omega arith
          go false r =
              let v = flag_full x i in
              let l : flag d ≡ 1 = flag_spent d q (ltb-false d.copier.writer.offset (length d.buf) r) in
              omega arith

  sending_falls : (d : Desk) (b : List ℕ) → 1 ≤ length b → to_do total (sending d (bytes d.copier.writer.offset) (over d.copier (at d.copier.writer 0)) b) ≤ to_do total d
  sending_falls d b h =
      let x : Desk = sending d (bytes d.copier.writer.offset) (over d.copier (at d.copier.writer 0)) b in
      let o : length (out x) ≡ length (out d) = ap length (append-nil (out d)) in
      let v : flag x ≡ 0 = flag_free x h in
      omega arith

  drain_falls : (d : Desk) → Fine reserved cs d → to_do total (act drain d) ≤ to_do total d
  unfolding act
  drain_falls d f =
      subst (λ (r : Sent). to_do total (sending d r.sends r.copier d.buf) ≤ to_do total d) (sym (drain_is d.copier (length d.buf) f.sound.writer))
      (sending_falls d d.buf f.room)

  change_falls : (d : Desk) (b : List ℕ) → Fine reserved cs d → to_do total (act (change b) d) ≤ to_do total d
  unfolding act
  change_falls d b f = go (leb (length b) 0) refl
    where
      go : (t : Bool) → leb (length b) 0 ≡ t
          → to_do total (sending d (changed d.copier (length d.buf) (length b) 0).sends (changed d.copier (length d.buf) (length b) 0).copier b) ≤ to_do total d
      go true e =
          subst (λ (r : Sent). to_do total (sending d r.sends r.copier b) ≤ to_do total d) (sym (change_unfit d.copier (length d.buf) (length b) 0 (leb-true (length b) 0 e))) (omega arith)
      go false e =
          subst (λ (r : Sent). to_do total (sending d r.sends r.copier b) ≤ to_do total d)
          (sym (change_is d.copier (length d.buf) (length b) 0 f.sound.writer (leb-false (length b) 0 e)))
          (sending_falls d b (leb-false (length b) 0 e))

  falls : (a : Act) (d : Desk) (c : List ℕ) (later : List (List ℕ)) → MayStand a d → Fine reserved cs d → d.chunks ≡ c ∷ later → goes_on a d + to_do total (act a d) ≤ to_do total d
  falls feed d c later h f e = feed_falls d c later f e
  falls drain d c later h f e = omega (arith, drain_falls d f)
  falls (change b) d c later h f e = omega (arith, change_falls d b f)
  falls (stray x) d c later h f e = subst (λ (y : Desk). 0 + to_do total y ≤ to_do total d) (sym (stray_is x d h)) (omega arith)

  -- none left, none comes again
  none_left : (a : Act) (d : Desk) → MayStand a d → Fine reserved cs d → d.chunks ≡ [] → (act a d).chunks ≡ []
  unfolding act feeding
  none_left feed d h f e = ap (λ (l : List (List ℕ)). (feeding d l).chunks) e ∙ e
  none_left drain d h f e = ap (λ (r : Sent). (sending d r.sends r.copier d.buf).chunks) (drain_is d.copier (length d.buf) f.sound.writer) ∙ e
  none_left (change b) d h f e = go (leb (length b) 0) refl
    where
      go : (t : Bool) → leb (length b) 0 ≡ t
          → (sending d (changed d.copier (length d.buf) (length b) 0).sends (changed d.copier (length d.buf) (length b) 0).copier b).chunks ≡ []
      go true q = ap (λ (r : Sent). (sending d r.sends r.copier b).chunks) (change_unfit d.copier (length d.buf) (length b) 0 (leb-true (length b) 0 q)) ∙ e
      go false q =
          ap (λ (r : Sent). (sending d r.sends r.copier b).chunks) (change_is d.copier (length d.buf) (length b) 0 f.sound.writer (leb-false (length b) 0 q)) ∙ e
  none_left (stray x) d h f e = e

  stays_none : (as' : List Act) (d : Desk) → Allowed as' d → Fine reserved cs d → d.chunks ≡ [] → (acts as' d).chunks ≡ []
  unfolding acts
  stays_none [] d h f e = e
  stays_none (a ∷ as') d h f e = stays_none as' (act a d) h.1 (fine_act reserved cs a d h.0 f) (none_left a d h.0 f e)

  by_chunks : (P : Type 0) (d : Desk) → (d.chunks ≡ [] → P) → ((c : List ℕ) (later : List (List ℕ)) → d.chunks ≡ c ∷ later → P) → P
  by_chunks P d none some = go d.chunks refl
    where
      go : (l : List (List ℕ)) → d.chunks ≡ l → P
      go [] e = none e
      go (c ∷ later) e = some c later e

  ends_from : (as' : List Act) (d : Desk) → Allowed as' d → Fine reserved cs d → to_do total d ≤ goings as' d → (acts as' d).chunks ≡ []
  unfolding acts goings
  ends_from [] d h f l =
      by_chunks (d.chunks ≡ []) d (λ e. e) (λ c later e. let n : length d.chunks ≡ suc (length later) = ap length e in absurd (omega arith))
  ends_from (a ∷ as') d h f l =
      by_chunks ((acts as' (act a d)).chunks ≡ []) d (λ e. stays_none as' (act a d) h.1 (fine_act reserved cs a d h.0 f) (none_left a d h.0 f e))
      (λ c later e. ends_from as' (act a d) h.1 (fine_act reserved cs a d h.0 f) (omega (arith, falls a d c later h.0 f e)))

-- ---- from the start

start_to_do : (offset : ℕ) (b : List ℕ) (cs : List (List ℕ)) → offset < length b → to_do (total (take offset b) cs) (opened_at offset b cs) ≤ enough cs
unfolding opened
start_to_do offset b cs h =
    let d : Desk = opened_at offset b cs in
    let o : d.copier.writer.offset ≡ offset = ap (λ (r : Started). r.copier.writer.offset) (start_is (length b) offset h) in
    let v : flag d ≡ 0 = flag_free d (omega arith) in
    let n = length-take offset b in
    let m : length (out d) ≡ length (take offset b) = ap (λ (p : ℕ). length (take p b)) o in
    omega arith

-- Every schedule with so many feeds leaves no chunk without its verdict.
pub calling_ends : (offset : ℕ) (b : List ℕ) (cs : List (List ℕ)) (as' : List Act) → offset < length b → All Bytes cs → Allowed as' (opened_at offset b cs)
    → enough cs ≤ goings as' (opened_at offset b cs) → (acts as' (opened_at offset b cs)).chunks ≡ []
calling_ends offset b cs as' h a p n =
    ends_from (take offset b) cs as' (opened_at offset b cs) p (fine_start offset b cs h a) (omega (arith, start_to_do offset b cs h))

-- ---- schedules with so many feeds

pub acts-append : (xs ys : List Act) (d : Desk) → acts (xs ++ ys) d ≡ acts ys (acts xs d)
unfolding acts
acts-append [] ys d = refl
acts-append (x ∷ xs) ys d = acts-append xs ys (act x d)

pub allowed_append : (xs ys : List Act) (d : Desk) → Allowed xs d → Allowed ys (acts xs d) → Allowed (xs ++ ys) d
unfolding acts
allowed_append [] ys d h k = k
allowed_append (x ∷ xs) ys d h k = (h.0, allowed_append xs ys (act x d) h.1 k)

goings-append : (xs ys : List Act) (d : Desk) → goings (xs ++ ys) d ≡ goings xs d + goings ys (acts xs d)
unfolding acts goings
goings-append [] ys d = omega arith
goings-append (x ∷ xs) ys d = let e = goings-append xs ys (act x d) in omega arith

turns_allowed : (n : ℕ) (d : Desk) → Allowed (turns n) d
unfolding turns
turns_allowed zero d = tt
turns_allowed (suc n) d = (tt, (tt, turns_allowed n (act drain (act feed d))))

drained_not_full : (reserved : List ℕ) (cs : List (List ℕ)) (d : Desk) → Fine reserved cs d → (act drain d).full ≡ false
unfolding act
drained_not_full reserved cs d f = ap (λ (r : Sent). (sending d r.sends r.copier d.buf).full) (drain_is d.copier (length d.buf) f.sound.writer)

turns_go_on : (reserved : List ℕ) (cs : List (List ℕ)) (n : ℕ) (d : Desk) → Fine reserved cs d → d.full ≡ false → n ≤ goings (turns n) d
unfolding turns goings
turns_go_on reserved cs zero d f e = omega arith
turns_go_on reserved cs (suc n) d f e =
    let g : Fine reserved cs (act feed d) = fine_act reserved cs feed d tt f in
    let x : Desk = act drain (act feed d) in
    let i : n ≤ goings (turns n) x = turns_go_on reserved cs n x (fine_act reserved cs drain (act feed d) tt g) (drained_not_full reserved cs (act feed d) g) in
    let o : goes_on feed d ≡ 1 = ap (λ (t : Bool). pick t 0 1) e in
    omega arith

-- From any acts on, a drain and then feed and drain in turn, often enough, leave no chunk without its verdict.
pub can_end : (offset : ℕ) (b : List ℕ) (cs : List (List ℕ)) (as' : List Act) → offset < length b → All Bytes cs → Allowed as' (opened_at offset b cs)
    → (n : ℕ) → enough cs ≤ n → Allowed (as' ++ (drain ∷ turns n)) (opened_at offset b cs) × ((acts (as' ++ (drain ∷ turns n)) (opened_at offset b cs)).chunks ≡ [])
unfolding goings
can_end offset b cs as' h a p n l =
    let d : Desk = opened_at offset b cs in
    let f : Fine (take offset b) cs (acts as' d) = fine_acts (take offset b) cs as' d p (fine_start offset b cs h a) in
    let g : Fine (take offset b) cs (act drain (acts as' d)) = fine_act (take offset b) cs drain (acts as' d) tt f in
    let q : Allowed (as' ++ (drain ∷ turns n)) d = allowed_append as' (drain ∷ turns n) d p (tt, turns_allowed n (act drain (acts as' d))) in
    let i : n ≤ goings (turns n) (act drain (acts as' d)) = turns_go_on (take offset b) cs n (act drain (acts as' d)) g (drained_not_full (take offset b) cs (acts as' d) f) in
    let e = goings-append as' (drain ∷ turns n) d in
    (q, calling_ends offset b cs (as' ++ (drain ∷ turns n)) h a q (omega arith))
