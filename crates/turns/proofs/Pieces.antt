-- A turn within a payload: its bytes go out as far as there is room, and the call goes on behind it, or stops at the buffer's end or the
-- chunk's.
use mathlib.Core.Path.{◌≡◌, refl, sym, ap, ◌∙◌, subst}
use mathlib.Core.Bool.{Bool, true, false}
use mathlib.Core.List.{List, [], ◌∷◌}
use Prim.Native.Nat.{ℕ, zero, suc, ◌+◌, ◌-◌, ◌<◌, ◌≤◌, min}
use native.Mathlib.Omega.{arith}
use lib.Dec.{ltb}
use lib.ListN.{length, take, drop, length-take, length-drop}
use lib.Seq.{take-take}
use borrow.Author.Tests.{ltb-true, ltb-false, lt-ltb, le-ltb}
use Rattle.std.specs.Prelude.{Ok}
use Rattle.layout.specs.Limits.{base, pick}
use Rattle.layout.specs.Event.{Piece}
use Rattle.layout.specs.Message.{incomplete}
use Rattle.machine.specs.Machine.{in_payload, verdict_after, ending}
use Rattle.machine.specs.Calls.{State, reading, Called, piece, scan, call}
use Rattle.machine.specs.Machine.{idle}
use Rattle.machine.specs.Run.{spot_of}
use Rattle.machine.proofs.Calls.{FairSpot}
use Rattle.types.specs.Types.{raw_sort}
use Rattle.types.specs.declared.RawType.{RawType}
use Rattle.varint.proofs.Laws.{sound-start}
use Rattle.istream.specs.declared.IStream.{IStream}
use Rattle.phase.specs.declared.Phase as code
use Rattle.phase.specs.declared.Phase.TheVariants as phases
use Rattle.call_end.specs.declared.Status.TheVariants.{Incomplete}
use Rattle.phase.specs.Phases.{phase_in, carried_at}
use Rattle.istream.specs.Stream.{state_of, stream_in}
use Rattle.phase.specs.Sound.{SoundState}
use Rattle.phase.proofs.Phases.{raw_back}
use Rattle.istream.proofs.Calls.{stream_back}
use Rattle.istream.proofs.Laws.{is_sound}
use Rattle.putting.specs.Put.{put, reached}
use Rattle.putting.proofs.Writes.{put-none, reached_is}
use Rattle.laws.specs.Events.{event_bytes}
use Rattle.copying.specs.Owed.{owes, depth_by, due_in}
use Rattle.copying.specs.Copy.{gone, handed, stuck, heard, copy}
use Rattle.copying.proofs.Turns.{copy-stuck, copy-turn, Heard, turn-heard, handed_is}
use Rattle.owed.specs.declared.Owed.TheVariants.{Nothing}
use Rattle.turns.specs.declared.Stop.{Stop}
use Rattle.turns.specs.declared.Turn.TheVariants as turns
use Rattle.turns.specs.declared.Answer.TheVariants.{Full, Status}
use Rattle.turns.specs.Said.{Said}
use Rattle.turns.specs.Turns.{standing, ended_in, Went, Turned, past_piece, cut_off, pause, InPayload, later}
use Rattle.turns.proofs.Events.{fair}
use Rattle.turns.proofs.Turns.{goes_out, ended-later}

is_payload : (s : IStream) (id : ℕ) (r : RawType) (total o : ℕ) → s.phase ≡ phases.Payload id r total o → s ≡ record { phase = phases.Payload id r total o; carried = s.carried }
is_payload s id r total o e = ap (λ (p : code.Phase). record { phase = p; carried = s.carried }) e

take_none : (n : ℕ) → take {A = ℕ} n [] ≡ []
take_none zero = refl
take_none (suc n) = refl

module _ (d id : ℕ) (r : RawType) (total o pos : ℕ) (b : List ℕ) where
  abbrev at : IStream
  at = record { phase = phases.Payload id r total o; carried = carried_at d }

  abbrev stands : State
  stands = reading d (in_payload id (raw_sort r) total o)

  -- "an empty chunk"
  no_bytes : o < total → Turned at pos [] b (turns.Stop (pause d 0 (Ok (Status Incomplete)) at pos)) b
  unfolding stuck heard call scan verdict_after ending
  no_bytes f =
      let k = standing at pos in
      let room = length b - pos in
      let i : handed stands room [] ≡ [] = handed_is d (in_payload id (raw_sort r) total o) room [] ∙ take_none room in
      let q = subst (λ (x : List ℕ). copy base k [] b ≡ heard k [] b (call base stands x) (λ e. copy base (gone k (call base stands x).state (owes (due_in stands) e 0)) (drop (call base stands x).read []) b)) i (copy-turn base k [] b f refl refl) in
      (ap ended_in q ∙ ap (λ (x : IStream). record { used = 0; said = Said.verdict incomplete; reader = x; depth = d; pos = pos; owed = Nothing; place = 0; buf = b }) (stream_back d (phases.Payload id r total o) tt), omega arith, refl)

  no_room : (x : ℕ) (xs : List ℕ) → length b - pos ≡ 0 → Turned at pos (x ∷ xs) b (turns.Stop (pause d 0 (Ok Full) at pos)) b
  unfolding stuck
  no_room x xs z =
      let e : stuck stands (length b - pos) (x ∷ xs) ≡ true = ap (λ (m : ℕ). stuck stands m (x ∷ xs)) z in
      (ap ended_in (copy-stuck base (standing at pos) (x ∷ xs) b refl e) ∙ ap (λ (y : IStream). record { used = 0; said = Said.full; reader = y; depth = d; pos = pos; owed = Nothing; place = 0; buf = b }) (stream_back d (phases.Payload id r total o) tt), omega arith, refl)

  -- as many bytes as there is room for
  module _ (x : ℕ) (xs : List ℕ) (m : ℕ) (e : length b - pos ≡ suc m) (s : SoundState base stands) where
    part : ℕ
    part = min (total - o) (length (take (suc m) (x ∷ xs)))

    abbrev next : State
    next = reading d (pick (ltb (o + part) total) (in_payload id (raw_sort r) total (o + part)) idle)

    gives : call base stands (handed stands (length b - pos) (x ∷ xs)) ≡ piece 0 d id (raw_sort r) total o part (take (suc m) (x ∷ xs))
    unfolding call scan part
    gives = ap (call base stands) (handed_is d (in_payload id (raw_sort r) total o) (length b - pos) (x ∷ xs) ∙ ap (λ (n : ℕ). take n (x ∷ xs)) e)

    free : stuck stands (length b - pos) (x ∷ xs) ≡ false
    unfolding stuck
    free = ap (λ (n : ℕ). stuck stands n (x ∷ xs)) e

    sound-next : SoundState base next
    sound-next = go (ltb (o + part) total) refl
      where
        go : (t : Bool) → ltb (o + part) total ≡ t → SoundState base (reading d (pick t (in_payload id (raw_sort r) total (o + part)) idle))
        go true q = (s.0, (s.1.0, (s.1.1.0, ltb-true _ _ q)))
        go false q = (s.0, sound-start base)

    least : length (take (suc m) (x ∷ xs)) ≤ suc m → part ≤ suc m
    unfolding part
    least l = omega arith

    part_is : (k n : ℕ) → k ≡ min (length (x ∷ xs)) (length b - pos) → n ≡ min k (total - o) → part ≡ n
    unfolding part
    part_is k n p q = let l = length-take (suc m) (x ∷ xs) in omega arith

    some_go : Went at pos (x ∷ xs) b (stream_in next) part (reached b pos (take part (x ∷ xs))) (put b pos (take part (x ∷ xs)))
    unfolding heard depth_by event_bytes
    some_go =
        let c = x ∷ xs in
        let k = standing at pos in
        let f : FairSpot (spot_of stands) = fair stands s in
        let ev = Piece id (raw_sort r) total o (take part (take (suc m) c)) in
        let q = subst (λ (y : Called). copy base k c b ≡ heard k c b y (λ e. copy base (gone k y.state (owes (due_in stands) e 0)) (drop y.read c) b)) gives (copy-turn base k c b f refl free) in
        let hd = subst (λ (y : Called). Heard base stands c y) gives (turn-heard base stands (length b - pos) c f free) in
        let l : length (take (suc m) c) ≤ suc m = short c in
        let p : part ≤ suc m = least l in
        let z : 0 + part ≡ part = omega arith in
        let w : take part (take (suc m) c) ≡ take (0 + part) c = take-take part (suc m) c p ∙ ap (λ (n : ℕ). take n c) (sym z) in
        let v = goes_out at pos c b (0 + part) ev next (take (0 + part) c) w (fits c p z) q hd.few hd.closes refl tt sound-next in
        subst (λ (n : ℕ). Went at pos c b (stream_in next) n (reached b pos (take n c)) (put b pos (take n c))) z v
      where
        short : (c : List ℕ) → length (take (suc m) c) ≤ suc m
        short c = omega (arith, length-take (suc m) c)

        fits : (c : List ℕ) → part ≤ suc m → 0 + part ≡ part → length (take (0 + part) c) ≤ length b - pos
        fits c p z = omega (arith, length-take (0 + part) c, e)

-- the phase after a piece: within the payload, or past it
pub past_on : (id : ℕ) (r : RawType) (total o n : ℕ) → o + n < total → phases.Payload id r total (o + n) ≡ past_piece id r total o n
past_on id r total o n h =
    ap (λ (x : RawType). phases.Payload id x total (o + n)) (sym (raw_back r)) ∙ sym (ap (λ (t : Bool). phase_in (pick t (in_payload id (raw_sort r) total (o + n)) idle)) (lt-ltb (o + n) total h))

pub past_end : (id : ℕ) (r : RawType) (total o n : ℕ) (p : code.Phase) → p ≡ phase_in idle → total ≤ o + n → p ≡ past_piece id r total o n
past_end id r total o n p e h = e ∙ sym (ap (λ (t : Bool). phase_in (pick t (in_payload id (raw_sort r) total (o + n)) idle)) (le-ltb (o + n) total h))

-- an empty chunk, and a full buffer
piece-none : (s : IStream) (id : ℕ) (r : RawType) (total o pos : ℕ) (b : List ℕ) → InPayload s id r total o → Turned s pos [] b (turns.Stop (pause s.carried.depth 0 (Ok (Status Incomplete)) s pos)) b
piece-none s id r total o pos b (t, u) =
    let i = is_payload s id r total o u in
    let st = subst (λ (x : IStream). SoundState base (state_of x)) i (is_sound base s t) in
    subst (λ (x : IStream). Turned x pos [] b (turns.Stop (pause s.carried.depth 0 (Ok (Status Incomplete)) x pos)) b) (sym i) (no_bytes s.carried.depth id r total o pos b st.1.1.1)

piece_full : (s : IStream) (id : ℕ) (r : RawType) (total o pos x : ℕ) (xs b : List ℕ) → InPayload s id r total o → length b - pos ≡ 0 → Turned s pos (x ∷ xs) b (turns.Stop (pause s.carried.depth 0 (Ok Full) s pos)) b
piece_full s id r total o pos x xs b (t, u) z =
    subst (λ (y : IStream). Turned y pos (x ∷ xs) b (turns.Stop (pause s.carried.depth 0 (Ok Full) y pos)) b) (sym (is_payload s id r total o u)) (no_room s.carried.depth id r total o pos b x xs z)

-- a payload's bytes are below its total, which has room in 32 bits
pub piece_small : (s : IStream) (id : ℕ) (r : RawType) (total o : ℕ) → InPayload s id r total o → (o < total) × (total ≤ 2147483647)
piece_small s id r total o (t, u) =
    let st = subst (λ (x : IStream). SoundState base (state_of x)) (is_payload s id r total o u) (is_sound base s t) in
    (st.1.1.1, st.1.1.0)

-- some bytes go out
piece_goes : (s : IStream) (id : ℕ) (r : RawType) (total o pos : ℕ) (c b : List ℕ) → InPayload s id r total o → (k n : ℕ) → k ≡ min (length c) (length b - pos) → n ≡ min k (total - o) → 0 < n
    → (p : code.Phase) → p ≡ past_piece id r total o n → Went s pos c b (record { phase = p; carried = s.carried }) n (reached b pos (take n c)) (put b pos (take n c))
piece_goes s id r total o pos [] b p k m w f i q g = absurd (omega arith)
piece_goes s id r total o pos (x ∷ xs) b (t, u) k m w f i q g = go (length b - pos) refl
  where
    same : s ≡ record { phase = phases.Payload id r total o; carried = s.carried }
    same = is_payload s id r total o u

    Goes : IStream → code.Phase → ℕ → Type 0
    Goes y v j = Went y pos (x ∷ xs) b (record { phase = v; carried = s.carried }) j (reached b pos (take j (x ∷ xs))) (put b pos (take j (x ∷ xs)))

    go : (j : ℕ) → length b - pos ≡ j → Goes s q m
    go zero e = absurd (omega arith)
    go (suc j) e =
        let y : IStream = record { phase = phases.Payload id r total o; carried = s.carried } in
        let st = subst (λ (x : IStream). SoundState base (state_of x)) same (is_sound base s t) in
        let v = some_go s.carried.depth id r total o pos b x xs j e st in
        let a = part_is s.carried.depth id r total o pos b x xs j e st k m w f in
        subst (λ (v : code.Phase). Goes s v m) (sym g)
        (subst (λ (y : IStream). Goes y (past_piece id r total o m) m) (sym same) (subst (λ (l : ℕ). Goes y (past_piece id r total o l) l) a v))

-- no byte of the chunk is left, or no room: the call stops
rests : (s : IStream) (id : ℕ) (r : RawType) (total o pos : ℕ) (c b : List ℕ) → InPayload s id r total o → (0 < length c → length b - pos ≡ 0)
    → Turned s pos c b (turns.Stop (pause s.carried.depth 0 (Ok (cut_off 0 (length c))) s pos)) b
rests s id r total o pos [] b p f = piece-none s id r total o pos b p
rests s id r total o pos (x ∷ xs) b p f =
    subst (λ (t : Bool). Turned s pos (x ∷ xs) b (turns.Stop (pause s.carried.depth 0 (Ok (pick t Full (Status Incomplete))) s pos)) b) (sym (lt-ltb 0 (suc (length xs)) (omega arith)))
    (piece_full s id r total o pos x xs b p (f (omega arith)))

-- a turn, and a stop at the next: one stop
went_stops : (s : IStream) (pos : ℕ) (c b : List ℕ) (s' : IStream) (n pos' : ℕ) (b' : List ℕ) (t : Stop) (b'' : List ℕ) → Went s pos c b s' n pos' b' → Turned s' pos' (drop n c) b' (turns.Stop t) b''
    → Turned s pos c b (turns.Stop (later n t)) b''
went_stops s pos c b s' n pos' b' t b'' w (q, u, v) =
    let l = length-drop n c in
    let k = w.few in
    (ended-later n _ _ t b'' w.same q, omega arith, v ∙ w.size)

-- ---- numbers

lesser : (n k x : ℕ) → n ≡ min k x → n < x → n ≡ k
lesser n k x e h = omega arith

-- where a payload goes on beyond what was taken of it, and the chunk too, there was no more room
no_more : (room lc k n owed : ℕ) → k ≡ min lc room → n ≡ min k owed → n < owed → n < lc → n ≡ room
no_more room lc k n owed e f h l =
    let a : n ≡ k = lesser n k owed f h in
    let b : n ≡ min room lc = a ∙ e ∙ swap lc room in
    lesser n room lc b l
  where
    swap : (x y : ℕ) → min x y ≡ min y x
    swap x y = omega arith

-- where so many bytes are out as there was room for, none is left
spent_room : (b pos end n lt lc : ℕ) → n ≡ b - pos → n ≤ lc → lt ≡ min n lc → end ≡ pos + min lt (b - pos) → b - end ≡ 0
spent_room b pos end n lt lc e l t q = let x : lt ≡ n = small n lc lt t l in let y : end ≡ pos + n = q ∙ ap (λ (z : ℕ). pos + z) (ap (λ (z : ℕ). min z (b - pos)) (x ∙ e) ∙ same (b - pos)) ∙ ap (λ (z : ℕ). pos + z) (sym e) in omega (arith, y, e)
  where
    small : (n m l : ℕ) → l ≡ min n m → n ≤ m → l ≡ n
    small n m l e h = omega arith

    same : (x : ℕ) → min x x ≡ x
    same x = omega arith

beyond : (o n total : ℕ) → o + n < total → n < total - o
beyond o n total h = omega arith

lt_le : (x y : ℕ) → x < y → x ≤ y
lt_le x y h = omega arith

more_left : (d lc n : ℕ) → d ≡ lc - n → 0 < d → n < lc
more_left d lc n e h = omega arith

none-at : (pos lt room : ℕ) → lt ≡ 0 → pos + min lt room ≡ pos
none-at pos lt room e = omega arith

none-taken : (lt n lc : ℕ) → lt ≡ min n lc → n ≡ 0 → lt ≡ 0
none-taken lt n lc e z = omega arith

-- the chunk is at its end for the bytes behind the first n exactly where it is at n
same_cut : (n lc d : ℕ) → d ≡ lc - n → ltb 0 d ≡ ltb n lc
same_cut n lc d e = go (ltb n lc) refl
  where
    go : (t : Bool) → ltb n lc ≡ t → ltb 0 d ≡ t
    go true q = lt-ltb 0 d (let l = ltb-true n lc q in omega arith)
    go false q = le-ltb 0 d (let l = ltb-false n lc q in omega arith)

-- ---- a payload, n of its bytes being out

module _ (s : IStream) (id : ℕ) (r : RawType) (total o pos : ℕ) (c b : List ℕ) (p : InPayload s id r total o) (k n : ℕ)
    (e : k ≡ min (length c) (length b - pos)) (f : n ≡ min k (total - o)) (end : ℕ) (b' : List ℕ) (g : (end ≡ reached b pos (drop 0 (take n c))) × (b' ≡ put b pos (drop 0 (take n c))))
  where
    went : (q : code.Phase) → q ≡ past_piece id r total o n → 0 < n → Went s pos c b (record { phase = q; carried = s.carried }) n end b'
    went q i z =
        subst (λ (m : ℕ). Went s pos c b (record { phase = q; carried = s.carried }) n m b') (sym g.0)
        (subst (λ (x : List ℕ). Went s pos c b (record { phase = q; carried = s.carried }) n (reached b pos (take n c)) x) (sym g.1) (piece_goes s id r total o pos c b p k n e f z q i))

    -- it is at its end,
    pub piece-ends : total ≤ o + n → (q : code.Phase) → q ≡ phase_in idle → Went s pos c b (record { phase = q; carried = s.carried }) n end b'
    piece-ends l q i = let m = (piece_small s id r total o p).0 in went q (past_end id r total o n q i l) (omega arith)

    -- or it goes on
    module _ (l : o + n < total) where
      abbrev onward : IStream
      onward = record { phase = phases.Payload id r total (o + n); carried = s.carried }

      abbrev Stopped : ℕ → Type 0
      Stopped m = Turned s pos c b (turns.Stop (pause s.carried.depth m (Ok (cut_off n (length c))) onward end)) b'

      -- with no byte out
      stays : n ≡ 0 → Stopped n
      stays z =
          let x : o ≡ o + n = omega arith in
          let y : length (take n c) ≡ 0 = none-taken (length (take n c)) n (length c) (length-take n c) z in
          let u : end ≡ pos = g.0 ∙ reached_is b pos (take n c) ∙ none-at pos (length (take n c)) (length b - pos) y in
          let v : b' ≡ b = g.1 ∙ put-none b pos (take n c) y in
          let w = rests s id r total o pos c b p (λ i. sym (no_more (length b - pos) (length c) k n (total - o) e f (beyond o n total l) (omega arith)) ∙ z) in
          subst (λ (d : List ℕ). Turned s pos c b (turns.Stop (pause s.carried.depth n (Ok (cut_off n (length c))) onward end)) d) (sym v)
          (subst (λ (m : ℕ). Turned s pos c b (turns.Stop (pause s.carried.depth n (Ok (cut_off n (length c))) onward m)) b) (sym u)
          (subst (λ (m : ℕ). Turned s pos c b (turns.Stop (pause s.carried.depth m (Ok (cut_off m (length c))) onward pos)) b) (sym z)
          (subst (λ (q : code.Phase). Turned s pos c b (turns.Stop (pause s.carried.depth 0 (Ok (cut_off 0 (length c))) (record { phase = q; carried = s.carried }) pos)) b) (p.1 ∙ ap (λ (m : ℕ). phases.Payload id r total m) x) w)))

      -- and with some
      moves : 0 < n → Stopped n
      moves z =
          let w = went (phases.Payload id r total (o + n)) (past_on id r total o n l) z in
          let full : n < length c → length b' - end ≡ 0 = λ u.
          ap (λ (m : ℕ). m - end) w.size
          ∙ spent_room (length b) pos end n (length (take n c)) (length c) (no_more (length b - pos) (length c) k n (total - o) e f (beyond o n total l) u) (lt_le n (length c) u) (length-take n c) (g.0 ∙ reached_is b pos (take n c)) in
          let t = rests onward id r total (o + n) end (drop n c) b' (w.sound, refl) (λ u. full (more_left (length (drop n c)) (length c) n (length-drop n c) u)) in
          let q = went_stops s pos c b onward n end b' (pause s.carried.depth 0 (Ok (cut_off 0 (length (drop n c)))) onward end) b' w t in
          let j : n + 0 ≡ n = omega arith in
          subst Stopped j
          (subst (λ (x : Bool). Turned s pos c b (turns.Stop (pause s.carried.depth (n + 0) (Ok (pick x Full (Status Incomplete))) onward end)) b') (same_cut n (length c) (length (drop n c)) (length-drop n c)) q)

      pub piece_stops : Stopped n
      piece_stops = go n refl
        where
          go : (m : ℕ) → n ≡ m → Stopped n
          go zero z = stays z
          go (suc m) z = moves (omega arith)
