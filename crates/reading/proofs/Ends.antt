-- Calling on ends, over the reader's own calls: from any reader, sound or not, two calls a byte and two more bring a verdict or a refusal,
-- and further calls change nothing.
use Prim.Native.Nat.{ℕ, zero, suc, ◌+◌, ◌-◌, ◌*◌, ◌<◌, ◌≤◌}
use native.Mathlib.Nat.{not-suc-le-zero}
use native.Mathlib.Omega.{arith}
use mathlib.Core.Path.{◌≡◌, refl, sym, ap, ◌∙◌, subst}
use mathlib.Core.Bool.{Bool, true, false}
use mathlib.Core.List.{List, [], ◌∷◌}
use lib.ListN.{length, take, drop, length-drop}
use lib.Seq.{take_all}
use Rattle.std.specs.Prelude.{Result, Ok, Err}
use Rattle.layout.specs.Limits.{Limits, pick}
use Rattle.layout.specs.Event as layout
use Rattle.machine.specs.Calls as machine
use Rattle.machine.specs.Calls.{State, reading, owing, broke, call}
use Rattle.machine.specs.Run.{Ending, ended, unfinished}
use Rattle.machine.proofs.Ends.{turns, one_empty, call_few, call_nearer}
use Rattle.types.specs.declared.Error.{Error}
use Rattle.types.specs.Types.{refusal}
use Rattle.event.specs.declared.Event as Events
use Rattle.event.specs.Event.{event_of}
use Rattle.istream.specs.declared.IStream.{IStream}
use Rattle.call_end.specs.declared.Answer.{Answer}
use Rattle.call_end.specs.declared.Answer.TheVariants.{Event, Status}
use Rattle.istream.specs.declared.Fed as Given
use Rattle.istream.specs.Stream.{state_of, sound_stream, answer_in, fed_in, fed_from, fed_of}
use Rattle.istream.proofs.Calls.{state_of_stream}
use Rattle.reading.specs.Feeds.{Fed, feeds, feed}

-- ---- one call

-- an event of the reader's is the machine's
event_from : (k : ℕ) (a : machine.Said) (e : Events.Event) → answer_in k a ≡ Ok (Event e) → (x : layout.Event) × (a ≡ machine.event x)
event_from k (machine.event x) e h = (x, refl)
event_from k (machine.verdict v) e h = let z : ◌≡◌ {A = ℕ} 0 1 = cc in absurd (omega arith)
event_from k machine.invalid e h = let z : ◌≡◌ {A = ℕ} 0 1 = cc in absurd (omega arith)

-- what a call's answer comes to, its event being followed by these calls
abbrev pub answered : List ℕ → Given.Fed → Fed → Fed
answered c r q =
    elim r.answer [
      | Ok (Event e) ↦ record { events = event_of c e ∷ q.events; read = r.read + q.read; answer = q.answer; stream = q.stream }
      | Ok (Status v) ↦ record { events = []; read = r.read; answer = ended (Ok (Status v)); stream = r.stream }
      | Err e ↦ record { events = []; read = r.read; answer = ended (Err e); stream = r.stream }
    ]

-- a verdict or a refusal
abbrev pub Final : Ending (Result Answer Error) → Type 0
Final (ended (Ok (Event e))) = ⊥
Final (ended (Ok (Status v))) = Unit {0}
Final (ended (Err e)) = Unit {0}
Final unfinished = ⊥

answered_final : (c : List ℕ) (k : ℕ) (a : Result Answer Error) (s : IStream) (q : Fed) → ((e : Events.Event) → a ≡ Ok (Event e) → Final q.answer)
    → Final (answered c (record { read = k; answer = a; stream = s }) q).answer
answered_final c k (Ok (Event e)) s q h = h e refl
answered_final c k (Ok (Status v)) s q h = tt
answered_final c k (Err e) s q h = tt

answered_same : (c : List ℕ) (k : ℕ) (a : Result Answer Error) (s : IStream) (p q : Fed) → Final (answered c (record { read = k; answer = a; stream = s }) p).answer
    → ((e : Events.Event) → a ≡ Ok (Event e) → Final p.answer → p ≡ q)
    → answered c (record { read = k; answer = a; stream = s }) p ≡ answered c (record { read = k; answer = a; stream = s }) q
answered_same c k (Ok (Event e)) s p q f h = ap (λ (x : Fed). record { events = event_of c e ∷ x.events; read = k + x.read; answer = x.answer; stream = x.stream }) (h e refl f)
answered_same c k (Ok (Status v)) s p q f h = refl
answered_same c k (Err e) s p q f h = refl

module _ (L : Limits) where
  nearer_in : (st : State) (c : List ℕ) (e : Events.Event) → (fed_in (call L st c)).answer ≡ Ok (Event e)
      → turns (state_of (fed_in (call L st c)).stream) (drop (fed_in (call L st c)).read c) < turns st c
  unfolding fed_in
  nearer_in st c e h =
      let r = call L st c in
      let x = event_from r.read r.answer e h in
      subst (λ (s : State). turns s (drop r.read c) < turns st c) (sym (state_of_stream r.state)) (call_nearer L st c x.0 x.1)

  -- whether the state is sound or not: a refusal is no event
  nearer_checked : (s : IStream) (c : List ℕ) (t : Bool) (e : Events.Event)
      → (pick t (fed_in (call L (state_of s) c)) (record { read = 0; answer = Err (refusal 1); stream = s })).answer ≡ Ok (Event e)
      → turns (state_of (pick t (fed_in (call L (state_of s) c)) (record { read = 0; answer = Err (refusal 1); stream = s })).stream) (drop (pick t (fed_in (call L (state_of s) c)) (record { read = 0; answer = Err (refusal 1); stream = s })).read c) < turns (state_of s) c
  nearer_checked s c true e h = nearer_in (state_of s) c e h
  nearer_checked s c false e h = let z : ◌≡◌ {A = ℕ} 0 1 = cc in absurd (omega arith)

  nearer_from : (st : State) (s : IStream) (c : List ℕ) (e : Events.Event) → (fed_from L st s c).answer ≡ Ok (Event e)
      → turns (state_of (fed_from L st s c).stream) (drop (fed_from L st s c).read c) < turns (state_of s) c
  nearer_from (reading d p) s c e h = nearer_checked s c (sound_stream L s) e h
  nearer_from (owing d id r) s c e h = nearer_checked s c (sound_stream L s) e h
  nearer_from broke s c e h = let z : ◌≡◌ {A = ℕ} 0 1 = cc in absurd (omega arith)

  fed_nearer : (s : IStream) (c : List ℕ) (e : Events.Event) → (fed_of L s c).answer ≡ Ok (Event e) → turns (state_of (fed_of L s c).stream) (drop (fed_of L s c).read c) < turns (state_of s) c
  unfolding fed_of
  fed_nearer s c e h = nearer_from (state_of s) s c e h

  few_checked : (s : IStream) (c : List ℕ) (t : Bool) → (pick t (fed_in (call L (state_of s) c)) (record { read = 0; answer = Err (refusal 1); stream = s })).read ≤ length c
  unfolding fed_in
  few_checked s c true = call_few L (state_of s) c
  few_checked s c false = omega arith

  few_from : (st : State) (s : IStream) (c : List ℕ) → (fed_from L st s c).read ≤ length c
  few_from (reading d p) s c = few_checked s c (sound_stream L s)
  few_from (owing d id r) s c = few_checked s c (sound_stream L s)
  few_from broke s c = omega arith

  -- the rest of the chunk, cut out from its start and by its length
  all_left : (s t : State) (c : List ℕ) (k : ℕ) → turns t (drop k c) < turns s c → turns t (take (length c - k) (drop k c)) < turns s c
  all_left s t c k h =
      let l : length (drop k c) ≡ length c - k = length-drop k c in
      subst (λ (r : List ℕ). turns t r < turns s c) (sym (take_all (length c - k) (drop k c) (omega arith))) h

  -- What a loop over a chunk's calls asks: a call reads at most the chunk, and one that gives an event leaves fewer turns.
  pub read_few : (s : IStream) (c : List ℕ) (r : Given.Fed) → r ≡ fed_of L s c → r.read ≤ length c
  unfolding fed_of
  read_few s c r q = subst (λ (x : Given.Fed). x.read ≤ length c) (sym q) (few_from (state_of s) s c)

  pub read_nearer : (s : IStream) (c : List ℕ) (r : Given.Fed) (e : Events.Event) → r ≡ fed_of L s c → r.answer ≡ Ok (Event e)
      → turns (state_of r.stream) (take (length c - r.read) (drop r.read c)) < turns (state_of s) c
  read_nearer s c r e q h =
      subst (λ (x : Given.Fed). turns (state_of x.stream) (take (length c - x.read) (drop x.read c)) < turns (state_of s) c) (sym q)
      (all_left (state_of s) (state_of (fed_of L s c).stream) c (fed_of L s c).read (fed_nearer s c e (ap (λ (x : Given.Fed). x.answer) (sym q) ∙ h)))

  -- ---- a chunk

  feeds_final : (n : ℕ) (s : IStream) (c : List ℕ) → turns (state_of s) c < n → Final (feeds L n s c).answer
  unfolding feeds
  feeds_final zero s c h = absurd (not-suc-le-zero h)
  feeds_final (suc n) s c h =
      let r = fed_of L s c in
      answered_final c r.read r.answer r.stream (feeds L n r.stream (drop r.read c))
      (λ e a. let l = fed_nearer s c e a in feeds_final n r.stream (drop r.read c) (omega arith))

  feeds-ended : (n m : ℕ) (s : IStream) (c : List ℕ) → Final (feeds L n s c).answer → turns (state_of s) c < m → feeds L n s c ≡ feeds L m s c
  unfolding feeds
  feeds-ended zero m s c f h = absurd f
  feeds-ended (suc n) zero s c f h = absurd (not-suc-le-zero h)
  feeds-ended (suc n) (suc m) s c f h =
      let r = fed_of L s c in
      answered_same c r.read r.answer r.stream (feeds L n r.stream (drop r.read c)) (feeds L m r.stream (drop r.read c)) f
      (λ e a f'. let l = fed_nearer s c e a in feeds-ended n m r.stream (drop r.read c) f' (omega arith))

  enough : (s : IStream) (c : List ℕ) → turns (state_of s) c < 2 * length c + 2
  enough s c = let o = one_empty (state_of s) in omega arith

  -- CALLING ON ENDS. From any reader and on any chunk: `feed`'s calls end with a verdict or a refusal; so does any larger number of calls;
  -- and any calls that end so come to the same as `feed`, so that further ones change nothing.
  pub feeding-ends : (s : IStream) (c : List ℕ)
      → Final (feed L s c).answer × ((k : ℕ) → Final (feeds L (2 * length c + 2 + k) s c).answer) × ((n : ℕ) → Final (feeds L n s c).answer → feeds L n s c ≡ feed L s c)
  feeding-ends s c = (
    feeds_final (2 * length c + 2) s c (enough s c),
    λ k. (let o = enough s c in feeds_final (2 * length c + 2 + k) s c (omega arith)),
    λ n f. feeds-ended n (2 * length c + 2) s c f (enough s c),
  )

  -- A chunk's calls are a call and, where it gives an event, the calls on the rest of the chunk: no number of turns is left in it.
  pub feed_unfolds : (s : IStream) (c : List ℕ) → feed L s c ≡ answered c (fed_of L s c) (feed L (fed_of L s c).stream (drop (fed_of L s c).read c))
  unfolding feeds
  feed_unfolds s c =
      let r = fed_of L s c in
      let t : 2 * length c + 2 ≡ suc (2 * length c + 1) = omega arith in
      ap (λ (n : ℕ). feeds L n s c) t
      ∙ answered_same c r.read r.answer r.stream (feeds L (2 * length c + 1) r.stream (drop r.read c)) (feed L r.stream (drop r.read c))
      (subst (λ (n : ℕ). Final (feeds L n s c).answer) t (feeds_final (2 * length c + 2) s c (enough s c)))
      (λ e a f. feeds-ended (2 * length c + 1) (2 * length (drop r.read c) + 2) r.stream (drop r.read c) f (enough r.stream (drop r.read c)))
