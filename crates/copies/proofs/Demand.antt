-- Demand 3, proved: the one value of `Demand`. Its statement stands in specs/Demand.
use Prim.Native.Nat.{ℕ, ◌≤◌}
use native.Mathlib.Omega.{arith}
use mathlib.Core.Path.{◌≡◌, sym, ap, ◌∙◌, subst}
use mathlib.Core.Logic.{◌⊎◌, inl, inr, ◌↔◌}
use mathlib.Core.List.{List, [], ◌∷◌, ◌++◌}
use lib.ListN.{length}
use Rattle.layout.specs.Limits.{base}
use Rattle.layout.specs.Event.{joined}
use Rattle.layout.specs.Message.{All, Bytes, complete, verdict_of, events_of}
use Rattle.layout.specs.Copy.{plain_copy}
use Rattle.laws.specs.Events.{encode_events}
use Rattle.laws.proofs.Laws.{fit_base, complete_iff, copy_bytes, copy_complete, copy-events, copy_again, copy_of-events, exactly_when, shortest-copy}
use Rattle.machine.specs.Calls.{standing_of}
use Rattle.machine.specs.Run.{join, heard_of}
use Rattle.machine.proofs.Runs.{joined_injective}
use Rattle.reading.proofs.Feeds.{feeds_read, feeds-joined, feeds_last}
use Rattle.copier.specs.Calls.{Started}
use Rattle.copies.specs.Desk.{drain}
use Rattle.copies.specs.Stands.{enough, turns}
use Rattle.copies.specs.Demand.{Whole, events, Run, output, ReadAs, Demand}
use Rattle.copies.proofs.Sound.{start_is}
use Rattle.copies.proofs.Sent.{all_sent, all_heard}
use Rattle.copies.proofs.Ends.{calling_ends, can_end}

-- the chunks of a byte string are byte strings
split : (xs ys : List ℕ) → Bytes (xs ++ ys) → Bytes xs × Bytes ys
split [] ys h = (tt, h)
split (x ∷ xs) ys h = let r = split xs ys h.1 in ((h.0, r.0), r.1)

cut_bytes : (cs : List (List ℕ)) → Bytes (join cs) → All Bytes cs
unfolding join
cut_bytes [] h = tt
cut_bytes (c ∷ cs) h = let r = split c (join cs) h in (r.0, cut_bytes cs r.1)

pub chunk_bytes : (T : List ℕ) (cs : List (List ℕ)) → Bytes T → join cs ≡ T → All Bytes cs
chunk_bytes T cs h e = cut_bytes cs (subst Bytes (sym e) h)

verdict : (T : List ℕ) → Whole T → verdict_of base T ≡ complete
verdict T (b, w) = (complete_iff base T b).1 w

-- the plain copy is a whole message
whole_copy : (T : List ℕ) → Whole T → Whole (plain_copy base T)
whole_copy T w =
    let v = verdict T w in
    let b = copy_bytes base T w.0 v in
    (b, (complete_iff base (plain_copy base T) b).0 (copy_complete base fit_base T w.0 v))

copies : (T : List ℕ) → Whole T → (r : Run T) → output r ≡ plain_copy base T
copies T w r =
    all_sent 0 r.buf r.chunks r.schedule r.room (chunk_bytes T r.chunks w.0 r.joins) r.allowed r.finished
    ∙ copied_of r.chunks r.joins
  where
    copied_of : (cs : List (List ℕ)) → join cs ≡ T → encode_events 0 (events_of base (join cs)) ≡ plain_copy base T
    copied_of cs e = ap (λ (l : List ℕ). encode_events 0 (events_of base l)) e ∙ copy_of-events base T w.0 (verdict T w)

-- the reader's own calls, over chunks of a whole message
read_as : (T : List ℕ) → Whole T → (cs : List (List ℕ)) → join cs ≡ T → ReadAs cs (events T)
read_as T w cs e =
    let b = chunk_bytes T cs w.0 e in
    let v : verdict_of base (join cs) ≡ complete = ap (verdict_of base) e ∙ verdict T w in
    record {
      events = feeds-joined base cs b ∙ ap events e;
      said = feeds_last base cs b ∙ ap heard_of v;
      stands = (feeds_read base cs b).2 ∙ ap standing_of v;
    }

-- Runs there are: for every list of chunks and every buffer of one byte or more.
pub run : (T : List ℕ) → Bytes T → (cs : List (List ℕ)) → join cs ≡ T → (b : List ℕ) → 1 ≤ length b → Run T
run T h cs e b l =
    let g = can_end 0 b cs [] l (chunk_bytes T cs h e) tt (enough cs) (omega arith) in
    record { chunks = cs; joins = e; buf = b; room = l; schedule = drain ∷ turns (enough cs); allowed = g.0; finished = g.1 }

-- DEMAND 3.
pub demand : Demand
demand =
    record {
      opens = λ b h. ap (λ (r : Started). r.opens) (start_is (length b) 0 h);
      ends = λ b cs as' h a p n. calling_ends 0 b cs as' h (cut_bytes cs a) p n;
      goes = λ b cs as' n h a p l. can_end 0 b cs as' h (cut_bytes cs a) p n l;
      says = λ T w r. all_heard 0 r.buf r.chunks r.schedule r.room (chunk_bytes T r.chunks w.0 r.joins) r.allowed r.finished;
      copies = copies;
      reads = λ T w r cs e. read T w r cs e;
      again = λ T w r s. copies (output r) (whole-output T w r) s ∙ ap (plain_copy base) (copies T w r) ∙ copy_again base fit_base T w.0 (verdict T w) ∙ sym (copies T w r);
      shortest = λ T w r U u e.
          subst (λ (l : List ℕ). length l ≤ length U) (sym (copies T w r)) (shortest-copy base T U w.0 u.0 (verdict T w) (verdict U u) ((joined_injective base U T).0 e));
      exactly = λ T U w u r s. exactly T U w u r s;
    }
  where
    whole-output : (T : List ℕ) → Whole T → (r : Run T) → Whole (output r)
    whole-output T w r = subst Whole (sym (copies T w r)) (whole_copy T w)

    read : (T : List ℕ) → Whole T → (r : Run T) (cs : List (List ℕ)) → (join cs ≡ T) ⊎ (join cs ≡ output r) → ReadAs cs (events T)
    read T w r cs (inl e) = read_as T w cs e
    read T w r cs (inr e) =
        subst (ReadAs cs) (ap events (copies T w r) ∙ ap joined (copy-events base fit_base T w.0 (verdict T w))) (read_as (output r) (whole-output T w r) cs e)

    exactly : (T U : List ℕ) → Whole T → Whole U → (r : Run T) (s : Run U) → (output r ≡ output s) ↔ (events T ≡ events U)
    exactly T U w u r s =
        let x = exactly_when base fit_base T U w.0 u.0 (verdict T w) (verdict U u) in
        let j = joined_injective base T U in
        (λ e. j.1 (x.0 (sym (copies T w r) ∙ e ∙ copies U u s)), λ e. copies T w r ∙ x.1 (j.0 e) ∙ sym (copies U u s))
