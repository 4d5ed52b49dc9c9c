-- A fresh copier is sound for its buffer, and every call hands back a sound one from any sound state; refusals are 1, 6 and 2 alone, and
-- where a call is refused nothing alters.
use Prim.Native.Nat.{ℕ, zero, suc, ◌≤◌, ◌<◌}
use native.Mathlib.Omega.{arith}
use mathlib.Core.Path.{◌≡◌, refl, sym, ap, ◌∙◌, subst}
use mathlib.Core.Logic.{◌⊎◌, inl, inr}
use mathlib.Core.Bool.{Bool, true, false}
use mathlib.Core.List.{List}
use lib.Dec.{leb}
use borrow.Author.Tests.{leb-true, leb-false, le-leb}
use lib.ListN.{length}
use Rattle.layout.specs.Limits.{base}
use Rattle.layout.specs.Message.{Bytes}
use Rattle.machine.specs.Machine.{in_header, in_unsigned, in_signed, in_word, in_unsigned_count, in_signed_count, in_float_count, in_array_word, in_float, in_payload}
use Rattle.machine.specs.Calls.{State, reading, owing, broke, fresh}
use Rattle.machine.specs.Run.{spot_of}
use Rattle.machine.proofs.Calls.{FairSpot}
use Rattle.istream.specs.declared.IStream.{IStream}
use Rattle.istream.specs.Stream as reader
use Rattle.istream.specs.Stream.{state_of, stream_in}
use Rattle.phase.specs.Sound.{SoundState}
use Rattle.phase.proofs.Phases.{Live}
use Rattle.istream.proofs.Calls.{state_of_stream}
use Rattle.istream.proofs.Laws as readers
use Rattle.ostream.specs.declared.Counted.{Counted}
use Rattle.ostream.specs.declared.Written.{Written}
use Rattle.ostream.specs.Stream as writer
use Rattle.ostream.specs.Stream.{at, opened}
use Rattle.ostream.proofs.Calls as writers
use Rattle.ostream.proofs.AtOnce.{quiet}
use Rattle.ostream.proofs.Buffers.{sound-at, opened-sound, unheld_clean, drained_is, drain_refused, fits, open_taken, open_refused, change_refused, change_unsound, change_taken}
use Rattle.copying.specs.Owed.{agrees, sound_owed}
use Rattle.copying.specs.Copy as copying
use Rattle.copying.specs.Copy.{Copied, copy}
use Rattle.copying.specs.Refusals.{is_broke}
use Rattle.copying.proofs.Refusals.{with_parts, with_owed, unsound_reader, unsound_writer_lem, broken_reader, none-refused}
use Rattle.copying.proofs.Allowed.{InForce, both}
use Rattle.copying_laws.proofs.Sound as counted
use Rattle.copying_laws.proofs.Sound.{Sounds, copy-sound}
use Rattle.copying_laws.proofs.Reader.{copy_reader}
use Rattle.reading.proofs.Feeds.{call-sound}
use Rattle.copier.specs.declared.Copier.{Copier}
use Rattle.copier.specs.Copier.{owed_of, owed_in, place_in, copy_of, moved, copier_in, sound_reader, sound_writer, sound_copier}
use Rattle.copier.specs.Calls.{Said, full, verdict, Outcome, untouched, said_in, result_in, copied, Opens, taken, Started, opens_in, fresh_over, started, Sends, bytes, sends_of, Sent, over, drained, changed}
use Rattle.copier.specs.Calls as calls
use Rattle.copies.specs.Desk.{said_number, sends_number, Stray, feeds, drains, changes, opens, handed_back, refused_with}
use Rattle.copies.proofs.Owed.{owed_back}

-- ---- what the tests say

pub record Sound (k : Copier) (size : ℕ) : Type 0 where
  pub tested : sound_reader k.reader ≡ true
  pub tests : sound_writer k size ≡ true
  pub reader : SoundState base (state_of k.reader)
  pub writer : writer.sound_stream k.writer size ≡ true
  pub unheld : k.writer.npending ≡ 0
  pub owed : sound_owed base (state_of k.reader) k.writer.depth (owed_of k.owed k.place) ≡ true

reader_is : (s : IStream) → sound_reader s ≡ true → SoundState base (state_of s)
reader_is s h = go (state_of s) refl h
  where
    go : (st : State) → state_of s ≡ st → ◌≡◌ {A = Bool} (elim st [ reading d p ↦ reader.sound_stream base s | owing d id r ↦ reader.sound_stream base s | broke ↦ true ]) true → SoundState base st
    go (reading d p) e t = subst (SoundState base) e (readers.is_sound base s t)
    go (owing d id r) e t = subst (SoundState base) e (readers.is_sound base s t)
    go broke e t = tt

is_reader : (st : State) → SoundState base st → sound_reader (stream_in st) ≡ true
is_reader st h =
    ap (λ (x : State). elim x as (λ y. Bool) [ reading d p ↦ reader.sound_stream base (stream_in st) | owing d id r ↦ reader.sound_stream base (stream_in st) | broke ↦ true ]) (state_of_stream st) ∙ go st h
  where
    go : (x : State) → SoundState base x → ◌≡◌ {A = Bool} (elim x as (λ y. Bool) [ reading d p ↦ reader.sound_stream base (stream_in x) | owing d id r ↦ reader.sound_stream base (stream_in x) | broke ↦ true ]) true
    go (reading d p) h = readers.sound_is base (reading d p) h
    go (owing d id r) h = readers.sound_is base (owing d id r) h
    go broke h = refl

pub is_sound : (k : Copier) (size : ℕ) → sound_copier k size ≡ true → Sound k size
unfolding sound_writer
is_sound k size h =
    let a = both (sound_reader k.reader) (sound_writer k size) h in
    let p = with_parts base (writer.sound_stream k.writer size) k.writer.npending (copy_of k) a.1 in
    record { tested = a.0; tests = a.1; reader = reader_is k.reader a.0; writer = p.0; unheld = p.1; owed = p.2 }

pub sound_is : (k : Copier) (size : ℕ) → Sound k size → sound_copier k size ≡ true
sound_is k size h = simp (h.tested, h.tests)

-- put together anew
pub make : (k : Copier) (size : ℕ) → sound_reader k.reader ≡ true → writer.sound_stream k.writer size ≡ true → k.writer.npending ≡ 0
    → sound_owed base (state_of k.reader) k.writer.depth (owed_of k.owed k.place) ≡ true → Sound k size
unfolding sound_writer
make k size r w n o = record { tested = r; tests = with_owed base (writer.sound_stream k.writer size) k.writer.npending (copy_of k) w n ∙ o; reader = reader_is k.reader r; writer = w; unheld = n; owed = o }

-- ---- feeding

-- what the layout's limits ask of a reader's state, of a sound one
fair : (st : State) → SoundState base st → InForce base st × FairSpot (spot_of st)
fair (reading d (in_header zero v)) (l, s) = ((l, tt), omega (arith, s.small))
fair (reading d (in_header (suc k) v)) (l, s) = ((l, tt), tt)
fair (reading d (in_unsigned id left k v)) (l, (i, (c, s))) = ((l, (i, c)), tt)
fair (reading d (in_signed id left k v)) (l, (i, (c, s))) = ((l, (i, c)), tt)
fair (reading d (in_word id k v)) (l, (i, s)) = ((l, i), tt)
fair (reading d (in_unsigned_count id k v)) (l, (i, s)) = ((l, i), tt)
fair (reading d (in_signed_count id k v)) (l, (i, s)) = ((l, i), tt)
fair (reading d (in_float_count id k v)) (l, (i, s)) = ((l, i), tt)
fair (reading d (in_array_word id count k v)) (l, (i, (c, s))) = ((l, (i, c)), tt)
fair (reading d (in_float id w left k v)) (l, (i, (c, (m, s)))) = ((l, (i, c)), m)
fair (reading d (in_payload id r total o)) (l, (i, (t, s))) = ((l, (i, t)), s)
fair (owing d id r) (l, i) = ((l, i), refl)
fair broke u = (tt, tt)

pub counted-sound : (k : Copier) (size : ℕ) → Sound k size → counted.Sound base (copy_of k)
counted-sound k size h =
    let f = fair (state_of k.reader) h.reader in
    record { reader = f.0; fair = f.1; depth = (writers.is_sound k.writer size h.writer).shallow; owed = h.owed }

inside : (k : Copier) (size : ℕ) → Sound k size → k.writer.offset ≤ size
inside k size h = (writers.is_sound k.writer size h.writer).inside

-- a call's state, in the struct
pub carried-sound : (k : Copier) (c b : List ℕ) → Bytes c → Sound k (length b) → Sound (copier_in k.writer (copy base (copy_of k) c b).copy) (length b)
carried-sound k c b h s =
    let r : Copied = copy base (copy_of k) c b in
    let q : Sounds base (copy_of k) c b r = copy-sound base (copy_of k) c b (counted-sound k (length b) s) (inside k (length b) s) in
    let t : SoundState base r.copy.reader = copy_reader base (SoundState base) (λ n. n < 256) (λ st d b h. call-sound base st d h b) (copy_of k) c b h s.reader in
    make (copier_in k.writer r.copy) (length b) (is_reader r.copy.reader t)
    (quiet (moved k.writer r.copy.pos r.copy.depth) (length b) q.within s.unheld q.sound.depth (unheld_clean k.writer (length b) s.writer s.unheld))
    s.unheld
    (subst (λ (st : State). sound_owed base st r.copy.depth (owed_of (owed_in r.copy.owed) (place_in r.copy.owed)) ≡ true) (sym (state_of_stream r.copy.reader))
    (owed_back r.copy.reader r.copy.depth r.copy.owed q.sound.owed).1)

-- a call on a sound copier: on the reader that stands broken, and on any other
pub on_broken : (k : Copier) (c b : List ℕ) → Sound k (length b) → state_of k.reader ≡ broke → copied k c b ≡ untouched 2 k b
unfolding copied
on_broken k c b s e = broken_reader _ _ _ (λ n. untouched n k b) _ s.tested s.tests (ap is_broke e)

pub on_live : (k : Copier) (c b : List ℕ) → Sound k (length b) → Live (state_of k.reader) → copied k c b ≡ result_in k (copy base (copy_of k) c b)
unfolding copied
on_live k c b s l = none-refused _ _ _ (λ n. untouched n k b) _ s.tested s.tests (go (state_of k.reader) l)
  where
    go : (st : State) → Live st → is_broke st ≡ false
    go (reading d p) l = refl
    go (owing d id r) l = refl
    go broke l = absurd l

-- Every feed hands back a sound copier, and a buffer of the same length.
abbrev Stays : ℕ → Outcome → Type 0
Stays size r = Sound r.copier size × (length r.buf ≡ size)

live_stays : (k : Copier) (c b : List ℕ) → Bytes c → Sound k (length b) → Live (state_of k.reader) → Stays (length b) (copied k c b)
live_stays k c b h s l =
    subst (Stays (length b)) (sym (on_live k c b s l))
    (carried-sound k c b h s, (copy-sound base (copy_of k) c b (counted-sound k (length b) s) (inside k (length b) s)).size)

feed_stays : (k : Copier) (c b : List ℕ) → Bytes c → Sound k (length b) → (st : State) → state_of k.reader ≡ st → Stays (length b) (copied k c b)
feed_stays k c b h s broke e = subst (Stays (length b)) (sym (on_broken k c b s e)) (s, refl)
feed_stays k c b h s (reading d p) e = live_stays k c b h s (subst Live (sym e) tt)
feed_stays k c b h s (owing d id r) e = live_stays k c b h s (subst Live (sym e) tt)

pub copied-sound : (k : Copier) (c b : List ℕ) → Bytes c → sound_copier k (length b) ≡ true
    → (sound_copier (copied k c b).copier (length (copied k c b).buf) ≡ true) × (length (copied k c b).buf ≡ length b)
copied-sound k c b h s =
    let r = feed_stays k c b h (is_sound k (length b) s) (state_of k.reader) refl in
    (subst (λ (n : ℕ). sound_copier (copied k c b).copier n ≡ true) (sym r.1) (sound_is (copied k c b).copier (length b) r.0), r.1)

-- ---- draining, changing the buffer, opening

pub drain_is : (k : Copier) (size : ℕ) → writer.sound_stream k.writer size ≡ true → drained k size ≡ record { sends = bytes k.writer.offset; copier = over k (at k.writer 0) }
unfolding drained
drain_is k size s = ap (λ (r : Counted). record { sends = sends_of r.answer; copier = over k r.stream }) (drained_is k.writer size s)

drain_not : (k : Copier) (size : ℕ) → writer.sound_stream k.writer size ≡ false → drained k size ≡ record { sends = calls.Sends.number 6; copier = k }
unfolding drained
drain_not k size s = ap (λ (r : Counted). record { sends = sends_of r.answer; copier = over k r.stream }) (drain_refused k.writer size s)

pub change_is : (k : Copier) (old new offset : ℕ) → writer.sound_stream k.writer old ≡ true → offset < new
    → changed k old new offset ≡ record { sends = bytes k.writer.offset; copier = over k (at k.writer offset) }
unfolding changed
change_is k old new offset s l =
    ap (λ (r : Counted). record { sends = sends_of r.answer; copier = over k r.stream }) (change_taken k.writer old new offset true (fits new offset true l) s)

pub change_unfit : (k : Copier) (old new offset : ℕ) → new ≤ offset → changed k old new offset ≡ record { sends = calls.Sends.number 5; copier = k }
unfolding changed
change_unfit k old new offset l =
    ap (λ (r : Counted). record { sends = sends_of r.answer; copier = over k r.stream }) (change_refused k.writer old new offset true (le-leb new offset l))

change_not : (k : Copier) (old new offset : ℕ) → offset < new → writer.sound_stream k.writer old ≡ false → changed k old new offset ≡ record { sends = calls.Sends.number 6; copier = k }
unfolding changed
change_not k old new offset l s =
    ap (λ (r : Counted). record { sends = sends_of r.answer; copier = over k r.stream }) (change_unsound k.writer old new offset true (fits new offset true l) s)

-- a sound copier is sound at another position of another buffer
pub moved-sound : (k : Copier) (size p q : ℕ) → Sound k size → p ≤ q → Sound (over k (at k.writer p)) q
moved-sound k size p q s l = make (over k (at k.writer p)) q s.tested (sound-at k.writer size p q s.writer l) s.unheld s.owed

pub drained-sound : (k : Copier) (size : ℕ) → sound_copier k size ≡ true → sound_copier (drained k size).copier size ≡ true
drained-sound k size h =
    let s = is_sound k size h in
    ap (λ (r : Sent). sound_copier r.copier size) (drain_is k size s.writer) ∙ sound_is (over k (at k.writer 0)) size (moved-sound k size 0 size s (omega arith))

-- for the new buffer, where that is taken; else nothing altered, and it is sound for the old one
pub changed-sound : (k : Copier) (old new offset : ℕ) → sound_copier k old ≡ true → (offset < new → sound_copier (changed k old new offset).copier new ≡ true) × (new ≤ offset → (changed k old new offset).copier ≡ k)
changed-sound k old new offset h =
    let s = is_sound k old h in (
      λ l. ap (λ (r : Sent). sound_copier r.copier new) (change_is k old new offset s.writer l) ∙ sound_is (over k (at k.writer offset)) new (moved-sound k old offset new s (omega arith)),
      λ l. ap (λ (r : Sent). r.copier) (change_unfit k old new offset l),
    )

pub start_is : (size offset : ℕ) → offset < size → started size offset ≡ record { opens = taken; copier = fresh_over (opened offset) }
unfolding started
start_is size offset l = ap (λ (r : Written). record { opens = opens_in r.answer; copier = fresh_over r.stream }) (open_taken size offset true (fits size offset true l))

start_unfit : (size offset : ℕ) → size ≤ offset → started size offset ≡ record { opens = calls.Opens.number 5; copier = fresh_over (opened 0) }
unfolding started
start_unfit size offset l = ap (λ (r : Written). record { opens = opens_in r.answer; copier = fresh_over r.stream }) (open_refused size offset true (le-leb size offset l))

fresh-sound : (size offset : ℕ) → offset ≤ size → Sound (fresh_over (opened offset)) size
unfolding opened sound_owed agrees
fresh-sound size offset l = make (fresh_over (opened offset)) size (is_reader fresh (readers.is_sound base (stream_in fresh) (readers.fresh-sound base))) (opened-sound offset size l) refl refl

-- A fresh copier is sound; where its opening is refused, for any buffer, since it stands at 0.
pub started-sound : (size offset : ℕ) → sound_copier (started size offset).copier size ≡ true
started-sound size offset = go (leb size offset) refl
  where
    go : (t : Bool) → leb size offset ≡ t → sound_copier (started size offset).copier size ≡ true
    go true e = ap (λ (r : Started). sound_copier r.copier size) (start_unfit size offset (leb-true size offset e)) ∙ sound_is (fresh_over (opened 0)) size (fresh-sound size 0 (omega arith))
    go false e =
        let l = leb-false size offset e in
        ap (λ (r : Started). sound_copier r.copier size) (start_is size offset l) ∙ sound_is (fresh_over (opened offset)) size (fresh-sound size offset (omega arith))

-- ---- refusals

-- what a feed comes to, by its tests, for any state whatever
on_unsound : (k : Copier) (c b : List ℕ) → sound_reader k.reader ≡ false → copied k c b ≡ untouched 1 k b
unfolding copied
on_unsound k c b e = unsound_reader _ _ _ (λ n. untouched n k b) _ e

on_unfit : (k : Copier) (c b : List ℕ) → sound_reader k.reader ≡ true → sound_writer k (length b) ≡ false → copied k c b ≡ untouched 6 k b
unfolding copied
on_unfit k c b e f = unsound_writer_lem _ _ _ (λ n. untouched n k b) _ e f

by_tests : (k : Copier) (c b : List ℕ) (P : Outcome → Type 0) → P (untouched 1 k b) → P (untouched 6 k b) → P (untouched 2 k b)
    → (Sound k (length b) → P (result_in k (copy base (copy_of k) c b))) → P (copied k c b)
by_tests k c b P one six two live = go (sound_reader k.reader) refl (sound_writer k (length b)) refl
  where
    go : (t : Bool) → sound_reader k.reader ≡ t → (u : Bool) → sound_writer k (length b) ≡ u → P (copied k c b)
    go false e u f = subst P (sym (on_unsound k c b e)) one
    go true e false f = subst P (sym (on_unfit k c b e f)) six
    go true e true f =
        let s : Sound k (length b) = is_sound k (length b) (simp (e, f)) in
        by_state (state_of k.reader) refl s
      where
        by_state : (st : State) → state_of k.reader ≡ st → Sound k (length b) → P (copied k c b)
        by_state broke q s = subst P (sym (on_broken k c b s q)) two
        by_state (reading d p) q s = subst P (sym (on_live k c b s (subst Live (sym q) tt))) (live s)
        by_state (owing d id r) q s = subst P (sym (on_live k c b s (subst Live (sym q) tt))) (live s)

abbrev Refuses : Copier → List ℕ → Outcome → Type 0
Refuses k b r = (n : ℕ) → r.said ≡ calls.Said.number n → ((n ≡ 1) ⊎ ((n ≡ 6) ⊎ (n ≡ 2))) × ((n ≡ 1) ⊎ (n ≡ 6) → r ≡ untouched n k b)

same_number : {m n : ℕ} → calls.Said.number m ≡ calls.Said.number n → m ≡ n
same_number e = ap said_number e

two_is : {A : Type 0} (n : ℕ) → 2 ≡ n → (n ≡ 1) ⊎ (n ≡ 6) → A
two_is n e (inl f) = absurd (omega arith)
two_is n e (inr f) = absurd (omega arith)

refuses_live : (k : Copier) (c b : List ℕ) → Sound k (length b) → Refuses k b (result_in k (copy base (copy_of k) c b))
refuses_live k c b s n = go (copy base (copy_of k) c b).answer (copy-sound base (copy_of k) c b (counted-sound k (length b) s) (inside k (length b) s)).ends
  where
    go : (a : copying.Said) → (a ≡ copying.unfinished → ⊥) → said_in a ≡ calls.Said.number n
        → ((n ≡ 1) ⊎ ((n ≡ 6) ⊎ (n ≡ 2))) × ((n ≡ 1) ⊎ (n ≡ 6) → result_in k (copy base (copy_of k) c b) ≡ untouched n k b)
    go copying.full u e = absurd cc
    go (copying.verdict v) u e = absurd cc
    go copying.invalid u e = let m = same_number e in (inr (inr (sym m)), λ f. two_is n m f)
    go copying.unfinished u e = absurd (u refl)

-- "The copier gives 1, then 6 (also where its own conditions above fail), then 2, and no others; on 1 and 6 nothing is read", and nothing
-- alters. A call never runs out of turns.
pub refusals : (k : Copier) (c b : List ℕ) (n : ℕ) → (copied k c b).said ≡ calls.Said.number n
    → ((n ≡ 1) ⊎ ((n ≡ 6) ⊎ (n ≡ 2))) × ((n ≡ 1) ⊎ (n ≡ 6) → copied k c b ≡ untouched n k b)
refusals k c b =
    by_tests k c b (Refuses k b)
    (λ n e. let m = same_number e in (inl (sym m), λ f. ap (λ (x : ℕ). untouched x k b) m))
    (λ n e. let m = same_number e in (inr (inl (sym m)), λ f. ap (λ (x : ℕ). untouched x k b) m))
    (λ n e. let m = same_number e in (inr (inr (sym m)), λ f. two_is n m f))
    (λ s. refuses_live k c b s)

-- ---- calls for another buffer

abbrev FiveOrSix : ℕ → Type 0
FiveOrSix n = (n ≡ 5) ⊎ (n ≡ 6)

neither : {A : Type 0} (n : ℕ) → n ≤ 2 → FiveOrSix n → A
neither n l (inl e) = absurd (omega arith)
neither n l (inr e) = absurd (omega arith)

feed_back : (k : Copier) (c b : List ℕ) → FiveOrSix (said_number (copied k c b).said) → (copied k c b).copier ≡ k
feed_back k c b = by_tests k c b (λ r. FiveOrSix (said_number r.said) → r.copier ≡ k) (λ f. refl) (λ f. refl) (λ f. refl) (λ s. go (copy base (copy_of k) c b).answer)
  where
    go : (a : copying.Said) → FiveOrSix (said_number (said_in a)) → copier_in k.writer (copy base (copy_of k) c b).copy ≡ k
    go copying.full f = neither 0 (omega arith) f
    go (copying.verdict v) f = neither 0 (omega arith) f
    go copying.invalid f = neither 2 (omega arith) f
    go copying.unfinished f = neither 0 (omega arith) f

drain_back : (k : Copier) (size : ℕ) → FiveOrSix (sends_number (drained k size).sends) → (drained k size).copier ≡ k
drain_back k size f = go (writer.sound_stream k.writer size) refl
  where
    go : (t : Bool) → writer.sound_stream k.writer size ≡ t → (drained k size).copier ≡ k
    go true e = neither 0 (omega arith) (subst (λ (r : Sent). FiveOrSix (sends_number r.sends)) (drain_is k size e) f)
    go false e = ap (λ (r : Sent). r.copier) (drain_not k size e)

change_back : (k : Copier) (old new offset : ℕ) → FiveOrSix (sends_number (changed k old new offset).sends) → (changed k old new offset).copier ≡ k
change_back k old new offset f = go (leb new offset) refl (writer.sound_stream k.writer old) refl
  where
    go : (t : Bool) → leb new offset ≡ t → (u : Bool) → writer.sound_stream k.writer old ≡ u → (changed k old new offset).copier ≡ k
    go true e u g = ap (λ (r : Sent). r.copier) (change_unfit k old new offset (leb-true new offset e))
    go false e true g = neither 0 (omega arith) (subst (λ (r : Sent). FiveOrSix (sends_number r.sends)) (change_is k old new offset g (leb-false new offset e)) f)
    go false e false g = ap (λ (r : Sent). r.copier) (change_not k old new offset (leb-false new offset e) g)

-- What a call refused with 5 or 6 hands back is the copier that it was given.
pub stray_back : (x : Stray) (k : Copier) → (refused_with x k ≡ 5) ⊎ (refused_with x k ≡ 6) → handed_back x k ≡ k
stray_back (feeds c b) k f = feed_back k c b f
stray_back (drains size) k f = drain_back k size f
stray_back (changes old new offset) k f = change_back k old new offset f
stray_back (opens size offset) k f = refl
