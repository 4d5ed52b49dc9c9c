-- The copier's run theorem: whatever feeds, drains, buffer changes and refused calls come, what is out and what is owed are the bytes of the
-- layout's events so far, each chunk ends as the layout says, and counted drains are no more than the bytes.
use Prim.Native.Nat.{ℕ, suc, ◌+◌, ◌≤◌, ◌<◌, min}
use native.Mathlib.Omega.{arith}
use mathlib.Core.Path.{◌≡◌, refl, sym, ap, ◌∙◌, subst}
use mathlib.Core.Logic.{◌⊎◌, inl, inr}
use mathlib.Core.Bool.{Bool, true, false, ◌&&◌, ◌||◌}
use mathlib.Core.List.{List, [], ◌∷◌, ◌++◌, append_assoc, append-nil}
use lib.Dec.{leb, ltb}
use borrow.Author.Tests.{ltb-true, leb-true, leb-false}
use lib.ListN.{length, take, drop, length-append, length-take, take-append-drop}
use lib.Seq.{take-length}
use Rattle.layout.specs.Limits.{base, pick}
use Rattle.layout.specs.Message.{All, Bytes, Verdict, broken_at, verdict_of, events_of}
use Rattle.laws.specs.Events.{encode_events}
use Rattle.machine.specs.Calls.{State, reading, owing, broke, verdict_at}
use Rattle.machine.specs.Run.{Follows, join, verdicts_of, Heard, status, refused, heard_of, heard_all}
use Rattle.machine.proofs.Calls.{fresh_follows}
use Rattle.machine.proofs.Prefix.{broken_stays}
use Rattle.machine.proofs.Runs.{plain_at, verdict_at_lem, verdict_broken}
use Rattle.istream.specs.Stream.{state_of}
use Rattle.phase.proofs.Phases.{Live}
use Rattle.istream.proofs.Calls.{state_of_stream}
use Rattle.ostream.specs.Stream.{at, opened}
use Rattle.ostream.proofs.Calls as writers
use Rattle.reading.proofs.Feeds.{bytes_drop}
use Rattle.copying.specs.Owed.{Owed, nothing, owes, rest, sound_owed}
use Rattle.copying.specs.Copy as copying
use Rattle.copying.specs.Copy.{Copied, copy}
use Rattle.copying.specs.Run.{Keeps, Kept, Final}
use Rattle.copying.proofs.Keeps.{copy_keeps}
use Rattle.copying_laws.proofs.Bound.{wants_bound}
use Rattle.copying_laws.proofs.Sound.{sound_plain, copy-sound}
use Rattle.copier.specs.declared.Copier.{Copier}
use Rattle.copier.specs.Copier.{copy_of, copier_in}
use Rattle.copier.specs.Calls.{Said, full, verdict, Outcome, untouched, said_in, copied, fresh_over, bytes, Sent, over, changed}
use Rattle.copier.specs.Calls as calls
use Rattle.copies.specs.Desk.{told, Desk, Stray, Act, feed, drain, change, stray, ended, filled, fed, feeding, none, counts, holding, sending, act, acts, MayStand, Allowed}
use Rattle.copies.specs.Stands.{out, whole, Stands}
use Rattle.copies.proofs.Owed.{owed_back}
use Rattle.copies.proofs.Sound.{Sound, sound_is, counted-sound, carried-sound, on_broken, on_live, drain_is, change_is, change_unfit, moved-sound, stray_back}

-- ---- lists of chunks

join_last : (done : List (List ℕ)) (x : List ℕ) → join (done ++ (x ∷ [])) ≡ join done ++ x
unfolding join
join_last [] x = append-nil x
join_last (c ∷ done) x = ap (λ (l : List ℕ). c ++ l) (join_last done x) ∙ sym (append_assoc c (join done) x)

-- one chunk more
heard_last : (bs : List ℕ) (done : List (List ℕ)) (x : List ℕ)
    → heard_all (verdicts_of base bs (done ++ (x ∷ []))) ≡ heard_all (verdicts_of base bs done) ++ (heard_of (verdict_of base (bs ++ (join done ++ x))) ∷ [])
unfolding join verdicts_of
heard_last bs [] x = refl
heard_last bs (c ∷ done) x =
    ap (λ (l : List Heard). heard_of (verdict_of base (bs ++ c)) ∷ l)
    (heard_last (bs ++ c) done x
    ∙ ap (λ (l : List ℕ). heard_all (verdicts_of base (bs ++ c) done) ++ (heard_of (verdict_of base l) ∷ []))
    (append_assoc bs c (join done ++ x) ∙ ap (λ (l : List ℕ). bs ++ l) (sym (append_assoc c (join done) x))))

whole-none : (cs : List (List ℕ)) → whole [] cs ≡ cs
whole-none [] = refl
whole-none (c ∷ cs) = refl

least : (x y : ℕ) → x ≤ y → min x y ≡ x
least x y h = omega arith

pub out-length : (sent b : List ℕ) (p : ℕ) → p ≤ length b → length (sent ++ take p b) ≡ length sent + p
out-length sent b p h = length-append sent (take p b) ∙ ap (λ (n : ℕ). length sent + n) (length-take p b ∙ least p (length b) h)

-- ---- what is kept

pub record Fine (reserved : List ℕ) (cs : List (List ℕ)) (d : Desk) : Type 0 where
  pub stands : Stands reserved cs d
  pub sound : Sound d.copier (length d.buf)
  pub room : 1 ≤ length d.buf
  pub bytes : All Bytes d.chunks
  pub filled : d.full ≡ true → d.copier.writer.offset ≡ length d.buf
  pub few : d.drains ≤ length d.sent
  pub ahead : length reserved ≤ length (out d)

pub inside : (k : Copier) (size : ℕ) → Sound k size → k.writer.offset ≤ size
inside k size s = (writers.is_sound k.writer size s.writer).inside

-- a broken reader's copier owes nothing
pub broken_owes : (w : ℕ) (o : Owed) → sound_owed base broke w o ≡ true → rest o ≡ []
unfolding sound_owed rest
broken_owes w nothing h = refl
broken_owes w (owes due e place) h = absurd cc

-- ---- a feed

module _ (reserved : List ℕ) (cs : List (List ℕ)) (d : Desk) (c : List ℕ) (later : List (List ℕ)) (f : Fine reserved cs d) (e : d.chunks ≡ c ∷ later) where
  abbrev s : Stands reserved cs d
  s = f.stands

  abbrev k : Copier
  k = d.copier

  abbrev b : List ℕ
  b = d.buf

  first : All Bytes (c ∷ later)
  first = subst (All Bytes) e f.bytes

  cut : cs ≡ s.done ++ ((s.begun ++ c) ∷ later)
  cut = s.chunks ∙ ap (λ (l : List (List ℕ)). s.done ++ whole s.begun l) e

  -- what is out grows with the position
  grows : (k' : Copier) (b' : List ℕ) → k.writer.offset ≤ k'.writer.offset → k'.writer.offset ≤ length b' → length b' ≡ length b
      → length reserved ≤ length (d.sent ++ take k'.writer.offset b')
  grows k' b' l m n =
      omega (arith, f.ahead, out-length d.sent b k.writer.offset (inside k (length b) f.sound), out-length d.sent b' k'.writer.offset m)

  -- the chunk ends
  ends : (u : ℕ) (said : Said) (k' : Copier) (b' read unread : List ℕ) → (s.read ++ s.unread) ++ c ≡ read ++ unread
      → ((state_of k'.reader ≡ broke → ⊥) → unread ≡ []) → d.read + u ≡ length read → Keeps base reserved read (d.sent ++ take k'.writer.offset b') (copy_of k')
      → told (d.read + u) said ≡ heard_of (verdict_of base (read ++ unread)) → Sound k' (length b') → length b' ≡ length b → rest (copy_of k').owed ≡ []
      → k.writer.offset ≤ k'.writer.offset → Fine reserved cs (ended d later (record { used = u; said = said; copier = k'; buf = b' }))
  ends u said k' b' read unread h l n q t y m o a =
      let x : List ℕ = s.begun ++ c in
      let j : join s.done ++ x ≡ read ++ unread = sym (append_assoc (join s.done) s.begun c) ∙ ap (λ (z : List ℕ). z ++ c) s.handed ∙ h in
      record {
        stands =
            record {
              done = s.done ++ (x ∷ []);
              begun = [];
              chunks = cut ∙ sym (append_assoc s.done (x ∷ []) later) ∙ ap (λ (z : List (List ℕ)). (s.done ++ (x ∷ [])) ++ z) (sym (whole-none later));
              read = read;
              unread = unread;
              handed = append-nil (join (s.done ++ (x ∷ []))) ∙ join_last s.done x ∙ j;
              live = l;
              count = n;
              keeps = q;
              settled = λ z. (refl, o);
              heard =
                  ap (λ (z : List Heard). z ++ (told (d.read + u) said ∷ [])) s.heard
                  ∙ ap (λ (z : Heard). heard_all (verdicts_of base [] s.done) ++ (z ∷ [])) (t ∙ ap (λ (z : List ℕ). heard_of (verdict_of base z)) (sym j))
                  ∙ sym (heard_last [] s.done x);
              sound = sound_is k' (length b') y;
            };
        sound = y;
        room = omega (arith, f.room);
        bytes = first.1;
        filled = λ z. absurd cc;
        few = f.few;
        ahead = grows k' b' a (inside k' (length b') y) m;
      }

  -- the buffer is full
  fills : (u : ℕ) (k' : Copier) (b' : List ℕ) → u ≤ length c → s.unread ≡ [] → Keeps base reserved (s.read ++ take u c) (d.sent ++ take k'.writer.offset b') (copy_of k')
      → Sound k' (length b') → length b' ≡ length b → k.writer.offset ≤ k'.writer.offset → k'.writer.offset ≡ length b'
      → Fine reserved cs (filled d c later (record { used = u; said = full; copier = k'; buf = b' }))
  fills u k' b' h z q y m a p =
      let n : length (take u c) ≡ u = length-take u c ∙ least u (length c) h in
      record {
        stands =
            record {
              done = s.done;
              begun = s.begun ++ take u c;
              chunks =
                  cut
                  ∙ ap (λ (l : List ℕ). s.done ++ ((s.begun ++ l) ∷ later)) (sym (take-append-drop u c))
                  ∙ ap (λ (l : List ℕ). s.done ++ (l ∷ later)) (sym (append_assoc s.begun (take u c) (drop u c)));
              read = s.read ++ take u c;
              unread = [];
              handed =
                  sym (append_assoc (join s.done) s.begun (take u c))
                  ∙ ap (λ (l : List ℕ). l ++ take u c) (s.handed ∙ ap (λ (l : List ℕ). s.read ++ l) z ∙ append-nil s.read)
                  ∙ sym (append-nil (s.read ++ take u c));
              live = λ w. refl;
              count = ap (λ (x : ℕ). x + u) s.count ∙ ap (λ (x : ℕ). length s.read + x) (sym n) ∙ sym (length-append s.read (take u c));
              keeps = q;
              settled = λ w. absurd cc;
              heard = s.heard;
              sound = sound_is k' (length b') y;
            };
        sound = y;
        room = omega (arith, f.room);
        bytes = (bytes_drop u c first.0, first.1);
        filled = λ w. p;
        few = f.few;
        ahead = grows k' b' a (inside k' (length b') y) m;
      }

  -- a broken reader: 2 again
  again : state_of k.reader ≡ broke → Fine reserved cs (ended d later (untouched 2 k b))
  again h =
      let g : Follows base s.read s.keeps.events broke = subst (Follows base s.read s.keeps.events) h s.keeps.follows in
      let v : verdict_of base s.read ≡ broken_at (length s.read) = verdict_broken base s.read g.spot in
      let z : d.read + 0 ≡ length s.read = omega (arith, s.count) in
      let w = broken_stays base s.read (s.unread ++ c) (length s.read) v in
      ends 0 (calls.Said.number 2) k b s.read (s.unread ++ c) (append_assoc s.read s.unread c) (λ n. absurd (n h)) z s.keeps
      (ap (refused 2) z ∙ ap heard_of (sym w.0)) f.sound refl (broken_owes k.writer.depth (copy_of k).owed (subst (λ (st : State). sound_owed base st k.writer.depth (copy_of k).owed ≡ true) h f.sound.owed)) (omega arith)

  -- any other reader: the call's own answer
  abbrev r : Copied
  r = copy base (copy_of k) c b

  abbrev k' : Copier
  k' = copier_in k.writer r.copy

  called : Kept base reserved s.read d.sent (copy_of k) c b r
  called = copy_keeps base reserved s.read d.sent (copy_of k) c b s.keeps (inside k (length b) f.sound) (sound_plain base (state_of k.reader) k.writer.depth (copy_of k).owed f.sound.owed)

  owed_same : rest (copy_of k').owed ≡ rest r.copy.owed
  owed_same = (owed_back r.copy.reader r.copy.depth r.copy.owed (copy-sound base (copy_of k) c b (counted-sound k (length b) f.sound) (inside k (length b) f.sound)).sound.owed).0

  keeps_on : Keeps base reserved (s.read ++ take r.used c) (d.sent ++ take r.copy.pos r.buf) (copy_of k')
  keeps_on =
      let q = called.keeps in
      record {
        events = q.events;
        follows = subst (Follows base (s.read ++ take r.used c) q.events) (sym (state_of_stream r.copy.reader)) q.follows;
        bytes = ap (λ (l : List ℕ). (d.sent ++ take r.copy.pos r.buf) ++ l) owed_same ∙ q.bytes;
      }

  sound_on : Sound k' (length r.buf)
  sound_on = subst (Sound k') (sym called.size) (carried-sound k c b first.0 f.sound)

  counted_on : d.read + r.used ≡ length (s.read ++ take r.used c)
  counted_on =
      ap (λ (x : ℕ). x + r.used) s.count
      ∙ ap (λ (x : ℕ). length s.read + x) (sym (length-take r.used c ∙ least r.used (length c) called.few))
      ∙ sym (length-append s.read (take r.used c))

  none-owed : r.copy.owed ≡ nothing → rest (copy_of k').owed ≡ []
  unfolding rest
  none-owed o = owed_same ∙ ap rest o

  -- the verdict once the chunk is spent
  at_end : (v : Verdict) → s.unread ≡ [] → Final (copying.verdict v) r.copy r.used c (length b)
      → Fine reserved cs (ended d later (record { used = r.used; said = verdict v; copier = k'; buf = r.buf }))
  at_end v z (n, o, (dep, p, w, t)) =
      let i : take r.used c ≡ c = ap (λ (m : ℕ). take m c) n ∙ take-length c in
      let g = subst (Follows base (s.read ++ take r.used c) called.keeps.events) w called.keeps.follows in
      let x : verdict_of base (s.read ++ take r.used c) ≡ verdict_at dep p = verdict_at_lem base (s.read ++ take r.used c) dep p g.spot in
      ends r.used (verdict v) k' r.buf (s.read ++ take r.used c) []
      (ap (λ (l : List ℕ). (s.read ++ l) ++ c) z ∙ ap (λ (l : List ℕ). l ++ c) (append-nil s.read) ∙ ap (λ (l : List ℕ). s.read ++ l) (sym i) ∙ sym (append-nil _))
      (λ m. refl) counted_on keeps_on
      (ap status t ∙ sym (plain_at dep p).0 ∙ ap heard_of (sym x) ∙ ap (λ (l : List ℕ). heard_of (verdict_of base l)) (sym (append-nil (s.read ++ take r.used c))))
      sound_on called.size (none-owed o) called.ahead

  -- 2 at the offending byte
  at-two : s.unread ≡ [] → Final copying.invalid r.copy r.used c (length b)
      → Fine reserved cs (ended d later (record { used = r.used; said = calls.Said.number 2; copier = k'; buf = r.buf }))
  at-two z (o, w) =
      let g = subst (Follows base (s.read ++ take r.used c) called.keeps.events) w called.keeps.follows in
      let v : verdict_of base (s.read ++ take r.used c) ≡ broken_at (length (s.read ++ take r.used c)) = verdict_broken base (s.read ++ take r.used c) g.spot in
      let x = broken_stays base (s.read ++ take r.used c) (drop r.used c) (length (s.read ++ take r.used c)) v in
      ends r.used (calls.Said.number 2) k' r.buf (s.read ++ take r.used c) (drop r.used c)
      (ap (λ (l : List ℕ). (s.read ++ l) ++ c) z ∙ ap (λ (l : List ℕ). l ++ c) (append-nil s.read) ∙ ap (λ (l : List ℕ). s.read ++ l) (sym (take-append-drop r.used c)) ∙ sym (append_assoc s.read (take r.used c) (drop r.used c)))
      (λ m. absurd (m (state_of_stream r.copy.reader ∙ w))) counted_on keeps_on (ap (refused 2) counted_on ∙ ap heard_of (sym x.0))
      sound_on called.size (none-owed o) called.ahead

  by_answer : (a : copying.Said) → s.unread ≡ [] → Final a r.copy r.used c (length b)
      → Fine reserved cs (fed d c later (said_in a) (record { used = r.used; said = said_in a; copier = k'; buf = r.buf }))
  by_answer copying.full z h = fills r.used k' r.buf called.few z keeps_on sound_on called.size called.ahead (h.0 ∙ sym called.size)
  by_answer (copying.verdict v) z h = at_end v z h
  by_answer copying.invalid z h = at-two z h
  by_answer copying.unfinished z h = absurd h

  -- what a feed comes to
  by_feed : (P : Desk → Type 0) → (state_of k.reader ≡ broke → P (ended d later (untouched 2 k b)))
      → ((a : copying.Said) → (state_of k.reader ≡ broke → ⊥) → Final a r.copy r.used c (length b)
      → P (fed d c later (said_in a) (record { used = r.used; said = said_in a; copier = k'; buf = r.buf })))
      → P (fed d c later (copied k c b).said (copied k c b))
  by_feed P two on = go (state_of k.reader) refl
    where
      reads : Live (state_of k.reader) → (state_of k.reader ≡ broke → ⊥) → P (fed d c later (copied k c b).said (copied k c b))
      reads l n = subst (λ (x : Outcome). P (fed d c later x.said x)) (sym (on_live k c b f.sound l)) (on r.answer n called.final)

      go : (st : State) → state_of k.reader ≡ st → P (fed d c later (copied k c b).said (copied k c b))
      go broke h = subst (λ (x : Outcome). P (fed d c later x.said x)) (sym (on_broken k c b f.sound h)) (two h)
      go (reading dep p) h = reads (subst Live (sym h) tt) (λ x. cc)
      go (owing dep id w) h = reads (subst Live (sym h) tt) (λ x. cc)

  -- A feed brings the end nearer: its chunk ends, or the buffer is written to its end.
  abbrev pub Moves : Desk → Type 0
  Moves x = (length (out d) ≤ length (out x)) × ((x.chunks ≡ later) ⊎ ((length x.chunks ≡ suc (length later)) × (x.full ≡ true) × (length (out x) ≡ length d.sent + length b)))

  moved_on : length (out d) ≤ length (d.sent ++ take r.copy.pos r.buf)
  moved_on =
      let p = called.within in
      let a = called.ahead in
      omega (arith, called.size, out-length d.sent b k.writer.offset (inside k (length b) f.sound), out-length d.sent r.buf r.copy.pos (omega (arith, called.size)))

  move : (a : copying.Said) → Final a r.copy r.used c (length b) → Moves (fed d c later (said_in a) (record { used = r.used; said = said_in a; copier = k'; buf = r.buf }))
  move copying.full h =
      (moved_on, inr (refl, refl, out-length d.sent r.buf r.copy.pos (omega (arith, called.size, h.0)) ∙ ap (λ (n : ℕ). length d.sent + n) h.0))
  move (copying.verdict v) h = (moved_on, inl refl)
  move copying.invalid h = (moved_on, inl refl)
  move copying.unfinished h = absurd h

  feed_moves : Moves (fed d c later (copied k c b).said (copied k c b))
  feed_moves = by_feed Moves (λ h. (omega arith, inl refl)) (λ a n h. move a h)

  -- the buffer stays as long as it was
  size_by : (a : copying.Said) → Final a r.copy r.used c (length b) → length (fed d c later (said_in a) (record { used = r.used; said = said_in a; copier = k'; buf = r.buf })).buf ≡ length b
  size_by copying.full h = called.size
  size_by (copying.verdict v) h = called.size
  size_by copying.invalid h = called.size
  size_by copying.unfinished h = absurd h

  feed_size : length (fed d c later (copied k c b).said (copied k c b)).buf ≡ length b
  feed_size = by_feed (λ x. length x.buf ≡ length b) (λ h. refl) (λ a n h. size_by a h)

  -- At "full" a byte is owed: what is out is less than the message's events come to, `more` standing behind this chunk.
  abbrev pub Less : List ℕ → Desk → Type 0
  Less more x = x.full ≡ true → (s.unread ≡ []) × (length (out x) < length reserved + length (encode_events 0 (events_of base (s.read ++ (c ++ more)))))

  less_by : (more : List ℕ) (a : copying.Said) → s.unread ≡ [] → Final a r.copy r.used c (length b)
      → Less more (fed d c later (said_in a) (record { used = r.used; said = said_in a; copier = k'; buf = r.buf }))
  less_by more copying.full z h x =
      let cut : (s.read ++ take r.used c) ++ (drop r.used c ++ more) ≡ s.read ++ (c ++ more) =
      append_assoc s.read (take r.used c) (drop r.used c ++ more)
      ∙ ap (λ (l : List ℕ). s.read ++ l) (sym (append_assoc (take r.used c) (drop r.used c) more) ∙ ap (λ (l : List ℕ). l ++ more) (take-append-drop r.used c)) in
      let out' : List ℕ = d.sent ++ take r.copy.pos r.buf in (
        z,
        subst (λ (l : List ℕ). length out' < length reserved + length (encode_events 0 (events_of base l))) cut
            (wants_bound base reserved (s.read ++ take r.used c) (drop r.used c) more out' r.copy called.keeps h.1),
      )
  less_by more (copying.verdict v) z h x = absurd cc
  less_by more copying.invalid z h x = absurd cc
  less_by more copying.unfinished z h x = absurd h

  feed_less : (more : List ℕ) → Less more (fed d c later (copied k c b).said (copied k c b))
  feed_less more = by_feed (Less more) (λ h x. absurd cc) (λ a n h. less_by more a (s.live n) h)

fine_feeding : (reserved : List ℕ) (cs : List (List ℕ)) (d : Desk) (l : List (List ℕ)) → Fine reserved cs d → d.chunks ≡ l → Fine reserved cs (feeding d l)
unfolding feeding
fine_feeding reserved cs d [] f e = f
fine_feeding reserved cs d (c ∷ later) f e =
    by_feed reserved cs d c later f e (Fine reserved cs) (again reserved cs d c later f e) (λ a n h. by_answer reserved cs d c later f e a (f.stands.live n) h)

pub same_size : (reserved : List ℕ) (cs : List (List ℕ)) (d : Desk) (l : List (List ℕ)) → Fine reserved cs d → d.chunks ≡ l → length (feeding d l).buf ≡ length d.buf
unfolding feeding
same_size reserved cs d [] f e = refl
same_size reserved cs d (c ∷ later) f e = feed_size reserved cs d c later f e

pub moves : (reserved : List ℕ) (cs : List (List ℕ)) (d : Desk) (c : List ℕ) (later : List (List ℕ)) → (f : Fine reserved cs d) → (e : d.chunks ≡ c ∷ later)
    → Moves reserved cs d c later f e (act feed d)
unfolding act feeding
moves reserved cs d c later f e = subst (λ (l : List (List ℕ)). Moves reserved cs d c later f e (feeding d l)) (sym e) (feed_moves reserved cs d c later f e)

pub less : (reserved : List ℕ) (cs : List (List ℕ)) (d : Desk) (c : List ℕ) (later : List (List ℕ)) → (f : Fine reserved cs d) → (e : d.chunks ≡ c ∷ later) → (more : List ℕ)
    → Less reserved cs d c later f e more (act feed d)
unfolding act feeding
less reserved cs d c later f e more = subst (λ (l : List (List ℕ)). Less reserved cs d c later f e more (feeding d l)) (sym e) (feed_less reserved cs d c later f e more)

-- a feed sends nothing, and counts no drain
fed_sends : (d : Desk) (c : List ℕ) (cs : List (List ℕ)) (a : Said) (r : Outcome) → ((fed d c cs a r).sent ≡ d.sent) × ((fed d c cs a r).drains ≡ d.drains)
fed_sends d c cs full r = (refl, refl)
fed_sends d c cs (verdict v) r = (refl, refl)
fed_sends d c cs (calls.Said.number n) r = (refl, refl)

pub feed_sends : (d : Desk) → ((act feed d).sent ≡ d.sent) × ((act feed d).drains ≡ d.drains)
unfolding act feeding
feed_sends d = go d.chunks
  where
    go : (l : List (List ℕ)) → ((feeding d l).sent ≡ d.sent) × ((feeding d l).drains ≡ d.drains)
    go [] = (refl, refl)
    go (c ∷ l) = fed_sends d c l (copied d.copier c d.buf).said (copied d.copier c d.buf)

-- ---- a drain, and another buffer

-- what a drain counts for
either : (x y z : Bool) → (x || (y && z)) ≡ true → (x ≡ true) ⊎ (z ≡ true)
either true y z h = inl refl
either false true z h = inr h
either false false z h = absurd cc

-- a counted drain sends a byte at least
sends_one : (reserved : List ℕ) (cs : List (List ℕ)) (d : Desk) → Fine reserved cs d → counts d ≡ true → 1 ≤ d.copier.writer.offset
sends_one reserved cs d f c = go (either d.full (none d.chunks) _ c)
  where
    go : (d.full ≡ true) ⊎ (ltb 0 d.copier.writer.offset ≡ true) → 1 ≤ d.copier.writer.offset
    go (inl e) = omega (arith, f.filled e, f.room)
    go (inr e) = ltb-true 0 d.copier.writer.offset e

fine_sending : (reserved : List ℕ) (cs : List (List ℕ)) (d : Desk) (b : List ℕ) → Fine reserved cs d → 1 ≤ length b
    → Fine reserved cs (sending d (bytes d.copier.writer.offset) (over d.copier (at d.copier.writer 0)) b)
fine_sending reserved cs d b f h =
    let s = f.stands in
    let k : Copier = over d.copier (at d.copier.writer 0) in
    let y : Sound k (length b) = moved-sound d.copier (length d.buf) 0 (length b) f.sound (omega arith) in
    let n = out-length d.sent d.buf d.copier.writer.offset (inside d.copier (length d.buf) f.sound) in
    record {
      stands =
          record {
            done = s.done;
            begun = s.begun;
            chunks = s.chunks;
            read = s.read;
            unread = s.unread;
            handed = s.handed;
            live = s.live;
            count = s.count;
            keeps =
                record {
                  events = s.keeps.events;
                  follows = s.keeps.follows;
                  bytes = ap (λ (l : List ℕ). l ++ rest (copy_of k).owed) (append-nil (out d)) ∙ s.keeps.bytes;
                };
            settled = s.settled;
            heard = s.heard;
            sound = sound_is k (length b) y;
          };
      sound = y;
      room = h;
      bytes = f.bytes;
      filled = λ w. absurd cc;
      few = go (counts d) refl n;
      ahead = subst (λ (l : List ℕ). length reserved ≤ length l) (sym (append-nil (out d))) f.ahead;
    }
  where
    go : (t : Bool) → counts d ≡ t → {n : ℕ} → n ≡ length d.sent + d.copier.writer.offset → pick t 1 0 + d.drains ≤ n
    go true e q = omega (arith, sends_one reserved cs d f e, f.few)
    go false e q = omega (arith, f.few)

fine_drain : (reserved : List ℕ) (cs : List (List ℕ)) (d : Desk) → Fine reserved cs d → Fine reserved cs (act drain d)
unfolding act
fine_drain reserved cs d f =
    subst (λ (r : Sent). Fine reserved cs (sending d r.sends r.copier d.buf)) (sym (drain_is d.copier (length d.buf) f.sound.writer))
    (fine_sending reserved cs d d.buf f f.room)

fine_change : (reserved : List ℕ) (cs : List (List ℕ)) (d : Desk) (b : List ℕ) → Fine reserved cs d → Fine reserved cs (act (change b) d)
unfolding act
fine_change reserved cs d b f = go (leb (length b) 0) refl
  where
    go : (t : Bool) → leb (length b) 0 ≡ t
        → Fine reserved cs (sending d (changed d.copier (length d.buf) (length b) 0).sends (changed d.copier (length d.buf) (length b) 0).copier b)
    go true e =
        subst (λ (r : Sent). Fine reserved cs (sending d r.sends r.copier b)) (sym (change_unfit d.copier (length d.buf) (length b) 0 (leb-true (length b) 0 e))) f
    go false e =
        subst (λ (r : Sent). Fine reserved cs (sending d r.sends r.copier b))
        (sym (change_is d.copier (length d.buf) (length b) 0 f.sound.writer (leb-false (length b) 0 e)))
        (fine_sending reserved cs d b f (leb-false (length b) 0 e))

-- ---- any acts

-- a call refused with 5 or 6 leaves the desk as it was
pub stray_is : (x : Stray) (d : Desk) → MayStand (stray x) d → act (stray x) d ≡ d
unfolding act
stray_is x d h = ap (holding d) (stray_back x d.copier h)

pub fine_act : (reserved : List ℕ) (cs : List (List ℕ)) (a : Act) (d : Desk) → MayStand a d → Fine reserved cs d → Fine reserved cs (act a d)
unfolding act
fine_act reserved cs feed d h f = fine_feeding reserved cs d d.chunks f refl
fine_act reserved cs drain d h f = fine_drain reserved cs d f
fine_act reserved cs (change b) d h f = fine_change reserved cs d b f
fine_act reserved cs (stray x) d h f = subst (Fine reserved cs) (sym (stray_is x d h)) f

pub fine_acts : (reserved : List ℕ) (cs : List (List ℕ)) (as' : List Act) (d : Desk) → Allowed as' d → Fine reserved cs d → Fine reserved cs (acts as' d)
unfolding acts
fine_acts reserved cs [] d h f = f
fine_acts reserved cs (a ∷ as') d h f = fine_acts reserved cs as' (act a d) h.1 (fine_act reserved cs a d h.0 f)

-- ---- from the start

pub fine_fresh : (offset : ℕ) (b : List ℕ) (cs : List (List ℕ)) → offset < length b → All Bytes cs → (k : Copier) → k ≡ fresh_over (opened offset) → Sound k (length b)
    → Fine (take offset b) cs (record { copier = k; buf = b; sent = []; chunks = cs; read = 0; heard = []; full = false; drains = 0 })
unfolding opened rest encode_events verdicts_of join
fine_fresh offset b cs h a k e s =
    let o : k.writer.offset ≡ offset = ap (λ (k : Copier). k.writer.offset) e in
    let w : rest (copy_of k).owed ≡ [] = ap (λ (k : Copier). rest (copy_of k).owed) e in
    let p : take k.writer.offset b ≡ take offset b = ap (λ (n : ℕ). take n b) o in
    record {
      stands =
          record {
            done = [];
            begun = [];
            chunks = sym (whole-none cs);
            read = [];
            unread = [];
            handed = refl;
            live = λ z. refl;
            count = refl;
            keeps =
                record {
                  events = [];
                  follows = subst (λ (k : Copier). Follows base [] [] (state_of k.reader)) (sym e) (fresh_follows base);
                  bytes = ap (λ (l : List ℕ). take k.writer.offset b ++ l) w ∙ ap (λ (l : List ℕ). l ++ []) p;
                };
            settled = λ z. (refl, w);
            heard = refl;
            sound = sound_is k (length b) s;
          };
      sound = s;
      room = omega arith;
      bytes = a;
      filled = λ z. absurd cc;
      few = omega arith;
      ahead = omega (arith, ap length p);
    }
