-- What is read at once is what reading byte by byte comes to: a varint by its bytes, an event where a call stops, and a call by its state.
use mathlib.Core.Path.{◌≡◌, refl, sym, ap, ◌∙◌, subst}
use mathlib.Core.Bool.{true, ◌&&◌}
use mathlib.Core.List.{List, [], ◌∷◌}
use Prim.Native.Nat.{ℕ, suc, ◌+◌, ◌-◌, ◌/◌, ◌%◌, ◌^◌, ◌<◌, ◌≤◌}
use native.Mathlib.Omega.{arith}
use lib.ListN.{length, get_or, drop}
use lib.Seq.{drop-cons}
use borrow.Author.Tests.{le-leb}
use Rattle.std.specs.Prelude.{Option, Some, None}
use Rattle.layout.specs.Limits.{Limits}
use Rattle.layout.specs.Varint as varints
use Rattle.layout.specs.Field.{Wire, subtype_of, wire_of, t_begin, t_end}
use Rattle.layout.specs.Zigzag.{unzigzag}
use Rattle.layout.specs.Event as layout
use Rattle.machine.specs.Machine as machine
use Rattle.machine.specs.Machine.{in_header, in_unsigned, in_signed, in_word, idle, next_or, first_or, on, bad, within, step, at_wire, at_header, at_subtype, at_word, at_unsigned, at_signed}
use Rattle.machine.specs.Calls.{Called, State, reading, call, scan, scanned, verdict_so}
use Rattle.varint.specs.declared.Acc.{Acc}
use Rattle.varint.specs.declared.Push.{Push}
use Rattle.varint.specs.declared.Push.TheVariants.{More, Value}
use Rattle.varint.specs.Varint.{Sound, start, sound_acc, pushed, unanswer}
use Rattle.varint.proofs.Laws as varint
use Rattle.varint.proofs.Laws.{layout_step, sound-start, sound_more}
use Rattle.event.specs.declared.Event.TheVariants as Events
use Rattle.phase.specs.declared.Phase.{Phase}
use Rattle.phase.specs.declared.Phase.TheVariants.{Header, Unsigned, Signed}
use Rattle.read_at_once.specs.declared.Once.{Once}
use Rattle.read_at_once.specs.declared.Once.TheVariants as Onces
use Rattle.phase.specs.declared.Stepped as given
use Rattle.phase.specs.declared.Stepped.TheVariants.{Raised}
use Rattle.phase.specs.Phases.{state_at, phase_in, carried_at, id_in, count_in, sound_phase}
use Rattle.phase.specs.Steps.{stepped, covered}
use Rattle.phase.specs.Sound.{Kept}
use Rattle.read_at_once.specs.AtOnce.{Varying, read_on, Reads, Right, spent_at, RightFrom, raised_of}
use Rattle.phase.proofs.Phases.{next_first, both}
use Rattle.phase.proofs.Keeps.{wire_keeps, subtype_keeps}
use Rattle.phase.proofs.Scans.{scan_byte}

-- ---- a varint

-- at a place, after the bytes from the first one on: whatever takes the varint is as far as these have come to
pub record Under (L : Limits) (c : List ℕ) (first at : ℕ) (a : Acc) : Type 0 where
  pub sound : Sound L a
  pub under : (d : ℕ) (P : ℕ → ℕ → machine.Phase) (F : ℕ → machine.Stepped) → Varying L d P F → scan L first d (P 0 0) (drop first c) ≡ scan L at d (P a.taken a.value) (drop at c)

pub under_start : (L : Limits) (c : List ℕ) (first : ℕ) (a : Acc) → a ≡ start → Under L c first first a
under_start L c first a e = subst (Under L c first first) (sym e) (record { sound = sound-start L; under = λ d P F w. refl })

module _ {L : Limits} {c : List ℕ} {first at : ℕ} {a : Acc} (u : Under L c first at a) (h : at < length c) where
  -- the next byte, and what the push makes of it
  next : (d : ℕ) (P : ℕ → ℕ → machine.Phase) (F : ℕ → machine.Stepped) (w : Varying L d P F) (q : Push) → pushed L a (get_or c at 0) ≡ q
      → scan L first d (P 0 0) (drop first c) ≡ scanned (suc at) (within d (unanswer q) P F) (λ d' p'. scan L (suc at) d' p' (drop (suc at) c))
  next d P F w q e =
      u.under d P F w
      ∙ ap (scan L at d (P a.taken a.value)) (drop-cons c at 0 h)
      ∙ scan_byte L at d (P a.taken a.value) (get_or c at 0) (drop (suc at) c) (w.paced a.taken a.value)
      ∙ ap (λ (m : machine.Stepped). scanned (suc at) m (λ d' p'. scan L (suc at) d' p' (drop (suc at) c)))
      (w.steps a.taken a.value (get_or c at 0) ∙ ap (λ (x : varints.Push). within d x P F) (layout_step L a (get_or c at 0) u.sound ∙ ap unanswer e))

  pub under_more : (x : Acc) → pushed L a (get_or c at 0) ≡ More x → Under L c first (at + 1) x
  unfolding scanned within
  under_more x e =
      let i : suc at ≡ at + 1 = omega arith in
      record {
        sound = sound_more L a (get_or c at 0) x u.sound e;
        under = λ d P F w. next d P F w (More x) e ∙ ap (λ (n : ℕ). scan L n d (P x.taken x.value) (drop n c)) i;
      }

  pub under_value : (v n : ℕ) → n ≡ at + 1 → pushed L a (get_or c at 0) ≡ Value v → Reads L c first v n
  unfolding within
  under_value v n f e =
      let i : suc at ≡ n = omega arith in
      record {
        within-chunk = omega arith;
        reads = λ d P F w. next d P F w (Value v) e ∙ ap (λ (m : ℕ). read_on L c m (F v)) i;
      }

-- ---- what takes a varint

at-header : (L : Limits) (d : ℕ) → Varying L d in_header (at_header L d)
unfolding step
at-header L d = record { paced = λ k v. refl; steps = λ k v b. refl }

at_unsigned_lem : (L : Limits) (d id left : ℕ) → Varying L d (in_unsigned id left) (at_unsigned d id left)
unfolding step
at_unsigned_lem L d id left = record { paced = λ k v. refl; steps = λ k v b. refl }

at-signed : (L : Limits) (d id left : ℕ) → Varying L d (in_signed id left) (at_signed d id left)
unfolding step
at-signed L d id left = record { paced = λ k v. refl; steps = λ k v b. refl }

at-word : (L : Limits) (d id : ℕ) → Varying L d (in_word id) (at_word L d id)
unfolding step
at-word L d id = record { paced = λ k v. refl; steps = λ k v b. refl }

-- ---- an event

-- where a byte raised an event, the call stops there
raised_right : (L : Limits) (n : ℕ) (m : machine.Stepped) (f : ℕ → machine.Phase → Called) → Kept L m → Right (raised_of n (stepped m)) (scanned n m f)
unfolding scanned
raised_right L n (on [] d p) f k = tt
raised_right L n (on (e ∷ es) d p) f k = record { event = e; answered = refl; raised = sym (k.0 (n - covered e)); read = refl; phase = refl; carried = refl }
raised_right L n bad f k = tt

-- likewise the code's answer q, x being what the call comes to
stops : (L : Limits) (n : ℕ) (m : machine.Stepped) (f : ℕ → machine.Phase → Called) (x : Called) (s : Option given.Stepped) (q : Option Once) → Kept L m → x ≡ scanned n m f → s ≡ stepped m → q ≡ raised_of n s → Right q x
stops L n m f x s q k e g h =
    subst (Right q) (sym e)
    (subst (λ (z : Option Once). Right z (scanned n m f)) (sym (h ∙ ap (raised_of n) g)) (raised_right L n m f k))

-- a number
unsigned_stops : (L : Limits) (c : List ℕ) (at d id left v n : ℕ) (p : Phase) (q : Option Once) → Reads L c at v n → p ≡ phase_in (next_or left (λ m. in_unsigned id m 0 0)) → q ≡ raised_of n (Some (Raised (Events.Unsigned id v) p (carried_at d)))
    → Right q (scan L at d (in_unsigned id left 0 0) (drop at c))
unfolding scanned at_unsigned
unsigned_stops L c at d id left v n p q r e h =
    subst (λ (z : Option Once). Right z (scan L at d (in_unsigned id left 0 0) (drop at c))) (sym h)
    (subst (Right (Some (Onces.Done p (carried_at d) (Events.Unsigned id v) n))) (sym (r.reads d (in_unsigned id left) (at_unsigned d id left) (at_unsigned_lem L d id left)))
    (record { event = layout.Unsigned id v; answered = refl; raised = refl; read = refl; phase = e; carried = refl }))

signed_stops : (L : Limits) (c : List ℕ) (at d id left v n : ℕ) (p : Phase) (q : Option Once) → Reads L c at v n → p ≡ phase_in (next_or left (λ m. in_signed id m 0 0)) → q ≡ raised_of n (Some (Raised (Events.Signed id (unzigzag v)) p (carried_at d)))
    → Right q (scan L at d (in_signed id left 0 0) (drop at c))
unfolding scanned at_signed
signed_stops L c at d id left v n p q r e h =
    subst (λ (z : Option Once). Right z (scan L at d (in_signed id left 0 0) (drop at c))) (sym h)
    (subst (Right (Some (Onces.Done p (carried_at d) (Events.Signed id (unzigzag v)) n))) (sym (r.reads d (in_signed id left) (at_signed d id left) (at-signed L d id left)))
    (record { event = layout.Signed id (unzigzag v); answered = refl; raised = refl; read = refl; phase = e; carried = refl }))

-- an element, or a scalar whose header is read
pub unsigned_element : (L : Limits) (c : List ℕ) (d id left v n : ℕ) (p : Phase) (q : Option Once) → Reads L c 0 v n → p ≡ phase_in (first_or (left - 1) (λ m. in_unsigned id m 0 0)) → q ≡ raised_of n (Some (Raised (Events.Unsigned id v) p (carried_at d)))
    → Right q (call L (reading d (in_unsigned id left 0 0)) c)
unfolding call
unsigned_element L c d id left v n p q r e h = unsigned_stops L c 0 d id left v n p q r (e ∙ ap phase_in (next_first left (λ m. in_unsigned id m 0 0))) h

pub signed_element : (L : Limits) (c : List ℕ) (d id left v n : ℕ) (p : Phase) (q : Option Once) → Reads L c 0 v n → p ≡ phase_in (first_or (left - 1) (λ m. in_signed id m 0 0)) → q ≡ raised_of n (Some (Raised (Events.Signed id (unzigzag v)) p (carried_at d)))
    → Right q (call L (reading d (in_signed id left 0 0)) c)
unfolding call
signed_element L c d id left v n p q r e h = signed_stops L c 0 d id left v n p q r (e ∙ ap phase_in (next_first left (λ m. in_signed id m 0 0))) h

-- ---- what follows a header

module _ (L : Limits) (c : List ℕ) (at d id wire v n : ℕ) (q : Option Once) (r : Reads L c at v n) where
  abbrev After : ℕ → Type 0
  After w = Right q (read_on L c at (at_wire L d id (wire_of w)))

  pub unsigned_after : (p : Phase) → wire ≡ 0 → p ≡ phase_in idle → q ≡ raised_of n (Some (Raised (Events.Unsigned id v) p (carried_at d))) → After wire
  unfolding scanned
  unsigned_after p w e h = subst After (sym w) (unsigned_stops L c at d id 0 v n p q r e h)

  pub signed-after : (p : Phase) → wire ≡ 1 → p ≡ phase_in idle → q ≡ raised_of n (Some (Raised (Events.Signed id (unzigzag v)) p (carried_at d))) → After wire
  unfolding scanned
  signed-after p w e h = subst After (sym w) (signed_stops L c at d id 0 v n p q r e h)

  pub word_after : (s : Option given.Stepped) → wire ≡ 2 → d ≤ L.depth → id ≤ L.id → s ≡ stepped (at_subtype L d id (v / 8) (subtype_of (v % 8))) → q ≡ raised_of n s → After wire
  unfolding scanned at_word
  word_after s w l i e h =
      subst After (sym w)
      (stops L n (at_word L d id v) (λ d' p'. scan L n d' p' (drop n c)) (scan L at d (in_word id 0 0) (drop at c)) s q (subtype_keeps L d id (v / 8) (subtype_of (v % 8)) l i) (r.reads d (in_word id) (at_word L d id) (at-word L d id)) e h)

-- ---- a header

module _ (L : Limits) (c : List ℕ) (d h n : ℕ) (r : Reads L c 0 h n) (l : h / 8 ≤ L.id) where
  header_read : call L (reading d idle) c ≡ read_on L c n (at_wire L d (h / 8) (wire_of (h % 8)))
  unfolding call at_header
  header_read = r.reads d in_header (at_header L d) (at-header L d) ∙ ap (read_on L c n) (simp (le-leb _ _ l))

  pub after-header : (q : Option Once) → Right q (read_on L c n (at_wire L d (h / 8) (wire_of (h % 8)))) → Right q (call L (reading d idle) c)
  after-header q a = subst (Right q) (sym header_read) a

  at_wire_lem : (w : Wire) (s : Option given.Stepped) (q : Option Once) → wire_of (h % 8) ≡ w → d ≤ L.depth → s ≡ stepped (at_wire L d (h / 8) w) → q ≡ raised_of n s → Right q (call L (reading d idle) c)
  at_wire_lem w s q e b f g =
      stops L n (at_wire L d (h / 8) w) (λ d' p'. scan L n d' p' (drop n c)) (call L (reading d idle) c) s q (wire_keeps L d (h / 8) w b l) (header_read ∙ ap (λ (x : Wire). read_on L c n (at_wire L d (h / 8) x)) e) f g

  pub begin_read : (s : Option given.Stepped) (q : Option Once) → h % 8 ≡ 6 → d ≤ L.depth → s ≡ stepped (at_wire L d (h / 8) t_begin) → q ≡ raised_of n s → Right q (call L (reading d idle) c)
  begin_read s q e b f g = at_wire_lem t_begin s q (ap wire_of e) b f g

  pub end_read : (s : Option given.Stepped) (q : Option Once) → h % 8 ≡ 7 → d ≤ L.depth → s ≡ stepped (at_wire L d 0 t_end) → q ≡ raised_of n s → Right q (call L (reading d idle) c)
  end_read s q e b f g = at_wire_lem t_end s q (ap wire_of e) b f g

-- ---- a call, from a phase that has passed its test

-- no byte is taken, so that nothing is held
none_held : (L : Limits) (a : Acc) → a.taken ≡ 0 → sound_acc L a ≡ true → a ≡ start
none_held L a e t =
    let s = varint.is_sound L a t in
    let f : a.value < 1 = subst (λ (k : ℕ). a.value < 128 ^ k) e s.small in
    let z : a.value ≡ 0 = omega arith in
    λ i. record { value = z i; taken = e i }

-- the phase that the code has tested is the one that it was given
tested : (L : Limits) (p from : Phase) (d : ℕ) (c : List ℕ) (st : State) (q : Option Once) → p ≡ from → sound_phase L from ≡ true → state_at d from ≡ st → Right q (call L st c) → RightFrom L d p q c
tested L p from d c st (Some (Onces.Done p' k e n)) f t g r =
    (ap (sound_phase L) f ∙ t, subst (λ (x : State). Right (Some (Onces.Done p' k e n)) (call L x c)) (sym (ap (state_at d) f ∙ g)) r)
tested L p from d c st (Some Onces.Spent) f t g r = absurd r
tested L p from d c st None f t g r = tt

-- a phase that is read on, and a chunk that has no byte
spent : (L : Limits) (p from : Phase) (d : ℕ) (c : List ℕ) (q : machine.Phase) → p ≡ from → sound_phase L from ≡ true → state_at d from ≡ reading d q → length c ≡ 0 → RightFrom L d p (Some Onces.Spent) c
unfolding call scan verdict_so
spent L p from d [] q f t g z =
    (ap (sound_phase L) f ∙ t, subst (λ (x : State). call L x [] ≡ spent_at x) (sym (ap (state_at d) f ∙ g)) refl)
spent L p from d (b ∷ bs) q f t g z = absurd (omega arith)

pub from_header : (L : Limits) (p : Phase) (d : ℕ) (c : List ℕ) (a : Acc) (q : Option Once) → p ≡ Header a → a.taken ≡ 0 → sound_acc L a ≡ true → Right q (call L (reading d idle) c) → RightFrom L d p q c
from_header L p d c a q e z t r = tested L p (Header a) d c _ q e t (ap (λ (x : Acc). state_at d (Header x)) (none_held L a z t)) r

-- of an element's test, what it says of the varint
varint-sound : (L : Limits) (id left : ℕ) (a : Acc) → (id_in L id && (count_in L left && sound_acc L a)) ≡ true → sound_acc L a ≡ true
varint-sound L id left a t = (both (count_in L left) (sound_acc L a) (both (id_in L id) (count_in L left && sound_acc L a) t).1).1

pub from_unsigned : (L : Limits) (p : Phase) (d : ℕ) (c : List ℕ) (id left : ℕ) (a : Acc) (q : Option Once) → p ≡ Unsigned id left a → a.taken ≡ 0 → (id_in L id && (count_in L left && sound_acc L a)) ≡ true
    → Right q (call L (reading d (in_unsigned id left 0 0)) c) → RightFrom L d p q c
from_unsigned L p d c id left a q e z t r =
    tested L p (Unsigned id left a) d c _ q e t (ap (λ (x : Acc). state_at d (Unsigned id left x)) (none_held L a z (varint-sound L id left a t))) r

pub from_signed : (L : Limits) (p : Phase) (d : ℕ) (c : List ℕ) (id left : ℕ) (a : Acc) (q : Option Once) → p ≡ Signed id left a → a.taken ≡ 0 → (id_in L id && (count_in L left && sound_acc L a)) ≡ true
    → Right q (call L (reading d (in_signed id left 0 0)) c) → RightFrom L d p q c
from_signed L p d c id left a q e z t r =
    tested L p (Signed id left a) d c _ q e t (ap (λ (x : Acc). state_at d (Signed id left x)) (none_held L a z (varint-sound L id left a t))) r

pub spent_header : (L : Limits) (p : Phase) (d : ℕ) (c : List ℕ) (a : Acc) → p ≡ Header a → sound_acc L a ≡ true → length c ≡ 0 → RightFrom L d p (Some Onces.Spent) c
spent_header L p d c a e t z = spent L p (Header a) d c _ e t refl z

pub spent_unsigned : (L : Limits) (p : Phase) (d : ℕ) (c : List ℕ) (id left : ℕ) (a : Acc) → p ≡ Unsigned id left a → (id_in L id && (count_in L left && sound_acc L a)) ≡ true → length c ≡ 0 → RightFrom L d p (Some Onces.Spent) c
spent_unsigned L p d c id left a e t z = spent L p (Unsigned id left a) d c _ e t refl z

pub spent_signed : (L : Limits) (p : Phase) (d : ℕ) (c : List ℕ) (id left : ℕ) (a : Acc) → p ≡ Signed id left a → (id_in L id && (count_in L left && sound_acc L a)) ≡ true → length c ≡ 0 → RightFrom L d p (Some Onces.Spent) c
spent_signed L p d c id left a e t z = spent L p (Signed id left a) d c _ e t refl z
