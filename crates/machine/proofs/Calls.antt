-- One call: the bytes that it reads lead where its state stands, and the event that it gives, with the one due, is theirs.
use Prim.Native.Nat.{ℕ, zero, suc, ◌+◌, ◌-◌, ◌*◌, ◌/◌, ◌%◌, ◌<◌, ◌≤◌, min}
use native.Mathlib.Nat.{not-suc-le-zero}
use native.Mathlib.Omega.{arith}
use mathlib.Core.Path.{◌≡◌, refl, sym, ap, ◌∙◌, subst}
use mathlib.Core.Bool.{Bool, true, false}
use mathlib.Core.List.{List, [], ◌∷◌, ◌++◌, append_assoc, append-nil}
use lib.ListN.{length, take, length-take}
use lib.Dec.{ltb, leb, eqb}
use borrow.Author.Tests.{ltb-true, ltb-false, lt-ltb}
use Rattle.layout.specs.Limits.{Limits, pick}
use Rattle.layout.specs.Varint.{Push, more, value, overrun, push}
use Rattle.layout.specs.Field.{Raw, Subtyped, Wire, bytes_of, subtype_of, wire_of, float, raw, known, unknown}
use Rattle.layout.specs.Field.{t_unsigned, t_signed, t_fixlen, t_unsigneds, t_signeds, t_floats, t_begin, t_end}
use Rattle.layout.specs.Event.{Event, Piece, cut_from, cut_piece, cut, bytewise}
use Rattle.layout.specs.Message.{Verdict}
use Rattle.machine.specs.Machine.{Phase, in_header, in_unsigned, in_signed, in_word, in_unsigned_count, in_signed_count, in_float_count, in_array_word, in_float, in_payload}
use Rattle.machine.specs.Machine.{idle, Stepped, on, bad, at_wire, at_header, at_payload, at_subtype, at_word, at_unsigned_count, at_signed_count, at_float_count}
use Rattle.machine.specs.Machine.{at_element, at_array_word, at_unsigned, at_signed, within, at_float, at_byte, step, Spot, at, broken_before, Walk, onward, walk, walk_on}
use Rattle.machine.specs.Calls.{State, reading, owing, broke, Said, event, verdict, invalid, Called, verdict_at, piece, raised_state, scanned, scan, call}
use Rattle.machine.specs.Run.{given, due, spot_of, Follows}
use Rattle.machine.proofs.Bridge.{Fair, FairStep, fair_step}
use Rattle.machine.proofs.Prefix.{and_on, walk-append}

-- ---- pieces cut into bytes

pub bytewise-append : (xs ys : List Event) → bytewise (xs ++ ys) ≡ bytewise xs ++ bytewise ys
unfolding bytewise
bytewise-append [] ys = refl
bytewise-append (x ∷ xs) ys = ap (λ (l : List Event). cut x ++ l) (bytewise-append xs ys) ∙ sym (append_assoc (cut x) (bytewise xs) (bytewise ys))

-- ---- a byte that is no payload's

-- Of what it raises the first is the answer and no piece, and a second is due after it.
abbrev Tidy : Stepped → Type 0
Tidy (on [] d p) = Unit {0}
Tidy (on (e ∷ es) d p) = (cut e ≡ e ∷ []) × (due (raised_state d p es) ≡ es) × (spot_of (raised_state d p es) ≡ at d p)
Tidy bad = Unit {0}

tidy_pick : (t : Bool) (s s' : Stepped) → Tidy s → Tidy s' → Tidy (pick t s s')
tidy_pick true s s' h h' = h
tidy_pick false s s' h h' = h'

tidy_within : (d : ℕ) (q : Push) (p : ℕ → ℕ → Phase) (g : ℕ → Stepped) → ((x : ℕ) → Tidy (g x)) → Tidy (within d q p g)
unfolding within
tidy_within d (more k v) p g h = tt
tidy_within d (value x) p g h = h x
tidy_within d overrun p g h = tt

tidy_wire : (L : Limits) (d id : ℕ) (t : Wire) → Tidy (at_wire L d id t)
unfolding cut
tidy_wire L d id t_unsigned = tt
tidy_wire L d id t_signed = tt
tidy_wire L d id t_fixlen = tt
tidy_wire L d id t_unsigneds = tt
tidy_wire L d id t_signeds = tt
tidy_wire L d id t_floats = tt
tidy_wire L d id t_begin = tidy_pick (ltb d L.depth) _ bad (refl, refl, refl) tt
tidy_wire L d id t_end = tidy_pick (eqb d 0) bad _ tt (refl, refl, refl)

tidy_payload : (d id : ℕ) (r : Raw) (m : ℕ) → Tidy (at_payload d id r m)
unfolding cut
tidy_payload d id r zero = (refl, refl, refl)
tidy_payload d id r (suc m) = (refl, refl, refl)

tidy_subtype : (L : Limits) (d id m : ℕ) (s : Subtyped) → Tidy (at_subtype L d id m s)
unfolding cut
tidy_subtype L d id m (known (float w)) = tidy_pick (eqb m (bytes_of w)) _ bad (refl, refl, refl) tt
tidy_subtype L d id m (known (raw r)) = tidy_pick (leb m L.size) _ bad (tidy_payload d id r m) tt
tidy_subtype L d id m unknown = tt

tidy_element : (d id c m : ℕ) (s : Subtyped) → Tidy (at_element d id c m s)
unfolding cut
tidy_element d id c m (known (float w)) = tidy_pick (eqb m (bytes_of w)) _ bad (refl, refl, refl) tt
tidy_element d id c m (known (raw r)) = tt
tidy_element d id c m unknown = tt

-- the phases of such bytes
abbrev Bytewise : Phase → Type 0
Bytewise (in_header k v) = Unit {0}
Bytewise (in_unsigned id left k v) = Unit {0}
Bytewise (in_signed id left k v) = Unit {0}
Bytewise (in_word id k v) = Unit {0}
Bytewise (in_unsigned_count id k v) = Unit {0}
Bytewise (in_signed_count id k v) = Unit {0}
Bytewise (in_float_count id k v) = Unit {0}
Bytewise (in_array_word id c k v) = Unit {0}
Bytewise (in_float id w left k v) = Unit {0}
Bytewise (in_payload id r total o) = ⊥

tidy_step : (L : Limits) (d : ℕ) (p : Phase) (b : ℕ) → Bytewise p → Tidy (step L d p b)
unfolding step cut at_header at_word at_unsigned_count at_signed_count at_float_count at_array_word at_unsigned at_signed at_float
tidy_step L d (in_header k v) b i = tidy_within d (push L k v b) in_header (at_header L d) (λ h. tidy_pick (leb (h / 8) L.id) _ bad (tidy_wire L d (h / 8) (wire_of (h % 8))) tt)
tidy_step L d (in_unsigned id left k v) b i = tidy_within d (push L k v b) (in_unsigned id left) (at_unsigned d id left) (λ x. (refl, refl, refl))
tidy_step L d (in_signed id left k v) b i = tidy_within d (push L k v b) (in_signed id left) (at_signed d id left) (λ x. (refl, refl, refl))
tidy_step L d (in_word id k v) b i = tidy_within d (push L k v b) (in_word id) (at_word L d id) (λ w. tidy_subtype L d id (w / 8) (subtype_of (w % 8)))
tidy_step L d (in_unsigned_count id k v) b i = tidy_within d (push L k v b) (in_unsigned_count id) (at_unsigned_count L d id) (λ c. tidy_pick (leb c L.count) _ bad (refl, refl, refl) tt)
tidy_step L d (in_signed_count id k v) b i = tidy_within d (push L k v b) (in_signed_count id) (at_signed_count L d id) (λ c. tidy_pick (leb c L.count) _ bad (refl, refl, refl) tt)
tidy_step L d (in_float_count id k v) b i = tidy_within d (push L k v b) (in_float_count id) (at_float_count L d id) (λ c. tidy_pick (leb c L.count) _ bad tt tt)
tidy_step L d (in_array_word id c k v) b i = tidy_within d (push L k v b) (in_array_word id c) (at_array_word d id c) (λ w. tidy_element d id c (w / 8) (subtype_of (w % 8)))
tidy_step L d (in_float id w left k v) b i = tidy_pick (ltb (k + 1) (bytes_of w)) _ _ tt (refl, refl, refl)
tidy_step L d (in_payload id r total o) b i = absurd i

-- ---- a payload's bytes

-- as many bytes as a piece has lead as far as they go, each with its own piece
record Pieced (L : Limits) (d id : ℕ) (r : Raw) (total o : ℕ) (xs : List ℕ) : Type 0 where
  spot : (walk L d (in_payload id r total o) xs).spot ≡ at d (pick (ltb (o + length xs) total) (in_payload id r total (o + length xs)) idle)
  events : (walk L d (in_payload id r total o) xs).events ≡ cut_from id r total o xs

-- a case split that takes recursive calls along
by_end : {A : Type 0} (t : Bool) {u : Bool} → u ≡ t → (u ≡ true → A) → (u ≡ false → A) → A
by_end true e f g = f e
by_end false e f g = g e

piece-more : (L : Limits) (d id : ℕ) (r : Raw) (total o x : ℕ) (xs : List ℕ) → ltb (suc o) total ≡ true → suc o + length xs ≡ o + suc (length xs)
    → Pieced L d id r total (suc o) xs → Pieced L d id r total o (x ∷ xs)
unfolding walk step at_byte onward cut_from
piece-more L d id r total o x xs e n h =
    let after : Stepped → Walk = λ s. onward s xs (λ d' p'. walk L d' p' xs) in
    let s : at_byte d id r total o x ≡ on (Piece id r total o (x ∷ []) ∷ []) d (in_payload id r total (suc o)) =
    ap (λ (t : Bool). on (Piece id r total o (x ∷ []) ∷ []) d (pick t (in_payload id r total (suc o)) idle)) e in
    record {
      spot =
          ap (λ (s : Stepped). (after s).spot) s ∙ h.spot
          ∙ ap (λ (m : ℕ). at d (pick (ltb m total) (in_payload id r total m) idle)) n;
      events = ap (λ (s : Stepped). (after s).events) s ∙ ap (λ (l : List Event). Piece id r total o (x ∷ []) ∷ l) h.events;
    }

piece_last : (L : Limits) (d id : ℕ) (r : Raw) (total o x : ℕ) (xs : List ℕ) → ltb (suc o) total ≡ false → xs ≡ [] → Pieced L d id r total o (x ∷ xs)
unfolding walk step at_byte onward cut_from
piece_last L d id r total o x xs e z =
    let n : suc o ≡ o + 1 = omega arith in
    let s : at_byte d id r total o x ≡ on (Piece id r total o (x ∷ []) ∷ []) d idle =
    ap (λ (t : Bool). on (Piece id r total o (x ∷ []) ∷ []) d (pick t (in_payload id r total (suc o)) idle)) e in
    subst (λ (xs : List ℕ). Pieced L d id r total o (x ∷ xs)) (sym z)
    (record {
      spot =
          ap (λ (s : Stepped). (onward s [] (λ d' p'. walk L d' p' [])).spot) s
          ∙ ap (λ (t : Bool). at d (pick t (in_payload id r total (o + 1)) idle)) (sym (ap (λ (m : ℕ). ltb m total) (sym n) ∙ e));
      events = ap (λ (s : Stepped). (onward s [] (λ d' p'. walk L d' p' [])).events) s;
    })

nothing : (xs : List ℕ) → length xs ≤ 0 → xs ≡ []
nothing [] h = refl
nothing (x ∷ xs) h = absurd (not-suc-le-zero h)

pieced : (L : Limits) (d id : ℕ) (r : Raw) (total o : ℕ) (xs : List ℕ) → o < total → o + length xs ≤ total → Pieced L d id r total o xs
unfolding walk cut_from
pieced L d id r total o [] h l =
    let z : o ≡ o + 0 = omega arith in
    let t : ltb (o + 0) total ≡ true = lt-ltb (o + 0) total (omega arith) in
    record {
      spot = ap (λ (x : ℕ). at d (in_payload id r total x)) z ∙ ap (λ (t : Bool). at d (pick t (in_payload id r total (o + 0)) idle)) (sym t);
      events = refl;
    }
pieced L d id r total o (x ∷ xs) h l =
    by_end (ltb (suc o) total) refl
    (λ e. piece-more L d id r total o x xs e (omega arith) (pieced L d id r total (suc o) xs (ltb-true (suc o) total e) (omega arith)))
    (λ e. piece_last L d id r total o x xs e (nothing xs (omega (arith, ltb-false (suc o) total e))))

-- ---- reading on

-- A verdict comes once the chunk is spent and is that of the spot reached; an event and number 2 come at a byte read.
abbrev pub Judged : State → Verdict → Type 0
Judged (reading d p) v = v ≡ verdict_at d p
Judged (owing d id r) v = ⊥
Judged broke v = ⊥

abbrev pub Ends : Said → State → ℕ → ℕ → Type 0
Ends (event e) s k m = 1 ≤ k
Ends (verdict v) s k m = (k ≡ m) × Judged s v
Ends invalid s k m = (1 ≤ k) × (s ≡ broke)

pub record Scanned (L : Limits) (n d : ℕ) (p : Phase) (bs : List ℕ) (r : Called) : Type 0 where
  pub k : ℕ
  pub read : r.read ≡ n + k
  pub few : k ≤ length bs
  pub spot : (walk L d p (take k bs)).spot ≡ spot_of r.state
  pub events : (walk L d p (take k bs)).events ≡ bytewise (given r.answer) ++ due r.state
  pub ends : Ends r.answer r.state k (length bs)

-- what ends a call ends it one byte later too
one_more : (a : Said) (s : State) (k m : ℕ) → Ends a s k m → Ends a s (suc k) (suc m)
one_more (event e) s k m h = omega arith
one_more (verdict v) s k m h = (ap suc h.0, h.1)
one_more invalid s k m h = (omega arith, h.1)

scanned_is : (L : Limits) (n d : ℕ) (p : Phase) (b : ℕ) (bs : List ℕ) (s : Stepped) → step L d p b ≡ s → Tidy s → FairStep s
    → ((d' : ℕ) (p' : Phase) → Fair p' → Scanned L (suc n) d' p' bs (scan L (suc n) d' p' bs))
    → Scanned L n d p (b ∷ bs) (scanned (suc n) s (λ d' p'. scan L (suc n) d' p' bs))
unfolding scanned walk onward bytewise
scanned_is L n d p b bs (on [] d' p') e t f ih =
    let h = ih d' p' f in
    let first : Stepped → Walk = λ s. onward s (take h.k bs) (λ d'' p''. walk L d'' p'' (take h.k bs)) in
    record {
      k = suc h.k;
      read = omega (arith, h.read);
      few = omega (arith, h.few);
      spot = ap (λ (s : Stepped). (first s).spot) e ∙ h.spot;
      events = ap (λ (s : Stepped). (first s).events) e ∙ h.events;
      ends = one_more (scan L (suc n) d' p' bs).answer (scan L (suc n) d' p' bs).state h.k (length bs) h.ends;
    }
scanned_is L n d p b bs (on (x ∷ xs) d' p') e t f ih =
    let first : Stepped → Walk = λ s. onward s [] (λ d'' p''. walk L d'' p'' []) in
    let one : suc n ≡ n + 1 = omega arith in
    record {
      k = 1;
      read = one;
      few = omega arith;
      spot = ap (λ (s : Stepped). (first s).spot) e ∙ sym t.2;
      events =
          ap (λ (s : Stepped). (first s).events) e ∙ append-nil (x ∷ xs)
          ∙ ap (λ (l : List Event). x ∷ l) (sym t.1)
          ∙ ap (λ (l : List Event). (l ++ []) ++ due (raised_state d' p' xs)) (sym t.0);
      ends = omega arith;
    }
scanned_is L n d p b bs bad e t f ih =
    let first : Stepped → Walk = λ s. onward s [] (λ d'' p''. walk L d'' p'' []) in
    let one : suc n ≡ n + 1 = omega arith in
    record {
      k = 1;
      read = one;
      few = omega arith;
      spot = ap (λ (s : Stepped). (first s).spot) e;
      events = ap (λ (s : Stepped). (first s).events) e;
      ends = (omega arith, refl);
    }

-- a piece of k bytes
piece_is : (L : Limits) (n d id : ℕ) (r : Raw) (total o k : ℕ) (b : ℕ) (bs : List ℕ) → o < total → 1 ≤ k → k ≤ total - o → k ≤ length (b ∷ bs)
    → Scanned L n d (in_payload id r total o) (b ∷ bs) (piece n d id r total o k (b ∷ bs))
unfolding bytewise cut cut_piece
piece_is L n d id r total o zero b bs h one m l = absurd (not-suc-le-zero one)
piece_is L n d id r total o (suc k) b bs h one m l =
    let c : length (take (suc k) (b ∷ bs)) ≡ suc k = length-take (suc k) (b ∷ bs) ∙ omega_min (suc k) (length (b ∷ bs)) l in
    let q = pieced L d id r total o (take (suc k) (b ∷ bs)) h (omega arith) in
    record {
      k = suc k;
      read = refl;
      few = l;
      spot = q.spot ∙ ap (λ (j : ℕ). at d (pick (ltb (o + j) total) (in_payload id r total (o + j)) idle)) c;
      events = q.events ∙ sym (append-nil _ ∙ append-nil _);
      ends = omega arith;
    }
  where
    omega_min : (a m : ℕ) → a ≤ m → min a m ≡ a
    omega_min a m h = omega arith

-- between bytes
scan_nil : (L : Limits) (n d : ℕ) (p : Phase) → Scanned L n d p [] (scan L n d p [])
unfolding scan walk bytewise
scan_nil L n d p = let z : n ≡ n + 0 = omega arith in record { k = 0; read = z; few = omega arith; spot = refl; events = refl; ends = (refl, refl) }

scan_byte : (L : Limits) (n d : ℕ) (p : Phase) (b : ℕ) (bs : List ℕ) → Fair p → Bytewise p
    → ((d' : ℕ) (p' : Phase) → Fair p' → Scanned L (suc n) d' p' bs (scan L (suc n) d' p' bs))
    → Scanned L n d p (b ∷ bs) (scanned (suc n) (step L d p b) (λ d' p'. scan L (suc n) d' p' bs))
scan_byte L n d p b bs f i ih = scanned_is L n d p b bs (step L d p b) refl (tidy_step L d p b i) (fair_step L d p b f) ih

scan_cons : (L : Limits) (n d : ℕ) (p : Phase) (b : ℕ) (bs : List ℕ) → Fair p
    → ((d' : ℕ) (p' : Phase) → Fair p' → Scanned L (suc n) d' p' bs (scan L (suc n) d' p' bs))
    → Scanned L n d p (b ∷ bs) (scan L n d p (b ∷ bs))
unfolding scan
scan_cons L n d (in_header k v) b bs f ih = scan_byte L n d (in_header k v) b bs f tt ih
scan_cons L n d (in_unsigned id left k v) b bs f ih = scan_byte L n d (in_unsigned id left k v) b bs f tt ih
scan_cons L n d (in_signed id left k v) b bs f ih = scan_byte L n d (in_signed id left k v) b bs f tt ih
scan_cons L n d (in_word id k v) b bs f ih = scan_byte L n d (in_word id k v) b bs f tt ih
scan_cons L n d (in_unsigned_count id k v) b bs f ih = scan_byte L n d (in_unsigned_count id k v) b bs f tt ih
scan_cons L n d (in_signed_count id k v) b bs f ih = scan_byte L n d (in_signed_count id k v) b bs f tt ih
scan_cons L n d (in_float_count id k v) b bs f ih = scan_byte L n d (in_float_count id k v) b bs f tt ih
scan_cons L n d (in_array_word id c k v) b bs f ih = scan_byte L n d (in_array_word id c k v) b bs f tt ih
scan_cons L n d (in_float id w left k v) b bs f ih = scan_byte L n d (in_float id w left k v) b bs f tt ih
scan_cons L n d (in_payload id r total o) b bs f ih =
    piece_is L n d id r total o (min (total - o) (length (b ∷ bs))) b bs f (omega arith) (omega arith) (omega arith)

pub scan_is : (L : Limits) (n d : ℕ) (p : Phase) (bs : List ℕ) → Fair p → Scanned L n d p bs (scan L n d p bs)
scan_is L n d p [] f = scan_nil L n d p
scan_is L n d p (b ∷ bs) f = scan_cons L n d p b bs f (λ d' p' f'. scan_is L (suc n) d' p' bs f')

-- ---- a call

abbrev pub FairSpot : Spot → Type 0
FairSpot (at d p) = Fair p
FairSpot (broken_before rest) = Unit {0}

fair_onward : (s : Stepped) (bs : List ℕ) (f : ℕ → Phase → Walk) → FairStep s → ((d : ℕ) (p : Phase) → Fair p → FairSpot (f d p).spot) → FairSpot (onward s bs f).spot
unfolding onward
fair_onward (on es d p) bs f h g = g d p h
fair_onward bad bs f h g = tt

pub fair_walk : (L : Limits) (d : ℕ) (p : Phase) (bs : List ℕ) → Fair p → FairSpot (walk L d p bs).spot
unfolding walk
fair_walk L d p [] h = h
fair_walk L d p (b ∷ bs) h = fair_onward (step L d p b) bs _ (fair_step L d p b h) (λ d' p' h'. fair_walk L d' p' bs h')

-- bytes read on from where others lead
read_on : (L : Limits) (bs xs : List ℕ) (d : ℕ) (p : Phase) → (walk L 0 idle bs).spot ≡ at d p
    → ((walk L 0 idle (bs ++ xs)).spot ≡ (walk L d p xs).spot) × ((walk L 0 idle (bs ++ xs)).events ≡ (walk L 0 idle bs).events ++ (walk L d p xs).events)
unfolding and_on walk_on
read_on L bs xs d p e = (
  ap (λ (w : Walk). w.spot) (walk-append L 0 idle bs xs) ∙ ap (λ (q : Spot). (walk_on L q xs).spot) e,
  ap (λ (w : Walk). w.events) (walk-append L 0 idle bs xs) ∙ ap (λ (q : Spot). (walk L 0 idle bs).events ++ (walk_on L q xs).events) e,
)

-- one more call is needed where an event is due
abbrev pub weight : State → ℕ
weight (reading d p) = 0
weight (owing d id r) = 1
weight broke = 0

-- An event brings the end of the chunk nearer; a verdict comes once the chunk is spent and is that of the spot reached.
abbrev pub Closes : Said → State → State → ℕ → ℕ → Type 0
Closes (event e) s s' k m = 2 * (m - k) + weight s' < 2 * m + weight s
Closes (verdict v) s s' k m = (k ≡ m) × Judged s' v
Closes invalid s s' k m = s' ≡ broke

pub light : (s : State) → weight s ≤ 1
light (reading d p) = omega arith
light (owing d id r) = omega arith
light broke = omega arith

pub closes : (a : Said) (s s' : State) (k m : ℕ) → k ≤ m → Ends a s' k m → Closes a s s' k m
closes (event e) s s' k m l h = omega (arith, light s')
closes (verdict v) s s' k m l h = h
closes invalid s s' k m l h = h.1

-- the bytes that a call reads, and what they are
pub record Answered (L : Limits) (bs : List ℕ) (es : List Event) (s : State) (c : List ℕ) (r : Called) : Type 0 where
  pub few : r.read ≤ length c
  pub closes : Closes r.answer s r.state r.read (length c)
  pub follows : Follows L (bs ++ take r.read c) (es ++ given r.answer) r.state

answered-scan : (L : Limits) (bs : List ℕ) (es : List Event) (d : ℕ) (p : Phase) (c : List ℕ) (r : Called) → Follows L bs es (reading d p) → Scanned L 0 d p c r → Answered L bs es (reading d p) c r
answered-scan L bs es d p c r f h =
    let k : r.read ≡ h.k = omega (arith, h.read) in
    let on : _ = read_on L bs (take h.k c) d p f.spot in
    let at_k : Follows L (bs ++ take h.k c) (es ++ given r.answer) r.state =
    record {
      spot = on.0 ∙ h.spot;
      events =
          on.1 ∙ ap (λ (l : List Event). l ++ (walk L d p (take h.k c)).events) (f.events ∙ append-nil (bytewise es))
          ∙ ap (λ (l : List Event). bytewise es ++ l) h.events
          ∙ sym (append_assoc (bytewise es) (bytewise (given r.answer)) (due r.state))
          ∙ ap (λ (l : List Event). l ++ due r.state) (sym (bytewise-append es (given r.answer)));
    } in
    record {
      few = omega (arith, h.few);
      closes = subst (λ (n : ℕ). Closes r.answer (reading d p) r.state n (length c)) (sym k) (closes r.answer (reading d p) r.state h.k (length c) h.few h.ends);
      follows = subst (λ (n : ℕ). Follows L (bs ++ take n c) (es ++ given r.answer) r.state) (sym k) at_k;
    }

-- After any series of calls the events given and the one due are the layout's for the bytes read: kept by each call.
pub call_follows : (L : Limits) (bs : List ℕ) (es : List Event) (s : State) (c : List ℕ) → Follows L bs es s → Answered L bs es s c (call L s c)
unfolding call bytewise cut cut_piece
call_follows L bs es (reading d p) c f =
    answered-scan L bs es d p c (scan L 0 d p c) f (scan_is L 0 d p c (subst FairSpot f.spot (fair_walk L 0 idle bs refl)))
call_follows L bs es (owing d id r) c f =
    record {
      few = omega arith;
      closes = omega arith;
      follows =
          record {
            spot = ap (λ (l : List ℕ). (walk L 0 idle l).spot) (append-nil bs) ∙ f.spot;
            events =
                ap (λ (l : List ℕ). (walk L 0 idle l).events) (append-nil bs) ∙ f.events
                ∙ sym (bytewise-append es (Piece id r 0 0 [] ∷ [])) ∙ sym (append-nil _);
          };
    }
call_follows L bs es broke c f =
    record {
      few = omega arith;
      closes = refl;
      follows =
          record {
            spot = ap (λ (l : List ℕ). (walk L 0 idle l).spot) (append-nil bs) ∙ f.spot;
            events = ap (λ (l : List ℕ). (walk L 0 idle l).events) (append-nil bs) ∙ f.events ∙ ap (λ (l : List Event). bytewise l ++ []) (sym (append-nil es));
          };
    }

-- a fresh reader stands at the start
pub fresh_follows : (L : Limits) → Follows L [] [] (reading 0 idle)
unfolding walk bytewise
fresh_follows L = record { spot = refl; events = refl }
