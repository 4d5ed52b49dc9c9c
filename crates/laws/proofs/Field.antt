-- A field: its shortest bytes are read back as it, a close with id 0; and a field that is read is legal, nests, raised its own events and took
-- no fewer bytes than its shortest.
use Prim.Native.Nat.{ℕ, zero, suc, ◌+◌, ◌*◌, ◌/◌, ◌%◌, ◌^◌, ◌<◌, ◌≤◌}
use mathlib.Core.Path.{◌≡◌, refl, sym, ap, ◌∙◌, subst}
use mathlib.Core.Bool.{Bool, true, false}
use mathlib.Core.List.{List, [], ◌∷◌, ◌++◌, map, append_assoc, append-nil}
use native.Mathlib.Omega.{arith}
use lib.ListN.{length, length-append}
use lib.Dec.{leb, ltb, eqb, lit<}
use borrow.Author.Tests.{le-leb, leb-true, lt-ltb, ltb-true, eq-eqb, eqb-true, ne_eqb, eqb-false}
use Rattle.layout.specs.Limits.{Limits, pick}
use Rattle.layout.specs.Varint.{Outcome, whole, broken, varint, shortest}
use Rattle.layout.specs.Zigzag.{zigzag}
use Rattle.layout.specs.Field.{Width, Subtype, Subtyped, Kind, Wire, Field, bytes_of, subtype_of, subtype_number, wire_of, wire_number, header, word, low_bytes, each}
use Rattle.layout.specs.Field.{fp32, fp64, string, blob, float, raw, known, unknown, unsigneds, signeds, floats, t_unsigned, t_signed, t_fixlen, t_unsigneds, t_signeds, t_floats, t_begin, t_end}
use Rattle.layout.specs.Field.{unsigned, signed, payload, unsigned_array, signed_array, float_array, begin, end}
use Rattle.layout.specs.Event.{Event, Unsigned, Signed, Float, Fixlen, Array, Begin, End, cut_piece}
use Rattle.layout.specs.Reading.{Reading, quiet, raise, given, follow, becoming}
use Rattle.layout.specs.Message.{header_of, count_of, elements, fixlen, float_array_of, body, field}
use Rattle.layout.specs.Copy.{field_bytes}
use Rattle.layout.specs.Message.{All, Bytes}
use Rattle.laws.specs.Legal.{Fit, Legal, Nests, settled}
use Rattle.laws.specs.Events.{field_events}
use Rattle.laws.proofs.Parser.{Got, Parses, Reads, given-whole, parses_whole, reads_whole}
use Rattle.laws.proofs.Varint.{varint_parses}
use Rattle.varint.proofs.Shortest.{shortest_one, length_some}
use Rattle.laws.proofs.Parts.{signed_parses, checked_parses, low_parses, elements_reads, payload_reads}

-- ---- types and subtypes by number

wire_small : (t : Wire) → wire_number t ≤ 7
wire_small t_unsigned = omega arith
wire_small t_signed = omega arith
wire_small t_fixlen = omega arith
wire_small t_unsigneds = omega arith
wire_small t_signeds = omega arith
wire_small t_floats = omega arith
wire_small t_begin = omega arith
wire_small t_end = omega arith

wire_of_lem : (t : Wire) → wire_of (wire_number t) ≡ t
wire_of_lem t_unsigned = refl
wire_of_lem t_signed = refl
wire_of_lem t_fixlen = refl
wire_of_lem t_unsigneds = refl
wire_of_lem t_signeds = refl
wire_of_lem t_floats = refl
wire_of_lem t_begin = refl
wire_of_lem t_end = refl

pub wire_number_lem : (k : ℕ) → k < 8 → wire_number (wire_of k) ≡ k
wire_number_lem zero h = refl
wire_number_lem (suc zero) h = refl
wire_number_lem (suc (suc zero)) h = refl
wire_number_lem (suc (suc (suc zero))) h = refl
wire_number_lem (suc (suc (suc (suc zero)))) h = refl
wire_number_lem (suc (suc (suc (suc (suc zero))))) h = refl
wire_number_lem (suc (suc (suc (suc (suc (suc zero)))))) h = refl
wire_number_lem (suc (suc (suc (suc (suc (suc (suc zero))))))) h = refl
wire_number_lem (suc (suc (suc (suc (suc (suc (suc (suc k)))))))) h = absurd (omega arith)

subtype_small : (s : Subtype) → subtype_number s ≤ 3
subtype_small (float fp32) = omega arith
subtype_small (float fp64) = omega arith
subtype_small (raw string) = omega arith
subtype_small (raw blob) = omega arith

subtype_of_lem : (s : Subtype) → subtype_of (subtype_number s) ≡ known s
subtype_of_lem (float fp32) = refl
subtype_of_lem (float fp64) = refl
subtype_of_lem (raw string) = refl
subtype_of_lem (raw blob) = refl

pub subtype-number : (k : ℕ) (s : Subtype) → subtype_of k ≡ known s → subtype_number s ≡ k
subtype-number zero s e = let q : s ≡ float fp32 = cc in ap subtype_number q
subtype-number (suc zero) s e = let q : s ≡ float fp64 = cc in ap subtype_number q
subtype-number (suc (suc zero)) s e = let q : s ≡ raw string = cc in ap subtype_number q
subtype-number (suc (suc (suc zero))) s e = let q : s ≡ raw blob = cc in ap subtype_number q
subtype-number (suc (suc (suc (suc k)))) s e = absurd (let z : ◌≡◌ {A = ℕ} 0 1 = cc in omega arith)

-- ---- written and read back

module _ (L : Limits) (fit : Fit L) where
  -- a header and then a body
  headed : (d id : ℕ) (t : Wire) (bs rest : List ℕ) → id ≤ L.id → field L d (header id t ++ bs ++ rest) ≡ body L d id t (bs ++ rest)
  unfolding field given
  headed d id t bs rest h =
      let q : (id * 8 + wire_number t) / 8 ≡ id = omega (arith, wire_small t) in
      let r : (id * 8 + wire_number t) % 8 ≡ wire_number t = omega (arith, wire_small t) in
      let e : header_of L (header id t ++ (bs ++ rest)) ≡ whole (id * 8 + wire_number t) (bs ++ rest) =
      (checked_parses (varint_parses L) (λ h. leb (h / 8) L.id)).forth (id * 8 + wire_number t) (bs ++ rest)
      (omega (arith, wire_small t, fit.headers), le-leb ((id * 8 + wire_number t) / 8) L.id (rw q h))
      in
      rw (append_assoc (header id t) bs rest, e, q, r, wire_of_lem t)

  -- a word and what follows it
  worded : {B : Type 0} (f : ℕ → Subtyped → List ℕ → Reading B) (n : ℕ) (s : Subtype) (bs rest : List ℕ) → n ≤ L.size →
      given (varint L (word n s ++ bs ++ rest)) (λ w rest. f (w / 8) (subtype_of (w % 8)) rest) ≡ f n (known s) (bs ++ rest)
  unfolding given
  worded f n s bs rest h =
      let q : (n * 8 + subtype_number s) / 8 ≡ n = omega (arith, subtype_small s) in
      let r : (n * 8 + subtype_number s) % 8 ≡ subtype_number s = omega (arith, subtype_small s) in
      rw (append_assoc (word n s) bs rest, (varint_parses L).forth (n * 8 + subtype_number s) (bs ++ rest) (omega (arith, subtype_small s, fit.words)), q, r, subtype_of_lem s)

  -- a count and what follows it
  counted : {B : Type 0} (f : ℕ → List ℕ → Reading B) (n : ℕ) (bs rest : List ℕ) → n ≤ L.count → given (count_of L (shortest n ++ bs ++ rest)) f ≡ f n (bs ++ rest)
  unfolding given
  counted f n bs rest h =
      rw (append_assoc (shortest n) bs rest, (checked_parses (varint_parses L) (λ n. leb n L.count)).forth n (bs ++ rest) (omega (arith, fit.counts), le-leb n L.count h))

  -- a part that becomes the field
  announced : {A : Type 0} {r : List ℕ → Reading A} {ok : A → Type 0} {enc : A → List ℕ} {evs : A → List Event} → Reads r ok enc evs → (f : A → Field) (e : Event) (a : A) (rest : List ℕ) → ok a →
      raise (e ∷ []) (becoming f (r (enc a ++ rest))) ≡ record { events = e ∷ evs a; outcome = whole (f a) rest }
  unfolding follow
  announced {evs = evs} reads f e a rest h =
      rw (reads.forth a rest h) (ap (λ es. record { events = e ∷ es; outcome = whole (f a) rest }) (append-nil (evs a)))

  width_small : (w : Width) → bytes_of w ≤ L.size
  width_small fp32 = omega (arith, fit.floats)
  width_small fp64 = omega (arith, fit.floats)

  word_eq : (w : Width) → eqb (bytes_of w) (bytes_of w) ≡ true
  word_eq w = eq-eqb (bytes_of w) (bytes_of w) refl

  pub field_forth : (d : ℕ) (x : Field) (rest : List ℕ) → Legal L x → Nests L d x → field L d (field_bytes x ++ rest) ≡ record { events = field_events x; outcome = whole (settled x) rest }
  unfolding field_bytes field_events body fixlen float_array_of given
  field_forth d (unsigned id n) rest h s = headed d id t_unsigned (shortest n) rest h.0 ∙ rw ((varint_parses L).forth n rest h.1)
  field_forth d (signed id z) rest h s = headed d id t_signed (shortest (zigzag z)) rest h.0 ∙ rw ((signed_parses L).forth z rest h.1)
  field_forth d (float id w x) rest h s =
      headed d id t_fixlen _ rest h.0
      ∙ worded (fixlen L id) (bytes_of w) (float w) (low_bytes (bytes_of w) x) rest (width_small w)
      ∙ rw (word_eq w, (low_parses (bytes_of w)).forth x rest h.1)
  field_forth d (payload id r bs) rest h s =
      headed d id t_fixlen _ rest h.0
      ∙ worded (fixlen L id) (length bs) (raw r) bs rest h.1
      ∙ rw (le-leb (length bs) L.size h.1) (announced (payload_reads id r (length bs)) (payload id r) _ bs rest (h.2, refl))
  field_forth d (unsigned_array id ns) rest h s =
      headed d id t_unsigneds _ rest h.0
      ∙ counted _ (length ns) (each shortest ns) rest h.1
      ∙ announced (elements_reads (varint_parses L) (Unsigned id) (length ns)) (unsigned_array id) _ ns rest (h.2, refl)
  field_forth d (signed_array id zs) rest h s =
      headed d id t_signeds _ rest h.0
      ∙ counted _ (length zs) (each (λ z. shortest (zigzag z)) zs) rest h.1
      ∙ announced (elements_reads (signed_parses L) (Signed id) (length zs)) (signed_array id) _ zs rest (h.2, refl)
  field_forth d (float_array id w xs) rest h s =
      headed d id t_floats _ rest h.0
      ∙ counted _ (length xs) (word (bytes_of w) (float w) ++ each (low_bytes (bytes_of w)) xs) rest h.1
      ∙ worded (float_array_of id (length xs)) (bytes_of w) (float w) (each (low_bytes (bytes_of w)) xs) rest (width_small w)
      ∙ rw (word_eq w) (announced (elements_reads (low_parses (bytes_of w)) (Float id w) (length xs)) (float_array id w) _ xs rest (h.2, refl))
  field_forth d (begin id) rest h s = rw (← (append-nil (header id t_begin))) (headed d id t_begin [] rest h ∙ simp (lt-ltb d L.depth s))
  field_forth d (end id) rest h s = rw (← (append-nil (header 0 t_end))) (headed d 0 t_end [] rest (omega arith) ∙ simp (ne_eqb d 0 (omega arith)))

-- ---- read

-- x was read at depth d from m bytes, with these events, and left rest
pub record Back (L : Limits) (d m : ℕ) (rest : List ℕ) (x : Field) (es : List Event) : Type 0 where
  pub legal : Legal L x
  pub nests : Nests L d x
  pub events : es ≡ field_events x
  pub shorter : length (field_bytes x) + length rest ≤ m
  pub bytes : Bytes rest

module _ (L : Limits) (d id m : ℕ) (x : Field) (rest : List ℕ) (i : id ≤ L.id) where
  -- a word, and what it says of the bytes that follow
  word_back : (bs : List ℕ) → Bytes bs → (f : ℕ → Subtyped → List ℕ → Reading Field) (P : List Event → Type 0) →
      (given (varint L bs) (λ w rest. f (w / 8) (subtype_of (w % 8)) rest)).outcome ≡ whole x rest →
      ((n : ℕ) (s : Subtype) (mid : List ℕ) → Bytes mid → length (word n s) + length mid ≤ length bs → (f n (known s) mid).outcome ≡ whole x rest → P (f n (known s) mid).events) →
      ((n : ℕ) (mid : List ℕ) → (f n unknown mid).outcome ≡ broken mid) →
      P (given (varint L bs) (λ w rest. f (w / 8) (subtype_of (w % 8)) rest)).events
  word_back bs a f P s k none =
      given-whole x rest P (varint L bs) (λ w rest. f (w / 8) (subtype_of (w % 8)) rest) s
      (λ w mid q t. go w mid ((varint_parses L).back bs w mid a q) (subtype_of (w % 8)) refl t)
    where
      go : (w : ℕ) (mid : List ℕ) → Got (λ n. n < 2 ^ L.bits) shortest bs w mid → (u : Subtyped) → subtype_of (w % 8) ≡ u →
          (f (w / 8) u mid).outcome ≡ whole x rest → P (f (w / 8) u mid).events
      go w mid g (known s) e t =
          let v : w / 8 * 8 + subtype_number s ≡ w = omega (arith, subtype-number (w % 8) s e) in
          k (w / 8) s mid g.bytes (rw v g.shorter) t
      go w mid g unknown e t = absurd (let r = none (w / 8) mid in let z : ◌≡◌ {A = ℕ} 0 1 = cc in omega arith)

  pick-whole : (t : Bool) (r : Reading Field) (bs : List ℕ) (P : List Event → Type 0) → (pick t r (quiet (broken bs))).outcome ≡ whole x rest →
      (t ≡ true → r.outcome ≡ whole x rest → P r.events) → P (pick t r (quiet (broken bs))).events
  pick-whole true r bs P s k = k refl s
  pick-whole false r bs P s k = absurd (let z : ◌≡◌ {A = ℕ} 0 1 = cc in omega arith)

  fixlen_back : (n : ℕ) (s : Subtype) (bs : List ℕ) → Bytes bs → length (header id t_fixlen) + (length (word n s) + length bs) ≤ m → (fixlen L id n (known s) bs).outcome ≡ whole x rest →
      Back L d m rest x (fixlen L id n (known s) bs).events
  unfolding fixlen field_bytes field_events
  fixlen_back n (float w) bs a h s =
      pick-whole (eqb n (bytes_of w)) _ bs (Back L d m rest x) s
      (λ q t.
      let n≡ : n ≡ bytes_of w = eqb-true n (bytes_of w) q in
      let h' : length (header id t_fixlen) + (length (word (bytes_of w) (float w)) + length bs) ≤ m = subst (λ k. length (header id t_fixlen) + (length (word k (float w)) + length bs) ≤ m) n≡ h in
      parses_whole x bs rest a (λ x es. Back L d m rest x (Fixlen id (float w) n ∷ es)) (float id w) (low_parses (bytes_of w)) (λ v. Float id w v ∷ []) t
      (λ v g.
      record {
        legal = (i, g.legal);
        nests = tt;
        events = ap (λ k. Fixlen id (float w) k ∷ Float id w v ∷ []) n≡;
        shorter = simp length-append (omega (arith, g.shorter));
        bytes = g.bytes;
      }))
  fixlen_back n (raw r) bs a h s =
      pick-whole (leb n L.size) _ bs (Back L d m rest x) s
      (λ q t.
      reads_whole x bs rest a (λ x es. Back L d m rest x (Fixlen id (raw r) n ∷ es)) (payload id r) (payload_reads id r n) t
      (λ xs g.
      let n≡ : length xs ≡ n = g.legal.1 in
      record {
        legal = (i, omega (arith, leb-true n L.size q), g.legal.0);
        nests = tt;
        events = ap (λ k. Fixlen id (raw r) k ∷ cut_piece id r k 0 xs) (sym n≡);
        shorter = simp (length-append, n≡) (omega (arith, g.shorter));
        bytes = g.bytes;
      }))

  counted_back : (bs : List ℕ) → Bytes bs → (f : ℕ → List ℕ → Reading Field) (P : List Event → Type 0) → (given (count_of L bs) f).outcome ≡ whole x rest →
      ((n : ℕ) (mid : List ℕ) → Bytes mid → n ≤ L.count → length (shortest n) + length mid ≤ length bs → (f n mid).outcome ≡ whole x rest → P (f n mid).events) →
      P (given (count_of L bs) f).events
  counted_back bs a f P s k =
      given-whole x rest P (count_of L bs) f s
      (λ n mid q t.
      let g = (checked_parses (varint_parses L) (λ n. leb n L.count)).back bs n mid a q in
      k n mid g.bytes (leb-true n L.count g.legal.1) g.shorter t)

  -- an array's elements, after its announcement
  array_back : {A : Type 0} {p : List ℕ → Outcome A} {ok : A → Type 0} {enc : A → List ℕ} → Parses p ok enc → (e : A → Event) (f : List A → Field) (k : Kind) →
      ((xs : List A) → All ok xs → length xs ≤ L.count → Legal L (f xs) × Nests L d (f xs)) →
      ((xs : List A) → field_events (f xs) ≡ Array id k (length xs) ∷ map e xs) →
      (n : ℕ) (bs : List ℕ) → Bytes bs → n ≤ L.count →
      ((xs : List A) → length xs ≡ n → length (each enc xs) + length rest ≤ length bs → length (field_bytes (f xs)) + length rest ≤ m) →
      (becoming f (elements p e n bs)).outcome ≡ whole x rest → Back L d m rest x (Array id k n ∷ (becoming f (elements p e n bs)).events)
  array_back reads e f k legal events n bs a c size s =
      reads_whole x bs rest a (λ x es. Back L d m rest x (Array id k n ∷ es)) f (elements_reads reads e n) s
      (λ xs g.
      let n≡ : length xs ≡ n = g.legal.1 in
      let l = legal xs g.legal.0 (rw n≡ c) in
      record { legal = l.0; nests = l.1; events = ap (λ n. Array id k n ∷ map e xs) (sym n≡) ∙ sym (events xs); shorter = size xs n≡ g.shorter; bytes = g.bytes })

  floats_back : (n k : ℕ) (s : Subtype) (bs : List ℕ) → Bytes bs → n ≤ L.count → length (header id t_floats) + (length (shortest n) + (length (word k s) + length bs)) ≤ m →
      (float_array_of id n k (known s) bs).outcome ≡ whole x rest → Back L d m rest x (float_array_of id n k (known s) bs).events
  unfolding float_array_of field_bytes field_events
  floats_back n k (float w) bs a c h s =
      pick-whole (eqb k (bytes_of w)) _ bs (Back L d m rest x) s
      (λ q t.
      let k≡ : k ≡ bytes_of w = eqb-true k (bytes_of w) q in
      let h' : length (header id t_floats) + (length (shortest n) + (length (word (bytes_of w) (float w)) + length bs)) ≤ m =
      subst (λ k. length (header id t_floats) + (length (shortest n) + (length (word k (float w)) + length bs)) ≤ m) k≡ h
      in
      array_back (low_parses (bytes_of w)) (Float id w) (float_array id w) (floats w) (λ xs l c. ((i, c, l), tt)) (λ xs. refl) n bs a c
      (λ xs n≡ g. simp (length-append, n≡) (omega arith)) t)
  floats_back n k (raw r) bs a c h s = absurd (let z : ◌≡◌ {A = ℕ} 0 1 = cc in omega arith)

  end_back : (t : Bool) (bs : List ℕ) → Bytes bs → length (header id t_end) + length bs ≤ m → eqb d 0 ≡ t →
      (pick t (quiet (broken bs)) (raise (End ∷ []) (quiet (whole (end id) bs)))).outcome ≡ whole x rest →
      Back L d m rest x (pick t (quiet (broken bs)) (raise (End ∷ []) (quiet (whole (end id) bs)))).events
  unfolding field_bytes field_events
  end_back true bs a h q s = absurd (let z : ◌≡◌ {A = ℕ} 0 1 = cc in omega arith)
  end_back false bs a h q s =
      let x≡ : end id ≡ x = cc in
      let b≡ : bs ≡ rest = cc in
      subst (λ x. Back L d m rest x (End ∷ [])) x≡
      (record {
        legal = i;
        nests = omega (arith, eqb-false d 0 q);
        events = refl;
        shorter = omega (arith, ap length (shortest_one 7 (lit< tt)), ap length b≡, length_some (id * 8 + 7));
        bytes = subst Bytes b≡ a;
      })

  body_back : (t : Wire) (bs : List ℕ) → Bytes bs → length (header id t) + length bs ≤ m → (body L d id t bs).outcome ≡ whole x rest → Back L d m rest x (body L d id t bs).events
  unfolding body field_bytes field_events fixlen float_array_of
  body_back t_unsigned bs a h s =
      parses_whole x bs rest a (Back L d m rest) (unsigned id) (varint_parses L) (λ n. Unsigned id n ∷ []) s
      (λ n g. record { legal = (i, g.legal); nests = tt; events = refl; shorter = simp length-append (omega (arith, g.shorter)); bytes = g.bytes })
  body_back t_signed bs a h s =
      parses_whole x bs rest a (Back L d m rest) (signed id) (signed_parses L) (λ z. Signed id z ∷ []) s
      (λ z g. record { legal = (i, g.legal); nests = tt; events = refl; shorter = simp length-append (omega (arith, g.shorter)); bytes = g.bytes })
  body_back t_fixlen bs a h s = word_back bs a (fixlen L id) (Back L d m rest x) s (λ n u mid a' h' t. fixlen_back n u mid a' (omega arith) t) (λ n mid. refl)
  body_back t_unsigneds bs a h s =
      counted_back bs a _ (Back L d m rest x) s
      (λ n mid a' c h' t.
      array_back (varint_parses L) (Unsigned id) (unsigned_array id) unsigneds (λ xs l c. ((i, c, l), tt)) (λ xs. refl) n mid a' c
      (λ xs n≡ g. simp (length-append, n≡) (omega arith)) t)
  body_back t_signeds bs a h s =
      counted_back bs a _ (Back L d m rest x) s
      (λ n mid a' c h' t.
      array_back (signed_parses L) (Signed id) (signed_array id) signeds (λ xs l c. ((i, c, l), tt)) (λ xs. refl) n mid a' c
      (λ xs n≡ g. simp (length-append, n≡) (omega arith)) t)
  body_back t_floats bs a h s =
      counted_back bs a _ (Back L d m rest x) s
      (λ n mid a' c h' t.
      word_back mid a' (float_array_of id n) (Back L d m rest x) t (λ k u mid' a'' h'' t'. floats_back n k u mid' a'' c (omega arith) t') (λ k mid'. refl))
  body_back t_begin bs a h s =
      pick-whole (ltb d L.depth) _ bs (Back L d m rest x) s
      (λ q t.
      let x≡ : begin id ≡ x = cc in
      let b≡ : bs ≡ rest = cc in
      subst (λ x. Back L d m rest x (Begin id ∷ [])) x≡
      (record { legal = i; nests = ltb-true d L.depth q; events = refl; shorter = subst (λ r. length (header id t_begin) + length r ≤ m) b≡ h; bytes = subst Bytes b≡ a }))
  body_back t_end bs a h s = end_back (eqb d 0) bs a h refl s

pub field_back : (L : Limits) (d : ℕ) (bs : List ℕ) (x : Field) (rest : List ℕ) → Bytes bs → (field L d bs).outcome ≡ whole x rest → Back L d (length bs) rest x (field L d bs).events
unfolding field
field_back L d bs x rest a s =
    given-whole x rest (Back L d (length bs) rest x) (header_of L bs) _ s
    (λ h mid q t.
    let g = (checked_parses (varint_parses L) (λ h. leb (h / 8) L.id)).back bs h mid a q in
    let e : h / 8 * 8 + wire_number (wire_of (h % 8)) ≡ h = omega (arith, wire_number_lem (h % 8) (omega arith)) in
    body_back L d (h / 8) (length bs) x rest (leb-true (h / 8) L.id g.legal.1) (wire_of (h % 8)) mid g.bytes (rw e g.shorter) t)
