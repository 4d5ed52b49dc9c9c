-- What is in its shortest form is copied as it is: whole fields from a field boundary on, and whole elements of an array, come out as the very
-- bytes that were read. So a call may copy them as a block.
use Prim.Native.Nat.{ℕ, zero, suc, ◌+◌, ◌-◌, ◌*◌, ◌/◌, ◌%◌, ◌^◌, ◌<◌, ◌≤◌}
use native.Mathlib.Nat.{pow-suc}
use native.Mathlib.Omega.{arith}
use mathlib.Core.Path.{◌≡◌, refl, sym, ap, ◌∙◌, subst}
use mathlib.Core.Bool.{Bool}
use mathlib.Core.List.{List, [], ◌∷◌, ◌++◌, append_assoc}
use lib.ListN.{length, length-append}
use lib.IntN.{ℤ}
use borrow.Author.Tests.{le-leb, lt-ltb, eq-eqb, ne_eqb}
use Rattle.layout.specs.Limits.{Limits, pick}
use Rattle.layout.specs.Varint.{shortest}
use Rattle.layout.specs.Zigzag.{zigzag, unzigzag}
use Rattle.layout.specs.Event.{Event, Unsigned, Signed, Float, Piece, Fixlen, Array, Begin, End}
use Rattle.layout.specs.Field.{Width, Raw, Wire, Field, bytes_of, wire_number, header, word, low_bytes, each}
use Rattle.layout.specs.Field.{fp32, fp64, float, raw, unsigneds, signeds, floats}
use Rattle.layout.specs.Field.{t_unsigned, t_signed, t_fixlen, t_unsigneds, t_signeds, t_floats, t_begin, t_end}
use Rattle.layout.specs.Field.{unsigned, signed, payload, unsigned_array, signed_array, float_array, begin, end}
use Rattle.layout.specs.Message.{depth_after, All, Bytes, complete, verdict_of}
use Rattle.layout.specs.Copy.{field_bytes, encode, plain_copy}
use Rattle.varint.proofs.Shortest.{length_some}
use Rattle.varint.proofs.Zigzag.{zigzag-unzigzag}
use Rattle.laws.specs.Events.{event_bytes}
use Rattle.laws.specs.Legal.{Fit, Legal, Nests, Balanced}
use Rattle.laws.proofs.Parts.{length_low}
use Rattle.laws.proofs.Message.{encode-settled}
use Rattle.laws.proofs.Laws.{accepts}
use Rattle.machine.specs.Machine.{Phase, in_unsigned, in_signed, in_word, in_unsigned_count, in_signed_count, in_float_count, in_array_word, in_float, in_payload}
use Rattle.machine.specs.Machine.{idle, on, bad, next_or, first_or, at_wire, at_unsigned, at_signed, at_unsigned_count, at_signed_count, at_float_count, at_array_word}
use Rattle.machine.specs.Calls.{State, reading, owing, raised_state}
use Rattle.putting.specs.Put.{put}
use Rattle.copying.specs.Owed.{depth_by}
use Rattle.copying.specs.Copy.{Copy, after, copy}
use Rattle.copying_laws.proofs.OneEvent.{free, AsIs, none_as_is, joined, one_event, event_as_is, piece_raises, empty_raises}
use Rattle.copying_laws.proofs.Takes.{Reads, then, shortest_reads, at_unsigned_lem, at-signed, at_unsigneds, at_signeds, at_floats, header_reads, word_reads, array_word_reads, count_reads, some_byte, float_reads}

-- ---- elements

-- The bytes a are one element of an array, p m being where an element begins with m due from it on; `left` more are due after it.
abbrev Element : Limits → ℕ → (ℕ → Phase) → ℕ → List ℕ → Type 0
Element L d p left a = AsIs L (reading d (p (suc left))) d a (reading d (first_or left p)) d

-- they are n - left elements
abbrev Elements : Limits → ℕ → (ℕ → Phase) → ℕ → ℕ → List ℕ → Type 0
Elements L d p left n a = AsIs L (reading d (first_or n p)) d a (reading d (first_or left p)) d

no_element : (L : Limits) (d : ℕ) (p : ℕ → Phase) (left : ℕ) → Elements L d p left (0 + left) []
no_element L d p left = let z : left ≡ 0 + left = omega arith in subst (λ (n : ℕ). Elements L d p left n []) z (none_as_is L (reading d (first_or left p)) d)

one_more : (L : Limits) (d : ℕ) (p : ℕ → Phase) (left n : ℕ) (a l : List ℕ) → Element L d p (n + left) a → Elements L d p left (n + left) l → Elements L d p left (suc n + left) (a ++ l)
one_more L d p left n a l f g =
    let z : suc (n + left) ≡ suc n + left = omega arith in
    subst (λ (n : ℕ). Elements L d p left n (a ++ l)) z (joined L (reading d (p (suc (n + left)))) d a (reading d (first_or (n + left) p)) d l (reading d (first_or left p)) d f g)

-- element by element
each_as_is : {A : Type 0} (L : Limits) (d : ℕ) (p : ℕ → Phase) (ok : A → Type 0) (enc : A → List ℕ) → ((left : ℕ) (x : A) → ok x → Element L d p left (enc x))
    → (xs : List A) (left : ℕ) → All ok xs → Elements L d p left (length xs + left) (each enc xs)
unfolding each
each_as_is L d p ok enc one [] left h = no_element L d p left
each_as_is L d p ok enc one (x ∷ xs) left h = one_more L d p left (length xs) (enc x) (each enc xs) (one (length xs + left) x h.0) (each_as_is L d p ok enc one xs left h.1)

module _ (L : Limits) (d id : ℕ) where
  unsigned_element : (left n : ℕ) → n < 2 ^ L.bits → Element L d (λ m. in_unsigned id m 0 0) left (shortest n)
  unfolding at_unsigned event_bytes depth_by
  unsigned_element left n h =
      event_as_is L d (in_unsigned id (suc left) 0 0) (shortest n) (Unsigned id n) [] d (first_or left (λ m. in_unsigned id m 0 0)) tt (length_some n) refl
      (shortest_reads L d (in_unsigned id (suc left)) (at_unsigned d id (suc left)) (at_unsigned_lem L d id (suc left)) n h)

  signed_element : (left n : ℕ) → n < 2 ^ L.bits → Element L d (λ m. in_signed id m 0 0) left (shortest n)
  unfolding at_signed event_bytes depth_by
  signed_element left n h =
      event_as_is L d (in_signed id (suc left) 0 0) (shortest n) (Signed id (unzigzag n)) [] d (first_or left (λ m. in_signed id m 0 0)) tt (length_some n) (ap shortest (zigzag-unzigzag n))
      (shortest_reads L d (in_signed id (suc left)) (at_signed d id (suc left)) (at-signed L d id (suc left)) n h)

  -- a float, of an array or not
  a_float : (w : Width) (left x : ℕ) → x < 256 ^ bytes_of w → AsIs L (reading d (in_float id w left 0 0)) d (low_bytes (bytes_of w) x) (reading d (next_or left (λ m. in_float id w m 0 0))) d
  unfolding event_bytes depth_by
  a_float w left x h =
      event_as_is L d (in_float id w left 0 0) (low_bytes (bytes_of w) x) (Float id w x) [] d (next_or left (λ m. in_float id w m 0 0)) (some_byte w) (omega (arith, length_low (bytes_of w) x, some_byte w)) refl
      (float_reads L d id w left x h)

-- the first n bytes as a number's, and k bytes behind them
record Spelled (n k : ℕ) (bs : List ℕ) : Type 0 where
  bits : ℕ
  behind : List ℕ
  small : bits < 256 ^ n
  is : low_bytes n bits ++ behind ≡ bs
  bytes : Bytes behind
  long : length behind ≡ k

spelled : (n k : ℕ) (bs : List ℕ) → Bytes bs → length bs ≡ n + k → Spelled n k bs
unfolding low_bytes
spelled zero k bs a l = record { bits = 0; behind = bs; small = omega arith; is = refl; bytes = a; long = omega arith }
spelled (suc n) k [] a l = absurd (omega arith)
spelled (suc n) k (b ∷ bs) a l =
    let f = spelled n k bs a.1 (omega arith) in
    let x : ℕ = b + 256 * f.bits in
    let q : x % 256 ≡ b = omega (arith, a.0) in
    let r : x / 256 ≡ f.bits = omega (arith, a.0) in
    record {
      bits = x;
      behind = f.behind;
      small = omega (arith, a.0, f.small, pow-suc 256 n);
      is = ap (λ (y : ℕ). (y ∷ low_bytes n (x / 256)) ++ f.behind) q ∙ ap (λ (y : ℕ). (b ∷ low_bytes n y) ++ f.behind) r ∙ ap (λ (l : List ℕ). b ∷ l) f.is;
      bytes = f.bytes;
      long = f.long;
    }

-- any bytes are the elements of a float array, by their number
module _ (L : Limits) (d id : ℕ) (w : Width) (left : ℕ) where
  abbrev Floats : ℕ → List ℕ → Type 0
  Floats m bs = Elements L d (λ j. in_float id w j 0 0) left (m + left) bs

  more_floats : (m : ℕ) (bs : List ℕ) (f : Spelled (bytes_of w) (m * bytes_of w) bs) → Floats m f.behind → Floats (suc m) bs
  more_floats m bs f g =
      subst (Floats (suc m)) f.is
      (one_more L d (λ j. in_float id w j 0 0) left m (low_bytes (bytes_of w) f.bits) f.behind (a_float L d id w (suc (m + left)) f.bits f.small) g)

  any_floats : (m : ℕ) (bs : List ℕ) → Bytes bs → length bs ≡ m * bytes_of w → Floats m bs
  any_floats zero [] a l = no_element L d (λ j. in_float id w j 0 0) left
  any_floats zero (b ∷ bs) a l = absurd (omega arith)
  any_floats (suc m) bs a l =
      let f = spelled (bytes_of w) (m * bytes_of w) bs a (omega arith) in
      more_floats m bs f (any_floats m f.behind f.bytes f.long)

-- ---- fields

-- a field that leaves the depth as it is
abbrev FieldAsIs : Limits → ℕ → List ℕ → Type 0
FieldAsIs L d a = AsIs L (reading d idle) d a (reading d idle) d

some_bytes : (n : ℕ) (a : List ℕ) → 0 < length (shortest n ++ a)
some_bytes n a = omega (arith, length_some n, length-append (shortest n) a)

module _ (L : Limits) (fit : Fit L) (d id : ℕ) where
  -- a header and what follows it, up to the first event
  behind : (t : Wire) (p : Phase) (a : List ℕ) (e : Event) (es : List Event) (p1 : Phase) → id ≤ L.id → at_wire L d id t ≡ on [] d p → event_bytes 0 e ≡ header id t ++ a → Reads L d p a (on (e ∷ es) d p1)
      → AsIs L (reading d idle) d (header id t ++ a) (raised_state d p1 es) (depth_by d e)
  behind t p a e es p1 h w i r =
      event_as_is L d idle (header id t ++ a) e es d p1 refl (some_bytes (id * 8 + wire_number t) a) i
      (then L d idle (header id t) d p a (on (e ∷ es) d p1) (subst (Reads L d idle (header id t)) w (header_reads L fit d id t h)) r)

  -- a header that is all there is
  bare : (t : Wire) (e : Event) (d1 : ℕ) → id ≤ L.id → at_wire L d id t ≡ on (e ∷ []) d1 idle → event_bytes 0 e ≡ header id t → AsIs L (reading d idle) d (header id t) (reading d1 idle) (depth_by d e)
  bare t e d1 h w i =
      event_as_is L d idle (header id t) e [] d1 idle refl (length_some (id * 8 + wire_number t)) i (subst (Reads L d idle (header id t)) w (header_reads L fit d id t h))

  -- an announcement of the bytes a1, and what it announces
  announced : (t : Wire) (a1 a2 : List ℕ) (s : State) → AsIs L (reading d idle) d (header id t ++ a1) s d → AsIs L s d a2 (reading d idle) d
      → FieldAsIs L d (header id t ++ (a1 ++ a2))
  announced t a1 a2 s f g =
      subst (FieldAsIs L d) (append_assoc (header id t) a1 a2)
      (joined L (reading d idle) d (header id t ++ a1) s d a2 (reading d idle) d f g)

  unsigned_field : (n : ℕ) → id ≤ L.id → n < 2 ^ L.bits → FieldAsIs L d (header id t_unsigned ++ shortest n)
  unfolding at_unsigned event_bytes depth_by
  unsigned_field n h b =
      behind t_unsigned (in_unsigned id 0 0 0) (shortest n) (Unsigned id n) [] idle h refl refl
      (shortest_reads L d (in_unsigned id 0) (at_unsigned d id 0) (at_unsigned_lem L d id 0) n b)

  signed-field : (n : ℕ) → id ≤ L.id → n < 2 ^ L.bits → FieldAsIs L d (header id t_signed ++ shortest n)
  unfolding at_signed event_bytes depth_by
  signed-field n h b =
      behind t_signed (in_signed id 0 0 0) (shortest n) (Signed id (unzigzag n)) [] idle h refl (ap (λ (m : ℕ). header id t_signed ++ shortest m) (zigzag-unzigzag n))
      (shortest_reads L d (in_signed id 0) (at_signed d id 0) (at-signed L d id 0) n b)

  width_small : (w : Width) → bytes_of w ≤ L.size
  width_small fp32 = omega (arith, fit.floats)
  width_small fp64 = omega (arith, fit.floats)

  float_field : (w : Width) (x : ℕ) → id ≤ L.id → x < 256 ^ bytes_of w
      → FieldAsIs L d (header id t_fixlen ++ (word (bytes_of w) (float w) ++ low_bytes (bytes_of w) x))
  unfolding event_bytes depth_by
  float_field w x h b =
      announced t_fixlen (word (bytes_of w) (float w)) (low_bytes (bytes_of w) x) (reading d (in_float id w 0 0 0))
      (behind t_fixlen (in_word id 0 0) (word (bytes_of w) (float w)) (Fixlen id (float w) (bytes_of w)) [] (in_float id w 0 0 0) h refl refl
      (subst (Reads L d (in_word id 0 0) (word (bytes_of w) (float w)))
      (ap (λ (t : Bool). pick t (on (Fixlen id (float w) (bytes_of w) ∷ []) d (in_float id w 0 0 0)) bad) (eq-eqb (bytes_of w) (bytes_of w) refl))
      (word_reads L fit d id (bytes_of w) (float w) (width_small w))))
      (a_float L d id w 0 x b)

  payload_field : (r : Raw) (bs : List ℕ) → id ≤ L.id → length bs ≤ L.size → FieldAsIs L d (header id t_fixlen ++ (word (length bs) (raw r) ++ bs))
  unfolding event_bytes depth_by
  payload_field r [] h l =
      announced t_fixlen (word 0 (raw r)) [] (owing d id r)
      (behind t_fixlen (in_word id 0 0) (word 0 (raw r)) (Fixlen id (raw r) 0) (Piece id r 0 0 [] ∷ []) idle h refl refl
      (subst (Reads L d (in_word id 0 0) (word 0 (raw r)))
      (ap (λ (t : Bool). pick t (on (Fixlen id (raw r) 0 ∷ Piece id r 0 0 [] ∷ []) d idle) bad) (le-leb 0 L.size l))
      (word_reads L fit d id 0 (raw r) l)))
      (one_event L (owing d id r) d [] (Piece id r 0 0 []) (reading d idle) (empty_raises L d id r))
  payload_field r (b ∷ bs) h l =
      let n : ℕ = suc (length bs) in
      announced t_fixlen (word n (raw r)) (b ∷ bs) (reading d (in_payload id r n 0))
      (behind t_fixlen (in_word id 0 0) (word n (raw r)) (Fixlen id (raw r) n) [] (in_payload id r n 0) h refl refl
      (subst (Reads L d (in_word id 0 0) (word n (raw r)))
      (ap (λ (t : Bool). pick t (on (Fixlen id (raw r) n ∷ []) d (in_payload id r n 0)) bad) (le-leb n L.size l))
      (word_reads L fit d id n (raw r) l)))
      (one_event L (reading d (in_payload id r n 0)) d (b ∷ bs) (Piece id r n 0 (b ∷ bs)) (reading d idle) (piece_raises L d id r b bs))

  -- all the elements of an array
  all_as_is : {A : Type 0} (p : ℕ → Phase) (ok : A → Type 0) (enc : A → List ℕ) → ((left : ℕ) (x : A) → ok x → Element L d p left (enc x))
      → (xs : List A) → All ok xs → AsIs L (reading d (first_or (length xs) p)) d (each enc xs) (reading d idle) d
  all_as_is p ok enc one xs h =
      let z : length xs + 0 ≡ length xs = omega arith in
      subst (λ (n : ℕ). Elements L d p 0 n (each enc xs)) z (each_as_is L d p ok enc one xs 0 h)

  unsigned_array_lem : (ns : List ℕ) → id ≤ L.id → length ns ≤ L.count → All (λ n. n < 2 ^ L.bits) ns
      → FieldAsIs L d (header id t_unsigneds ++ (shortest (length ns) ++ each shortest ns))
  unfolding at_unsigned_count event_bytes depth_by
  unsigned_array_lem ns h l a =
      let p : ℕ → Phase = λ m. in_unsigned id m 0 0 in
      announced t_unsigneds (shortest (length ns)) (each shortest ns) (reading d (first_or (length ns) p))
      (behind t_unsigneds (in_unsigned_count id 0 0) (shortest (length ns)) (Array id unsigneds (length ns)) [] (first_or (length ns) p) h refl refl
      (count_reads L fit d id (in_unsigned_count id) (at_unsigned_count L d id) (length ns) (on (Array id unsigneds (length ns) ∷ []) d (first_or (length ns) p)) (at_unsigneds L d id) l refl))
      (all_as_is p (λ n. n < 2 ^ L.bits) shortest (unsigned_element L d id) ns a)

  signed_array_lem : (zs : List ℤ) → id ≤ L.id → length zs ≤ L.count → All (λ z. zigzag z < 2 ^ L.bits) zs
      → FieldAsIs L d (header id t_signeds ++ (shortest (length zs) ++ each (λ z. shortest (zigzag z)) zs))
  unfolding at_signed_count event_bytes depth_by
  signed_array_lem zs h l a =
      let p : ℕ → Phase = λ m. in_signed id m 0 0 in
      announced t_signeds (shortest (length zs)) (each (λ z. shortest (zigzag z)) zs) (reading d (first_or (length zs) p))
      (behind t_signeds (in_signed_count id 0 0) (shortest (length zs)) (Array id signeds (length zs)) [] (first_or (length zs) p) h refl refl
      (count_reads L fit d id (in_signed_count id) (at_signed_count L d id) (length zs) (on (Array id signeds (length zs) ∷ []) d (first_or (length zs) p)) (at_signeds L d id) l refl))
      (all_as_is p (λ z. zigzag z < 2 ^ L.bits) (λ z. shortest (zigzag z)) (λ left z. signed_element L d id left (zigzag z)) zs a)

  float_array_lem : (w : Width) (xs : List ℕ) → id ≤ L.id → length xs ≤ L.count → All (λ x. x < 256 ^ bytes_of w) xs
      → AsIs L (reading d idle) d (header id t_floats ++ (shortest (length xs) ++ (word (bytes_of w) (float w) ++ each (low_bytes (bytes_of w)) xs))) (reading d idle) d
  unfolding at_float_count at_array_word event_bytes depth_by
  float_array_lem w xs h l a =
      let n : ℕ = length xs in
      let p : ℕ → Phase = λ m. in_float id w m 0 0 in
      subst (λ (l : List ℕ). FieldAsIs L d (header id t_floats ++ l)) (append_assoc (shortest n) (word (bytes_of w) (float w)) (each (low_bytes (bytes_of w)) xs))
      (announced t_floats (shortest n ++ word (bytes_of w) (float w)) (each (low_bytes (bytes_of w)) xs) (reading d (first_or n p))
      (behind t_floats (in_float_count id 0 0) (shortest n ++ word (bytes_of w) (float w)) (Array id (floats w) n) [] (first_or n p) h refl refl
      (then L d (in_float_count id 0 0) (shortest n) d (in_array_word id n 0 0) (word (bytes_of w) (float w)) (on (Array id (floats w) n ∷ []) d (first_or n p))
      (count_reads L fit d id (in_float_count id) (at_float_count L d id) n (on [] d (in_array_word id n 0 0)) (at_floats L d id) l refl)
      (subst (Reads L d (in_array_word id n 0 0) (word (bytes_of w) (float w)))
      (ap (λ (t : Bool). pick t (on (Array id (floats w) n ∷ []) d (first_or n p)) bad) (eq-eqb (bytes_of w) (bytes_of w) refl))
      (array_word_reads L fit d id n (bytes_of w) (float w) (width_small w)))))
      (all_as_is p (λ x. x < 256 ^ bytes_of w) (low_bytes (bytes_of w)) (λ left. a_float L d id w (suc left)) xs a))

  begin_field : id ≤ L.id → d < L.depth → AsIs L (reading d idle) d (header id t_begin) (reading (suc d) idle) (suc d)
  unfolding event_bytes depth_by
  begin_field h l = bare t_begin (Begin id) (suc d) h (ap (λ (t : Bool). pick t (on (Begin id ∷ []) (suc d) idle) bad) (lt-ltb d L.depth l)) refl

-- a close is written with id 0
end_field : (L : Limits) → Fit L → (d : ℕ) → 0 < d → AsIs L (reading d idle) d (header 0 t_end) (reading (d - 1) idle) (d - 1)
unfolding event_bytes depth_by
end_field L fit d l = bare L fit d 0 t_end End (d - 1) (omega arith) (ap (λ (t : Bool). pick t bad (on (End ∷ []) (d - 1) idle)) (ne_eqb d 0 (omega arith))) refl

-- one field
pub field_as_is : (L : Limits) → Fit L → (d : ℕ) (x : Field) → Legal L x → Nests L d x → AsIs L (reading d idle) d (field_bytes x) (reading (depth_after d x) idle) (depth_after d x)
unfolding field_bytes depth_after
field_as_is L fit d (unsigned id n) (h, b) s = unsigned_field L fit d id n h b
field_as_is L fit d (signed id z) (h, b) s = signed-field L fit d id (zigzag z) h b
field_as_is L fit d (float id w x) (h, b) s = float_field L fit d id w x h b
field_as_is L fit d (payload id r bs) (h, l, b) s = payload_field L fit d id r bs h l
field_as_is L fit d (unsigned_array id ns) (h, l, a) s = unsigned_array_lem L fit d id ns h l a
field_as_is L fit d (signed_array id zs) (h, l, a) s = signed_array_lem L fit d id zs h l a
field_as_is L fit d (float_array id w xs) (h, l, a) s = float_array_lem L fit d id w xs h l a
field_as_is L fit d (begin id) h s = begin_field L fit d id h s
field_as_is L fit d (end id) h s = end_field L fit d s

-- fields one after another
all_fields : (L : Limits) → Fit L → (xs : List Field) (d e : ℕ) → All (Legal L) xs → Balanced L d xs e → AsIs L (reading d idle) d (encode xs) (reading e idle) e
unfolding encode each
all_fields L fit [] d e h n = subst (λ (k : ℕ). AsIs L (reading d idle) d [] (reading k idle) k) n (none_as_is L (reading d idle) d)
all_fields L fit (x ∷ xs) d e h n =
    joined L (reading d idle) d (field_bytes x) (reading (depth_after d x) idle) (depth_after d x) (encode xs) (reading e idle) e
    (field_as_is L fit d x h.0 n.0) (all_fields L fit xs (depth_after d x) e h.1 n.1)

-- ---- the laws

-- at a field boundary
abbrev pub between : ℕ → ℕ → Copy
between d pos = free (reading d idle) d pos

-- Whole fields, from a field boundary on.
pub fields_as_is : (L : Limits) → Fit L → (xs : List Field) (d e pos : ℕ) (c b : List ℕ) → All (Legal L) xs → Balanced L d xs e → pos + length (encode xs) ≤ length b
    → copy L (between d pos) (encode xs ++ c) b ≡ after (length (encode xs)) (copy L (between e (pos + length (encode xs))) c (put b pos (encode xs)))
fields_as_is L fit xs d e pos c b h n l = all_fields L fit xs d e h n pos c b l

-- Whole elements of an unsigned array, `left` more being due after them,
pub unsigneds_as_is : (L : Limits) (ns : List ℕ) (left d id pos : ℕ) (c b : List ℕ) → All (λ n. n < 2 ^ L.bits) ns → pos + length (each shortest ns) ≤ length b
    → copy L (free (reading d (first_or (length ns + left) (λ m. in_unsigned id m 0 0))) d pos) (each shortest ns ++ c) b
    ≡ after (length (each shortest ns)) (copy L (free (reading d (first_or left (λ m. in_unsigned id m 0 0))) d (pos + length (each shortest ns))) c (put b pos (each shortest ns)))
unsigneds_as_is L ns left d id pos c b a l = each_as_is L d (λ m. in_unsigned id m 0 0) (λ n. n < 2 ^ L.bits) shortest (unsigned_element L d id) ns left a pos c b l

-- of a signed array,
pub signeds_as_is : (L : Limits) (ns : List ℕ) (left d id pos : ℕ) (c b : List ℕ) → All (λ n. n < 2 ^ L.bits) ns → pos + length (each shortest ns) ≤ length b
    → copy L (free (reading d (first_or (length ns + left) (λ m. in_signed id m 0 0))) d pos) (each shortest ns ++ c) b
    ≡ after (length (each shortest ns)) (copy L (free (reading d (first_or left (λ m. in_signed id m 0 0))) d (pos + length (each shortest ns))) c (put b pos (each shortest ns)))
signeds_as_is L ns left d id pos c b a l = each_as_is L d (λ m. in_signed id m 0 0) (λ n. n < 2 ^ L.bits) shortest (signed_element L d id) ns left a pos c b l

-- and of a float array: any bytes, as many as m elements have.
pub floats_as_is : (L : Limits) (w : Width) (m left d id pos : ℕ) (s c b : List ℕ) → Bytes s → length s ≡ m * bytes_of w → pos + length s ≤ length b
    → copy L (free (reading d (first_or (m + left) (λ j. in_float id w j 0 0))) d pos) (s ++ c) b
    ≡ after (length s) (copy L (free (reading d (first_or left (λ j. in_float id w j 0 0))) d (pos + length s)) c (put b pos s))
floats_as_is L w m left d id pos s c b a n l = any_floats L d id w left m s a n pos c b l

-- A message of such fields is its own plain copy.
pub own_copy : (L : Limits) → Fit L → (T : List ℕ) (xs : List Field) → All (Legal L) xs → Balanced L 0 xs 0 → T ≡ encode xs → (verdict_of L T ≡ complete) × (plain_copy L T ≡ T)
unfolding plain_copy
own_copy L fit T xs h n e =
    let a = accepts L fit xs h n in
    (ap (verdict_of L) e ∙ a.0, ap (plain_copy L) e ∙ ap encode a.1 ∙ encode-settled xs ∙ sym e)
