-- A field, and the fields of a message one after another: what the layout's reader makes of some bytes depends on the field at their start only
-- by its end and the depth after it.
use Prim.Native.Nat.{ℕ, zero, suc, ◌+◌, ◌-◌, ◌*◌, ◌/◌, ◌%◌, ◌≤◌, ◌<◌}
use mathlib.Core.Path.{◌≡◌, refl, sym, ap, ◌∙◌}
use mathlib.Core.Bool.{Bool}
use mathlib.Core.List.{List, [], ◌∷◌, ◌++◌}
use native.Mathlib.Numerals.{add-one}
use native.Mathlib.Omega.{arith}
use lib.Dec.{eqb, lit<}
use native.Mathlib.Nat.{mod-lt}
use lib.ListN.{length, length-append}
use borrow.Author.Tests.{lt-ltb, le-ltb, eq-eqb, ne_eqb}
use Rattle.layout.specs.Limits.{base, pick}
use Rattle.layout.specs.Varint.{Outcome, whole, short, broken, varint, shortest}
use Rattle.layout.specs.Copy.{field_bytes}
use Rattle.laws.proofs.Field.{wire_number_lem, field_back}
use Rattle.varint.proofs.Shortest.{length_some}
use Rattle.lengths.specs.Lengths.{Point, point_of, reached, varint_length, field_length}
use Rattle.lengths.proofs.Answers.{stops_place, there, comes}
use Rattle.layout.specs.Event.{Event, Unsigned, Signed, Array}
use Rattle.layout.specs.Reading.{Reading, raise, given, follow, becoming}
use Rattle.layout.specs.Field.{Field, Wire, wire_of, wire_number, header, unsigneds, signeds}
use Rattle.layout.specs.Field.{unsigned, signed, float, payload, unsigned_array, signed_array, float_array, begin, end}
use Rattle.layout.specs.Field.{t_unsigned, t_signed, t_fixlen, t_unsigneds, t_signeds, t_floats, t_begin, t_end}
use Rattle.layout.specs.Message.{Bytes, header_of, count_of, unzigzagged, signed_varint, elements, body, field, depth_after}
use Rattle.layout.specs.Message.{Fields, prepend, fields_from, message, complete, incomplete, broken_at, verdict_by, verdict_of}
use Rattle.std.specs.Prelude.{Result, Ok, Err}
use Rattle.passing.specs.declared.Stop.{Stop}
use Rattle.passing.specs.Passing.{Rest, stop_in, Passes, ends}
use Rattle.passing.proofs.Ends.{stopped}
use Rattle.bodies.specs.Bodies.{deep, after_body}
use Rattle.whole.specs.Whole.{Walks, after_field, counted_field}
use Rattle.bodies.proofs.Bodies.{deep-scalar, deep-becoming, ends-elements}

-- ---- what follows a header

-- types 0 and 1 end where their varint does, types 3 and 4 alike
unzigzagged-ends : (d : ℕ) (o : Outcome ℕ) → ends d (unzigzagged o) ≡ ends d o
unfolding ends unzigzagged
unzigzagged-ends d (whole a rest) = refl
unzigzagged-ends d short = refl
unzigzagged-ends d (broken rest) = refl

scalar_wire : (n id : ℕ) (bs : List ℕ) (d : ℕ) → n < 2 → after_body id (wire_of n) bs d ≡ ends d (varint base bs)
unfolding after_body body depth_after
scalar_wire zero id bs d h = deep-scalar d (unsigned id) (λ x. refl) (varint base bs) (Unsigned id)
scalar_wire (suc zero) id bs d h = deep-scalar d (signed id) (λ x. refl) (signed_varint base bs) (Signed id) ∙ unzigzagged-ends d (varint base bs)
scalar_wire (suc (suc n)) id bs d h = absurd (omega arith)

-- signed elements end where unsigned ones do
signeds_then : (d id : ℕ) (o : Outcome ℕ) →
    deep d (given o (λ n rest. raise (Array id signeds n ∷ []) (becoming (signed_array id) (elements (signed_varint base) (Signed id) n rest)))).outcome
    ≡ deep d (given o (λ n rest. raise (Array id unsigneds n ∷ []) (becoming (unsigned_array id) (elements (varint base) (Unsigned id) n rest)))).outcome
unfolding given deep depth_after
signeds_then d id (whole n rest) =
    deep-becoming d (signed_array id) (λ x. refl) (elements (signed_varint base) (Signed id) n rest)
    ∙ ends-elements d (signed_varint base) (Signed id) n rest (λ bs. unzigzagged-ends d (varint base bs))
    ∙ sym (deep-becoming d (unsigned_array id) (λ x. refl) (elements (varint base) (Unsigned id) n rest) ∙ ends-elements d (varint base) (Unsigned id) n rest (λ bs. refl))
signeds_then d id short = refl
signeds_then d id (broken rest) = refl

array_wire : (n id : ℕ) (bs : List ℕ) (d : ℕ) → 3 ≤ n → n < 5 → after_body id (wire_of n) bs d ≡ after_body id t_unsigneds bs d
unfolding after_body body
array_wire zero id bs d h l = absurd (omega arith)
array_wire (suc zero) id bs d h l = absurd (omega arith)
array_wire (suc (suc zero)) id bs d h l = absurd (omega arith)
array_wire (suc (suc (suc zero))) id bs d h l = refl
array_wire (suc (suc (suc (suc zero)))) id bs d h l = signeds_then d id (count_of base bs)
array_wire (suc (suc (suc (suc (suc n))))) id bs d h l = absurd (omega arith)

pub end_wire : (n : ℕ) → 7 ≤ n → wire_of n ≡ t_end
end_wire zero h = absurd (omega arith)
end_wire (suc zero) h = absurd (omega arith)
end_wire (suc (suc zero)) h = absurd (omega arith)
end_wire (suc (suc (suc zero))) h = absurd (omega arith)
end_wire (suc (suc (suc (suc zero)))) h = absurd (omega arith)
end_wire (suc (suc (suc (suc (suc zero))))) h = absurd (omega arith)
end_wire (suc (suc (suc (suc (suc (suc zero)))))) h = absurd (omega arith)
end_wire (suc (suc (suc (suc (suc (suc (suc n))))))) h = refl

-- what passes, by its type
module _ (wire : ℕ) (bs : List ℕ) (r : Result Rest (Stop Rest)) where
  pub scalar_passes : wire < 2 → Passes (λ d. ends d (varint base bs)) r → (id : ℕ) → Passes (after_body id (wire_of wire) bs) r
  scalar_passes h p id d = scalar_wire wire id bs d h ∙ p d

  pub array_passes : 3 ≤ wire → wire < 5 → ((id : ℕ) → Passes (after_body id t_unsigneds bs) r) → (id : ℕ) → Passes (after_body id (wire_of wire) bs) r
  array_passes h l p id d = array_wire wire id bs d h l ∙ p id d

-- ---- what a walk makes of it

-- Of what keeps the depth the end says how far it goes, where nothing is counted.
module _ (id n d : ℕ) (w : Wire) (bs : List ℕ) where
  pub landed : (rest : List ℕ) → after_body id w bs d ≡ whole d rest → (m : ℕ) × (reached d n (body base d id w bs).outcome ≡ whole (point_of d m) rest) × Unit {0}
  unfolding after_body
  landed rest p =
      let x = there d (body base d id w bs).outcome rest p in
      (n + field_length x.0, comes d n (n + field_length x.0) (body base d id w bs).outcome x.0 rest x.1 x.2 refl, tt)

  pub landed_not : (e : Stop Rest) → after_body id w bs d ≡ stop_in e → reached d n (body base d id w bs).outcome ≡ stop_in e
  unfolding after_body
  landed_not e p = stops_place (body base d id w bs).outcome e d n p

-- a header's number is its id and its type
pub header_of_lem : (h : ℕ) → length (header (h / 8) (wire_of (h % 8))) ≡ varint_length h
header_of_lem h =
    let e : h / 8 * 8 + wire_number (wire_of (h % 8)) ≡ h = omega (arith, wire_number_lem (h % 8) (mod-lt h {m = 8} (lit< tt))) in
    ap (λ (n : ℕ). length (shortest n)) e

abbrev given_header : ℕ → ℕ → Outcome ℕ → Outcome Point
given_header d n o = reached d n (given o (λ h rest. body base d (h / 8) (wire_of (h % 8)) rest)).outcome

-- what follows the header h, by its type
abbrev pub After : ℕ → ℕ → ℕ → Wire → List ℕ → Outcome Point
After h d n w bs = reached d n (body base d (h / 8) w bs).outcome

module _ (h d n : ℕ) (bs : List ℕ) where
  by_type : (w : Wire) {o : Outcome Point} → wire_of (h % 8) ≡ w → After h d n w bs ≡ o → After h d n (wire_of (h % 8)) bs ≡ o
  by_type w q e = ap (λ (w : Wire). After h d n w bs) q ∙ e

  pub opens : wire_of (h % 8) ≡ t_begin → d < base.depth → After h d n (wire_of (h % 8)) bs ≡ whole (point_of (d + 1) (n + varint_length h)) bs
  unfolding body reached depth_after field_bytes
  opens q lt =
      let y : length (header (h / 8) t_begin) ≡ varint_length h = ap (λ (w : Wire). length (header (h / 8) w)) (sym q) ∙ header_of_lem h in
      let m : suc d ≡ d + 1 = sym (add-one d) in
      by_type t_begin q (simp (lt-ltb d base.depth lt) (λ j. whole (point_of (m j) (n + y j)) bs))

  pub opens_not : wire_of (h % 8) ≡ t_begin → base.depth ≤ d → After h d n (wire_of (h % 8)) bs ≡ broken bs
  unfolding body reached
  opens_not q g = by_type t_begin q (simp (le-ltb d base.depth g))

  pub closes : wire_of (h % 8) ≡ t_end → 0 < d → After h d n (wire_of (h % 8)) bs ≡ whole (point_of (d - 1) (n + varint_length 7)) bs
  unfolding body reached depth_after field_bytes
  closes q g = by_type t_end q (simp (ne_eqb d 0 (λ z. omega arith)))

  pub closes_not : wire_of (h % 8) ≡ t_end → d ≡ 0 → After h d n (wire_of (h % 8)) bs ≡ broken bs
  unfolding body reached
  closes_not q g = by_type t_end q (simp (eq-eqb d 0 g))

-- ---- a field

module _ (d n : ℕ) (bs : List ℕ) where
  pub field_then : {h : ℕ} {rest : List ℕ} → header_of base bs ≡ whole h rest → counted_field d n bs ≡ After h d n (wire_of (h % 8)) rest
  unfolding counted_field field given
  field_then q = ap (given_header d n) q

  pub field_stops : (e : Stop Rest) → header_of base bs ≡ stop_in e → counted_field d n bs ≡ stop_in e
  unfolding counted_field field given reached
  field_stops e q = stopped e (given_header d n) refl (λ bs. refl) q

pub further : {A : Type 0} (counts : A → ℕ → Type 0) {o o' : Outcome Point} (r : Result (A × ℕ × Rest) (Stop Rest)) → o' ≡ o → Walks counts o r → Walks counts o' r
further counts (Ok (x, d, s)) e w = (w.0, e ∙ w.1, w.2)
further counts (Err s) e w = e ∙ w

-- a field has bytes
headed : (id : ℕ) (w : Wire) (bs : List ℕ) → 1 ≤ length (header id w ++ bs)
headed id w bs = simp length-append (omega (arith, length_some (id * 8 + wire_number w)))

pub field_some : (x : Field) → 1 ≤ field_length x
unfolding field_bytes
field_some (unsigned id n) = headed id t_unsigned _
field_some (signed id z) = headed id t_signed _
field_some (float id w x) = headed id t_fixlen _
field_some (payload id r bs) = headed id t_fixlen _
field_some (unsigned_array id ns) = headed id t_unsigneds _
field_some (signed_array id zs) = headed id t_signeds _
field_some (float_array id w xs) = headed id t_floats _
field_some (begin id) = length_some (id * 8 + 6)
field_some (end id) = length_some 7

-- ---- the fields that are left

-- the verdict on t, as that on the bytes left at depth d
pub record Left (t rest : List ℕ) (d : ℕ) : Type 0 where
  pub bytes : Bytes rest
  pub fuel : ℕ
  pub enough : length rest ≤ fuel
  pub same : verdict_of base t ≡ verdict_by (length t) (fields_from base fuel d rest).outcome

pub left_start : (t : List ℕ) → Bytes t → Left t t 0
unfolding verdict_of message
left_start t a = record { bytes = a; fuel = length t; enough = omega arith; same = refl }

-- one field's end and depth decide what follows
judged-prepend : (n : ℕ) (x : Field) (es : List Event) (o : Outcome Fields) → verdict_by n (becoming (prepend x) (record { events = es; outcome = o })).outcome ≡ verdict_by n o
unfolding verdict_by follow
judged-prepend n x es (whole fs rest) = refl
judged-prepend n x es short = refl
judged-prepend n x es (broken rest) = refl

module _ (n d m : ℕ) (es : List Event) where
  next-whole : (o : Outcome Field) (e : ℕ) (rest : List ℕ) → deep d o ≡ whole e rest →
      verdict_by n (follow es o (λ x rest. becoming (prepend x) (fields_from base m (depth_after d x) rest))).outcome ≡ verdict_by n (fields_from base m e rest).outcome
  unfolding deep follow
  next-whole (whole x bs) e rest k =
      let a : depth_after d x ≡ e = cc in
      let b : bs ≡ rest = cc in
      judged-prepend n x (fields_from base m (depth_after d x) bs).events (fields_from base m (depth_after d x) bs).outcome
      ∙ ap (λ (e : ℕ). verdict_by n (fields_from base m e bs).outcome) a
      ∙ ap (λ (bs : List ℕ). verdict_by n (fields_from base m e bs).outcome) b
  next-whole short e rest k = absurd cc
  next-whole (broken bs) e rest k = absurd cc

  next_short : (o : Outcome Field) → deep d o ≡ short → verdict_by n (follow es o (λ x rest. becoming (prepend x) (fields_from base m (depth_after d x) rest))).outcome ≡ incomplete
  unfolding deep follow verdict_by
  next_short (whole x bs) k = absurd cc
  next_short short k = refl
  next_short (broken bs) k = absurd cc

  next_broken : (o : Outcome Field) (rest : List ℕ) → deep d o ≡ broken rest →
      verdict_by n (follow es o (λ x rest. becoming (prepend x) (fields_from base m (depth_after d x) rest))).outcome ≡ broken_at (n - length rest)
  unfolding deep follow verdict_by
  next_broken (whole x bs) rest k = absurd cc
  next_broken short rest k = absurd cc
  next_broken (broken bs) rest k = let b : bs ≡ rest = cc in ap (λ (l : List ℕ). broken_at (n - length l)) b

-- a turn: there is a byte, so there is a field or the start of one
unfolded : (m d : ℕ) (bs : List ℕ) → 0 < length bs → fields_from base (suc m) d bs ≡ follow (field base d bs).events (field base d bs).outcome (λ x rest. becoming (prepend x) (fields_from base m (depth_after d x) rest))
unfolding fields_from
unfolded m d [] h = absurd (omega arith)
unfolded m d (b ∷ bs) h = refl

pub fueled : (n d : ℕ) (bs : List ℕ) → 0 < length bs → length bs ≤ n →
    fields_from base n d bs ≡ follow (field base d bs).events (field base d bs).outcome (λ x rest. becoming (prepend x) (fields_from base (n - 1) (depth_after d x) rest))
fueled zero d bs h l = absurd (omega arith)
fueled (suc m) d bs h l =
    let e : m ≡ suc m - 1 = omega arith in
    unfolded m d bs h ∙ ap (λ (k : ℕ). follow (field base d bs).events (field base d bs).outcome (λ x rest. becoming (prepend x) (fields_from base k (depth_after d x) rest))) e

module _ {t rest : List ℕ} {d : ℕ} (s : Left t rest d) (h : 0 < length rest) where
  turned : verdict_of base t ≡ verdict_by (length t) (follow (field base d rest).events (field base d rest).outcome (λ x rest. becoming (prepend x) (fields_from base (s.fuel - 1) (depth_after d x) rest))).outcome
  turned = s.same ∙ ap (λ (r : Reading Fields). verdict_by (length t) r.outcome) (fueled s.fuel d rest h s.enough)

  -- by what the field there comes to
  pub goes_on : (x : Field) (after : List ℕ) (e : ℕ) → (field base d rest).outcome ≡ whole x after → depth_after d x ≡ e → Left t after e
  unfolding deep
  goes_on x after e q f =
      let b = field_back base d rest x after s.bytes q in
      let k : deep d (field base d rest).outcome ≡ whole e after = ap (deep d) q ∙ ap (λ (e : ℕ). whole e after) f in
      record {
        bytes = b.bytes;
        fuel = s.fuel - 1;
        enough = omega (arith, b.shorter, field_some x, s.enough);
        same = turned ∙ next-whole (length t) d (s.fuel - 1) (field base d rest).events (field base d rest).outcome e after k;
      }

  pub ends_short : after_field d rest ≡ short → incomplete ≡ verdict_of base t
  unfolding after_field
  ends_short k = sym (turned ∙ next_short (length t) d (s.fuel - 1) (field base d rest).events (field base d rest).outcome k)

  pub ends_broken : (after : List ℕ) → after_field d rest ≡ broken after → broken_at (length t - length after) ≡ verdict_of base t
  unfolding after_field
  ends_broken after k = sym (turned ∙ next_broken (length t) d (s.fuel - 1) (field base d rest).events (field base d rest).outcome after k)

-- the end
none_left : (n k d : ℕ) → verdict_by k (fields_from base n d []).outcome ≡ pick (eqb d 0) complete incomplete
unfolding verdict_by fields_from
none_left zero k d = refl
none_left (suc n) k d = refl

pub none : (bs : List ℕ) → length bs ≡ 0 → bs ≡ []
none [] h = refl
none (b ∷ bs) h = absurd (omega arith)

module _ {t rest : List ℕ} {d : ℕ} (s : Left t rest d) (h : length rest ≡ 0) where
  over : verdict_of base t ≡ pick (eqb d 0) complete incomplete
  over = s.same ∙ ap (λ (bs : List ℕ). verdict_by (length t) (fields_from base s.fuel d bs).outcome) (none rest h) ∙ none_left s.fuel (length t) d

  pub left_complete : d ≡ 0 → complete ≡ verdict_of base t
  left_complete e = sym (over ∙ ap (λ (b : Bool). pick b complete incomplete) (eq-eqb _ _ e))

  pub left_open : (d ≡ 0 → ⊥) → incomplete ≡ verdict_of base t
  left_open e = sym (over ∙ ap (λ (b : Bool). pick b complete incomplete) (ne_eqb _ _ e))
