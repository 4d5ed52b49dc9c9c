-- The fields of a message one after another: the length of its plain copy is what was counted so far, and that of the fields left. The verdict is
-- that on these.
use Prim.Native.Nat.{ℕ, zero, suc, ◌+◌, ◌-◌, ◌≤◌, ◌<◌}
use mathlib.Core.Path.{◌≡◌, refl, sym, ap, ◌∙◌, subst}
use mathlib.Core.List.{List, []}
use native.Mathlib.Omega.{arith}
use lib.ListN.{length, length-append}
use Rattle.layout.specs.Limits.{base}
use Rattle.layout.specs.Varint.{Outcome, whole, short, broken}
use Rattle.layout.specs.Event.{Event}
use Rattle.layout.specs.Reading.{Reading, follow, becoming}
use Rattle.layout.specs.Field.{Field, each}
use Rattle.layout.specs.Message.{Bytes, Fields, prepend, field, fields_from, message, fields_of, whole_of, depth_after}
use Rattle.layout.specs.Copy.{field_bytes, encode, plain_copy}
use Rattle.bodies.specs.Bodies.{deep}
use Rattle.laws.proofs.Field.{field_back}
use Rattle.passing.specs.Passing.{Rest, stop_in}
use Rattle.whole.specs.Whole.{Judges, after_field, counted_field, placed_in}
use Rattle.whole.proofs.Fields.{Left, fueled, left_start, goes_on, ends_short, ends_broken, left_complete, left_open, none, field_some}
use Rattle.lengths.specs.Lengths.{Point, point_of, reached, field_length}
use Rattle.std.specs.Prelude.{Ok, Err}
use Rattle.passing.specs.declared.Stop.{Stop}
use Rattle.passing.specs.declared.Stop.TheVariants.{Short, Broken}

-- ---- an end without its length

unfoldable forget : Outcome Point → Outcome ℕ
forget (whole p rest) = whole p.depth rest
forget short = short
forget (broken rest) = broken rest

forgotten : (d n : ℕ) (o : Outcome Field) → deep d o ≡ forget (reached d n o)
unfolding deep reached forget
forgotten d n (whole x rest) = refl
forgotten d n short = refl
forgotten d n (broken rest) = refl

plain : (d n : ℕ) (bs : List ℕ) (o : Outcome Point) → counted_field d n bs ≡ o → after_field d bs ≡ forget o
unfolding after_field counted_field
plain d n bs o e = forgotten d n (field base d bs).outcome ∙ ap forget e

-- ---- the sum

-- n bytes of the plain copy are those of the fields before the bytes left, where the depth is d
pub record Summed (t rest : List ℕ) (d n : ℕ) : Type 0 where
  pub left : Left t rest d
  pub fuel : ℕ
  pub enough : length rest ≤ fuel
  pub total : (fs : Fields) (end : List ℕ) → (fields_from base fuel d rest).outcome ≡ whole fs end → length (plain_copy base t) ≡ n + length (encode fs.list)

pub summed_start : (t : List ℕ) → Bytes t → Summed t t 0 0
unfolding plain_copy fields_of message whole_of
summed_start t a =
    record {
      left = left_start t a;
      fuel = length t;
      enough = omega arith;
      total = λ fs end e. let n : length (plain_copy base t) ≡ length (encode fs.list) = ap (λ (o : Outcome Fields). length (encode (whole_of o))) e in omega arith;
    }

-- a field before the others
added : (x : Field) (fs : Fields) → length (encode (prepend x fs).list) ≡ field_length x + length (encode fs.list)
unfolding encode each
added x fs = length-append (field_bytes x) (each field_bytes fs.list)

prepended : (x : Field) (fs : Fields) (rest : List ℕ) (es : List Event) (o : Outcome Fields) → o ≡ whole fs rest → (becoming (prepend x) (record { events = es; outcome = o })).outcome ≡ whole (prepend x fs) rest
unfolding follow
prepended x fs rest es o e = ap (λ (o : Outcome Fields). (becoming (prepend x) (record { events = es; outcome = o })).outcome) e

-- where a field is read, it is the one that was counted
counted : (d n e m : ℕ) (o : Outcome Field) (bs : List ℕ) → reached d n o ≡ whole (point_of e m) bs → (x : Field) × (o ≡ whole x bs) × (depth_after d x ≡ e) × (n + field_length x ≡ m)
unfolding reached
counted d n e m (whole x r) bs k =
    let b : r ≡ bs = cc in
    let p : point_of (depth_after d x) (n + field_length x) ≡ point_of e m = cc in
    (x, ap (whole x) b, ap (λ (p : Point). p.depth) p, ap (λ (p : Point). p.len) p)
counted d n e m short bs k = absurd cc
counted d n e m (broken r) bs k = absurd cc

-- what a field came to
pub fielded : (d n e m : ℕ) (bs after : List ℕ) → counted_field d n bs ≡ whole (point_of e m) after →
    (x : Field) × ((field base d bs).outcome ≡ whole x after) × (depth_after d x ≡ e) × (n + field_length x ≡ m)
unfolding counted_field
fielded d n e m bs after p = counted d n e m (field base d bs).outcome after p

module _ {t rest : List ℕ} {d n : ℕ} (s : Summed t rest d n) (h : 0 < length rest) where
  summed_next : (after : List ℕ) (e m : ℕ) → counted_field d n rest ≡ whole (point_of e m) after → Summed t after e m
  unfolding follow
  summed_next after e m p =
      let c = fielded d n e m rest after p in
      let x = c.0 in
      let k = field_back base d rest x after s.left.bytes c.1 in
      record {
        left = goes_on s.left h x after e c.1 c.2;
        fuel = s.fuel - 1;
        enough = omega (arith, k.shorter, field_some x, s.enough);
        total =
            λ fs end q.
            let b : (fields_from base (s.fuel - 1) (depth_after d x) after).outcome ≡ whole fs end = ap (λ (e : ℕ). (fields_from base (s.fuel - 1) e after).outcome) c.2 ∙ q in
            let f : (fields_from base s.fuel d rest).outcome ≡ whole (prepend x fs) end =
            ap (λ (r : Reading Fields). r.outcome) (fueled s.fuel d rest h s.enough)
            ∙ ap (λ (o : Outcome Field). (follow (field base d rest).events o (λ x rest. becoming (prepend x) (fields_from base (s.fuel - 1) (depth_after d x) rest))).outcome) c.1
            ∙ prepended x fs end (fields_from base (s.fuel - 1) (depth_after d x) after).events (fields_from base (s.fuel - 1) (depth_after d x) after).outcome b
            in
            omega (arith, s.total (prepend x fs) end f, added x fs, c.3);
      }

  -- a field has bytes: fewer are left after it
  summed_shorter : (after : List ℕ) (e m : ℕ) → counted_field d n rest ≡ whole (point_of e m) after → length after < length rest
  summed_shorter after e m p =
      let c = fielded d n e m rest after p in
      omega (arith, (field_back base d rest c.0 after s.left.bytes c.1).shorter, field_some c.0)

-- what a walk has counted
module _ {A : Type 0} (counts : A → ℕ → Type 0) (t : List ℕ) where
  abbrev pub Counted : A → List ℕ → ℕ → Type 0
  Counted x rest d = (n : ℕ) × Summed t rest d n × counts x n

  pub walk_start : (x : A) → Bytes t → counts x 0 → Counted x t 0
  walk_start x a p = (0, summed_start t a, p)

  module _ (x : A) (rest : List ℕ) (d : ℕ) (c : Counted x rest d) (h : 0 < length rest) where
    pub walk_next : {y : A} {e : ℕ} {after : List ℕ} →
        ((n : ℕ) → counts x n → (m : ℕ) × (counted_field d n rest ≡ whole (point_of e m) after) × counts y m) → Counted y after e
    walk_next {y} {e} {after} p = let w = p c.0 c.2 in (w.0, summed_next c.1 h after e w.0 w.1, w.2)

    pub walk_shorter : {y : A} {e : ℕ} {after : List ℕ} →
        ((n : ℕ) → counts x n → (m : ℕ) × (counted_field d n rest ≡ whole (point_of e m) after) × counts y m) → length after < length rest
    walk_shorter {y} {e} {after} p = let w = p c.0 c.2 in summed_shorter c.1 h after e w.0 w.1

    pub walk_stops : (e : Stop Rest) → ((n : ℕ) → counts x n → counted_field d n rest ≡ stop_in e) → Judges counts t (Err (placed_in (length t) e))
    unfolding forget
    walk_stops Short p = sym (ends_short c.1.left h (plain d c.0 rest _ (p c.0 c.2)))
    walk_stops (Broken s) p = sym (ends_broken c.1.left h s.now (plain d c.0 rest _ (p c.0 c.2)))

-- the end
none_left : (f d : ℕ) → (fields_from base f d []).outcome ≡ whole (record { list = []; depth = d }) []
unfolding fields_from
none_left zero d = refl
none_left (suc f) d = refl

module _ {t rest : List ℕ} {d n : ℕ} (s : Summed t rest d n) (h : length rest ≡ 0) where
  sum_is : n ≡ length (plain_copy base t)
  unfolding encode each
  sum_is =
      let e : length (plain_copy base t) ≡ n + length (encode []) =
      s.total (record { list = []; depth = d }) [] (ap (λ (bs : List ℕ). (fields_from base s.fuel d bs).outcome) (none rest h) ∙ none_left s.fuel d)
      in
      omega arith

module _ {A : Type 0} (counts : A → ℕ → Type 0) (t : List ℕ) (x : A) (rest : List ℕ) (d : ℕ) (c : Counted counts t x rest d) (h : length rest ≡ 0) where
  pub walk_complete : d ≡ 0 → Judges counts t (Ok x)
  walk_complete e = (sym (left_complete c.1.left h e), subst (counts x) (sum_is c.1 h) c.2)

  pub walk_open : (d ≡ 0 → ⊥) → Judges counts t (Err Short)
  walk_open e = sym (left_open c.1.left h e)
