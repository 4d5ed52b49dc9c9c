-- What an answer of passing or bodies says of the length: a value found, none found, an end found behind a word, and varints in a row.
use Prim.Native.Nat.{ℕ, zero, suc, ◌+◌, ◌-◌, ◌*◌, ◌/◌, ◌%◌, ◌^◌, ◌≤◌, ◌<◌}
use mathlib.Core.Path.{◌≡◌, refl, ap, ◌∙◌, subst}
use mathlib.Core.Bool.{true}
use mathlib.Core.List.{List, ◌++◌}
use native.Mathlib.Nat.{mod-lt}
use native.Mathlib.Omega.{arith}
use lib.Dec.{leb, lit<}
use lib.ListN.{length, get_or, length-append}
use Rattle.layout.specs.Limits.{base}
use Rattle.layout.specs.Varint.{Outcome, whole, short, broken, varint, shortest}
use Rattle.layout.specs.Zigzag.{zigzag}
use Rattle.layout.specs.Event.{Unsigned, Signed}
use Rattle.layout.specs.Reading.{Reading, given}
use Rattle.layout.specs.Field.{Field, Subtyped, subtype_of, subtype_number, known, unknown, header, unsigned_array, signed_array, each}
use Rattle.layout.specs.Field.{t_unsigned, t_signed, t_fixlen, t_unsigneds, t_signeds, t_floats}
use Rattle.layout.specs.Message.{Bytes, count_of, signed_varint, fixlen, float_array_of, body, depth_after}
use Rattle.layout.specs.Copy.{field_bytes}
use Rattle.laws.proofs.Parser.{Parses}
use Rattle.laws.proofs.Parts.{checked_parses}
use Rattle.laws.proofs.Field.{subtype-number}
use Rattle.laws.proofs.Varint.{varint_parses}
use Rattle.std.specs.Prelude.{Result, Ok, Err}
use Rattle.passing.specs.declared.Stop.{Stop}
use Rattle.passing.specs.declared.Stop.TheVariants.{Short, Broken}
use Rattle.passing.specs.Passing.{Rest, stop_in, outcome_in}
use Rattle.passing.proofs.Ends.{stopped}
use Rattle.passing.proofs.Varints.{tail, one, two}
use Rattle.bodies.specs.Bodies.{deep, after_word, after_floats}
use Rattle.shortest.specs.Own.{Number, Ends}
use Rattle.varint.proofs.Shortest.{length_one, length_more}
use Rattle.lengths.specs.Lengths.{sized, onward, varint_length, varints, field_length, Point, point_of, reached, pointed, Sizes, BodySizes}
use Rattle.lengths.proofs.Outcomes.{unsigned_reached, signed-reached, array_reached, unzigzagged-sized, Said, word-length, floats_length}

-- ---- answers

-- at a depth that it keeps
finishes : (d n : ℕ) {o : Outcome ℕ} {p : Outcome Point} (r : Result (ℕ × Rest) (Stop Rest)) → p ≡ pointed d o → o ≡ outcome_in (λ (f : ℕ × Rest). n + f.0) (λ (f : ℕ × Rest). f.1) r →
    p ≡ outcome_in (λ (f : ℕ × Rest). point_of d (n + f.0)) (λ (f : ℕ × Rest). f.1) r
unfolding pointed
finishes d n (Ok f) e s = e ∙ ap (pointed d) s
finishes d n (Err x) e s = e ∙ stopped x (pointed d) refl (λ bs. refl) s

-- a value, and what follows it; and where none is found, nothing follows
module _ (k : ℕ → List ℕ → Reading Field) (d n : ℕ) {o : Outcome ℕ} where
  then_given : {v : ℕ} {rest : List ℕ} → o ≡ whole v rest → reached d n (given o k).outcome ≡ reached d n (k v rest).outcome
  unfolding given
  then_given q = ap (λ (o : Outcome ℕ). reached d n (given o k).outcome) q

  stops_given : (e : Stop Rest) → o ≡ stop_in e → reached d n (given o k).outcome ≡ stop_in e
  unfolding reached given
  stops_given e q = stopped e (λ (o : Outcome ℕ). reached d n (given o k).outcome) refl (λ bs. refl) q

-- no end found: likewise
pub stops_place : (o : Outcome Field) (e : Stop Rest) (d n : ℕ) → deep d o ≡ stop_in e → reached d n o ≡ stop_in e
unfolding reached deep
stops_place (whole x rest) Short d n p = absurd cc
stops_place short Short d n p = refl
stops_place (broken rest) Short d n p = absurd cc
stops_place (whole x rest) (Broken s) d n p = absurd cc
stops_place short (Broken s) d n p = absurd cc
stops_place (broken rest) (Broken s) d n p = let r : rest ≡ s.now = cc in ap broken r

-- an end found: a field, which keeps the depth
pub there : (d : ℕ) (o : Outcome Field) (rest : List ℕ) → deep d o ≡ whole d rest → (x : Field) × (o ≡ whole x rest) × (depth_after d x ≡ d)
unfolding deep
there d (whole x r) rest e = let q : r ≡ rest = cc in let g : depth_after d x ≡ d = cc in (x, ap (whole x) q, g)
there d short rest e = absurd cc
there d (broken r) rest e = absurd cc

-- .. and what it comes to
pub comes : (d n m : ℕ) (o : Outcome Field) (x : Field) (rest : List ℕ) → o ≡ whole x rest → depth_after d x ≡ d → n + field_length x ≡ m → reached d n o ≡ whole (point_of d m) rest
unfolding reached
comes d n m o x rest e g h = ap (reached d n) e ∙ (λ i. whole (point_of (g i) (h i)) rest)

-- ---- what was read

-- values and counts
pub value_reads : Parses (varint base) (λ n. n < 2 ^ base.bits) shortest
value_reads = varint_parses base

pub count_reads : Parses (count_of base) (λ n. (n < 2 ^ base.bits) × (leb n base.count ≡ true)) shortest
count_reads = checked_parses (varint_parses base) (λ n. leb n base.count)

-- a value that was read has at least as many bytes as it needs
module _ (bs : List ℕ) (a : Bytes bs) {v : ℕ} {rest : List ℕ} where
  pub value_read : varint base bs ≡ whole v rest → (varint_length v + length rest ≤ length bs) × Bytes rest
  value_read q = let g = value_reads.back bs v rest a q in (g.shorter, g.bytes)

  pub count_read : count_of base bs ≡ whole v rest → (varint_length v + length rest ≤ length bs) × Bytes rest
  count_read q = let g = count_reads.back bs v rest a q in (g.shorter, g.bytes)

-- where only its length is known
pub size_read : (bs : List ℕ) (m : ℕ) {rest : List ℕ} → Bytes bs → sized varint_length 0 (varint base bs) ≡ whole m rest → (m + length rest ≤ length bs) × Bytes rest
unfolding sized
size_read bs m {rest} a e = go (varint base bs) refl e
  where
    go : (o : Outcome ℕ) → varint base bs ≡ o → sized varint_length 0 o ≡ whole m rest → (m + length rest ≤ length bs) × Bytes rest
    go (whole v mid) q e =
        let l : 0 + varint_length v ≡ m = cc in
        let r : mid ≡ rest = cc in
        let g = value_read bs a (q ∙ ap (whole v) r) in
        (omega (arith, g.0), g.1)
    go short q e = absurd cc
    go (broken s) q e = absurd cc

-- ---- a varint

-- by its value
pub value_sizes : (bs : List ℕ) {v n : ℕ} {rest : List ℕ} → varint base bs ≡ whole v rest → varint_length v ≡ n → (m : ℕ) → sized varint_length m (varint base bs) ≡ whole (m + n) rest
unfolding sized
value_sizes bs {v} {n} {rest} q y m = ap (sized varint_length m) q ∙ ap (λ (n : ℕ). whole (m + n) rest) y

pub stops_sizes : (bs : List ℕ) (e : Stop Rest) → varint base bs ≡ stop_in e → (m : ℕ) → sized varint_length m (varint base bs) ≡ stop_in e
unfolding sized
stops_sizes bs e q m = stopped e (sized varint_length m) refl (λ bs. refl) q

-- in its shortest form: it is as long as it stands
pub own_sizes : {bs r : List ℕ} → Ends bs Number r → (m : ℕ) → sized varint_length m (varint base bs) ≡ whole (m + (length bs - length r)) r
own_sizes {bs} {r} e =
    let v : ℕ = e.good.0 in
    let d : bs ≡ shortest v ++ r = e.split ∙ ap (λ (l : List ℕ). l ++ r) e.good.2 in
    let n : length bs ≡ varint_length v + length r = ap length d ∙ length-append (shortest v) r in
    value_sizes bs (ap (varint base) d ∙ (varint_parses base).forth v r e.good.1) (omega arith)

-- of one byte, and of two
pub one_sizes : (bs : List ℕ) → 1 ≤ length bs → get_or bs 0 0 < 128 → (m : ℕ) → sized varint_length m (varint base bs) ≡ whole (m + 1) (tail 1 bs)
one_sizes bs h l = value_sizes bs (one bs h l) (length_one _ l)

pub two_sizes : (bs : List ℕ) → 128 ≤ get_or bs 0 0 → 2 ≤ length bs → 0 < get_or bs 1 0 → get_or bs 1 0 < 128 → (m : ℕ) → sized varint_length m (varint base bs) ≡ whole (m + 2) (tail 2 bs)
two_sizes bs g h p l =
    let v : ℕ = get_or bs 0 0 % 128 + get_or bs 1 0 * 128 in
    let c : get_or bs 0 0 % 128 < 128 = mod-lt (get_or bs 0 0) {m = 128} (lit< tt) in
    value_sizes bs (two bs g h l) (length_more v (omega arith) ∙ ap suc (length_one (v / 128) (omega (arith, c))))

-- types 0 and 1
pub as_scalars : (bs : List ℕ) (r : Result (ℕ × Rest) (Stop Rest)) → Sizes (λ n. sized varint_length n (varint base bs)) r → BodySizes t_unsigned bs r × BodySizes t_signed bs r
as_scalars bs r s = (
  λ id d k. finishes d (k + length (header id t_unsigned)) r (unsigned_reached d id k (k + length (header id t_unsigned)) bs refl) (s (k + length (header id t_unsigned))),
  λ id d k. finishes d (k + length (header id t_signed)) r (signed-reached d id k (k + length (header id t_signed)) bs refl) (s (k + length (header id t_signed))),
)

pub scalar_sizes : (bs : List ℕ) (p : ℕ) {rest : List ℕ} → ((m : ℕ) → sized varint_length m (varint base bs) ≡ whole (m + p) rest) →
    ((id d k : ℕ) → reached d k (body base d id t_unsigned bs).outcome ≡ whole (point_of d (k + length (header id t_unsigned) + p)) rest)
    × ((id d k : ℕ) → reached d k (body base d id t_signed bs).outcome ≡ whole (point_of d (k + length (header id t_signed) + p)) rest)
unfolding pointed
scalar_sizes bs p s = (
  λ id d k. unsigned_reached d id k (k + length (header id t_unsigned)) bs refl ∙ ap (pointed d) (s (k + length (header id t_unsigned))),
  λ id d k. signed-reached d id k (k + length (header id t_signed)) bs refl ∙ ap (pointed d) (s (k + length (header id t_signed))),
)

-- ---- type 2

-- a word's number is its length and its subtype
said-word : (id w : ℕ) (x : Field) (bs rest : List ℕ) → Bytes bs → (u : Subtyped) → subtype_of (w % 8) ≡ u → (fixlen base id (w / 8) u bs).outcome ≡ whole x rest →
    Said (length (header id t_fixlen) + varint_length w) (w / 8) bs rest x
unfolding fixlen
said-word id w x bs rest a (known s) e q =
    let v : w / 8 * 8 + subtype_number s ≡ w = omega (arith, subtype-number (w % 8) s e) in
    subst (λ (v : ℕ). Said (length (header id t_fixlen) + varint_length v) (w / 8) bs rest x) v (word-length id x bs rest a (w / 8) s q)
said-word id w x bs rest a unknown e q = absurd cc

-- the word w, and what it says of the bytes after it
module _ (bs : List ℕ) {mid : List ℕ} {w : ℕ} (q : varint base bs ≡ whole w mid) where
  pub fixlen_nowhere : (e : Stop Rest) → ((id d : ℕ) → after_word id w mid d ≡ stop_in e) → (id d k : ℕ) → reached d k (body base d id t_fixlen bs).outcome ≡ stop_in e
  unfolding body after_word
  fixlen_nowhere e p id d k = then_given (λ w rest. fixlen base id (w / 8) (subtype_of (w % 8)) rest) d k q ∙ stops_place _ e d k (p id d)

  module _ {rest : List ℕ} (p : (id d : ℕ) → after_word id w mid d ≡ whole d rest) where
    fixlen_said : Bytes mid → (id d : ℕ) → (x : Field) × ((fixlen base id (w / 8) (subtype_of (w % 8)) mid).outcome ≡ whole x rest) × (depth_after d x ≡ d)
        × Said (length (header id t_fixlen) + varint_length w) (w / 8) mid rest x
    unfolding after_word
    fixlen_said a id d =
        let o = there d (fixlen base id (w / 8) (subtype_of (w % 8)) mid).outcome rest (p id d) in
        (o.0, o.1, o.2, said-word id w o.0 mid rest a (subtype_of (w % 8)) refl o.1)

    -- word and bytes were there to be read
    pub fixlen_read : Bytes bs → (varint_length w + w / 8 ≤ length bs) × Bytes mid
    fixlen_read a = let g = value_read bs a q in (omega (arith, g.0, (fixlen_said g.1 0 0).3.1), g.1)

    pub fixlen_sizes : {n : ℕ} → Bytes mid → n ≡ varint_length w → (id d k : ℕ) →
        reached d k (body base d id t_fixlen bs).outcome ≡ whole (point_of d (k + length (header id t_fixlen) + (n + w / 8))) rest
    unfolding body
    fixlen_sizes {n} a y id d k =
        let s = fixlen_said a id d in
        then_given (λ w rest. fixlen base id (w / 8) (subtype_of (w % 8)) rest) d k q
        ∙ comes d k (k + length (header id t_fixlen) + (n + w / 8)) _ s.0 rest s.1 s.2 (omega (arith, s.3.0))

pub fixlen_stops : (bs : List ℕ) (e : Stop Rest) → varint base bs ≡ stop_in e → (id d k : ℕ) → reached d k (body base d id t_fixlen bs).outcome ≡ stop_in e
unfolding body
fixlen_stops bs e q id d k = stops_given (λ w rest. fixlen base id (w / 8) (subtype_of (w % 8)) rest) d k e q

-- ---- types 3 and 4

three : (xs ys zs : List ℕ) → length (xs ++ (ys ++ zs)) ≡ length xs + (length ys + length zs)
three xs ys zs = length-append xs (ys ++ zs) ∙ ap (λ (n : ℕ). length xs + n) (length-append ys zs)

-- the count c, and so many elements
module _ (bs : List ℕ) {mid : List ℕ} {c : ℕ} (q : count_of base bs ≡ whole c mid) (id d k : ℕ) where
  unsigneds_turn : reached d k (body base d id t_unsigneds bs).outcome ≡ pointed d (varints base (k + length (header id t_unsigneds) + varint_length c) c mid)
  unfolding body field_bytes depth_after
  unsigneds_turn =
      then_given _ d k q
      ∙ array_reached shortest (varint base) (Unsigned id) (λ n bs. refl) d (unsigned_array id) (λ xs. refl) k (k + length (header id t_unsigneds)) (length (header id t_unsigneds))
      (λ xs. three (header id t_unsigneds) (shortest (length xs)) (each shortest xs)) refl c mid

  signeds_turn : reached d k (body base d id t_signeds bs).outcome ≡ pointed d (varints base (k + length (header id t_signeds) + varint_length c) c mid)
  unfolding body field_bytes depth_after
  signeds_turn =
      then_given _ d k q
      ∙ array_reached (λ z. shortest (zigzag z)) (signed_varint base) (Signed id) (λ n bs. unzigzagged-sized n (varint base bs)) d (signed_array id) (λ zs. refl) k (k + length (header id t_signeds)) (length (header id t_signeds))
      (λ zs. three (header id t_signeds) (shortest (length zs)) (each (λ z. shortest (zigzag z)) zs)) refl c mid

pointed_at : (d h n len : ℕ) (c : ℕ) (mid rest : List ℕ) → n ≡ varint_length c → ((m : ℕ) → varints base m c mid ≡ whole (m + len) rest) → pointed d (varints base (h + varint_length c) c mid) ≡ whole (point_of d (h + (n + len))) rest
unfolding pointed
pointed_at d h n len c mid rest y s =
    let e : h + varint_length c + len ≡ h + (n + len) = omega (arith, y) in
    ap (pointed d) (s (h + varint_length c)) ∙ ap (λ (m : ℕ). whole (point_of d m) rest) e

pointed_stop : (d m : ℕ) (c : ℕ) (mid : List ℕ) (e : Stop Rest) → ((m : ℕ) → varints base m c mid ≡ stop_in e) → pointed d (varints base m c mid) ≡ stop_in e
unfolding pointed
pointed_stop d m c mid e s = stopped e (pointed d) refl (λ bs. refl) (s m)

pub array_sizes : (bs : List ℕ) {mid rest : List ℕ} {c n : ℕ} (len : ℕ) → count_of base bs ≡ whole c mid → n ≡ varint_length c → ((m : ℕ) → varints base m c mid ≡ whole (m + len) rest) →
    ((id d k : ℕ) → reached d k (body base d id t_unsigneds bs).outcome ≡ whole (point_of d (k + length (header id t_unsigneds) + (n + len))) rest)
    × ((id d k : ℕ) → reached d k (body base d id t_signeds bs).outcome ≡ whole (point_of d (k + length (header id t_signeds) + (n + len))) rest)
array_sizes bs {mid} {rest} {c} {n} len q y s =
    (λ id d k. unsigneds_turn bs q id d k ∙ pointed_at d _ n len c mid rest y s, λ id d k. signeds_turn bs q id d k ∙ pointed_at d _ n len c mid rest y s)

pub array_nowhere : (bs : List ℕ) {mid : List ℕ} {c : ℕ} → count_of base bs ≡ whole c mid → (e : Stop Rest) → ((m : ℕ) → varints base m c mid ≡ stop_in e) →
    ((id d k : ℕ) → reached d k (body base d id t_unsigneds bs).outcome ≡ stop_in e) × ((id d k : ℕ) → reached d k (body base d id t_signeds bs).outcome ≡ stop_in e)
array_nowhere bs {mid} {c} q e s = (λ id d k. unsigneds_turn bs q id d k ∙ pointed_stop d _ c mid e s, λ id d k. signeds_turn bs q id d k ∙ pointed_stop d _ c mid e s)

pub array_stops : (bs : List ℕ) (e : Stop Rest) → count_of base bs ≡ stop_in e →
    ((id d k : ℕ) → reached d k (body base d id t_unsigneds bs).outcome ≡ stop_in e) × ((id d k : ℕ) → reached d k (body base d id t_signeds bs).outcome ≡ stop_in e)
unfolding body
array_stops bs e q = (λ id d k. stops_given _ d k e q, λ id d k. stops_given _ d k e q)

-- of n elements, `left` are those of the bytes left, and the others have len bytes
pub record Counted (bs : List ℕ) (n len : ℕ) (rest : List ℕ) (left : ℕ) : Type 0 where
  pub small : len + length rest ≤ length bs
  pub bytes : Bytes rest
  pub same : (m : ℕ) → varints base m n bs ≡ varints base (m + len) left rest

-- after k of them
one_more : (sum n k : ℕ) (bs : List ℕ) → k < n → varints base sum (n - k) bs ≡ onward (sized varint_length sum (varint base bs)) (λ m rest. varints base m (n - (k + 1)) rest)
unfolding varints
one_more sum n k bs h =
    let e : n - k ≡ suc (n - (k + 1)) = omega arith in
    ap (λ (m : ℕ). varints base sum m bs) e

module _ (k : ℕ) {bs rest : List ℕ} {n len : ℕ} (s : Counted bs n len rest (n - k)) where
  turned : k < n → (m : ℕ) → varints base m n bs ≡ onward (sized varint_length (m + len) (varint base rest)) (λ m rest. varints base m (n - (k + 1)) rest)
  turned h m = s.same m ∙ one_more (m + len) n k rest h

  pub counted_next : (one : ℕ) {after : List ℕ} → k < n → ((m : ℕ) → sized varint_length m (varint base rest) ≡ whole (m + one) after) → Counted bs n (len + one) after (n - (k + 1))
  unfolding onward
  counted_next one {after} h q =
      let g = size_read rest (0 + one) s.bytes (q 0) in
      let e : (m : ℕ) → m + len + one ≡ m + (len + one) = λ m. omega arith in
      record {
        small = omega (arith, s.small, g.0);
        bytes = g.1;
        same =
            λ m.
            turned h m
            ∙ ap (λ (o : Outcome ℕ). onward o (λ m rest. varints base m (n - (k + 1)) rest)) (q (m + len))
            ∙ ap (λ (m : ℕ). varints base m (n - (k + 1)) after) (e m);
      }

  pub counted_small : (one : ℕ) {after : List ℕ} → ((m : ℕ) → sized varint_length m (varint base rest) ≡ whole (m + one) after) → len + one ≤ length bs
  counted_small one q = let g = size_read rest (0 + one) s.bytes (q 0) in omega (arith, s.small, g.0)

  -- no element found: nothing follows
  pub counted_stops : k < n → (e : Stop Rest) → ((m : ℕ) → sized varint_length m (varint base rest) ≡ stop_in e) → (m : ℕ) → varints base m n bs ≡ stop_in e
  unfolding onward
  counted_stops h e q m = turned h m ∙ stopped e (λ (o : Outcome ℕ). onward o (λ m rest. varints base m (n - (k + 1)) rest)) refl (λ bs. refl) (q (m + len))

  pub counted_end : n ≤ k → (m : ℕ) → varints base m n bs ≡ whole (m + len) rest
  unfolding varints
  counted_end h m =
      let e : n - k ≡ 0 = omega arith in
      s.same m ∙ ap (λ (l : ℕ). varints base (m + len) l rest) e

-- all of them have no more bytes than were read
pub elements_read : (n m : ℕ) (bs : List ℕ) {k : ℕ} {rest : List ℕ} → Bytes bs → varints base m n bs ≡ whole k rest → k + length rest ≤ m + length bs
unfolding varints sized onward
elements_read zero m bs {k} {rest} a e =
    let l : m ≡ k = cc in
    let r : bs ≡ rest = cc in
    omega (arith, ap length r)
elements_read (suc n) m bs {k} {rest} a e = go (λ v mid b f. elements_read n (m + varint_length v) mid b f) (varint base bs) refl e
  where
    go : ((v : ℕ) (mid : List ℕ) → Bytes mid → varints base (m + varint_length v) n mid ≡ whole k rest → k + length rest ≤ m + varint_length v + length mid) →
        (o : Outcome ℕ) → varint base bs ≡ o → onward (sized varint_length m o) (λ m rest. varints base m n rest) ≡ whole k rest → k + length rest ≤ m + length bs
    go more (whole v mid) q e = let g = value_read bs a q in omega (arith, g.0, more v mid g.1 e)
    go more short q e = absurd cc
    go more (broken s) q e = absurd cc

-- ---- type 5

said_floats : (id c w : ℕ) (x : Field) (bs rest : List ℕ) → Bytes bs → (u : Subtyped) → subtype_of (w % 8) ≡ u → (float_array_of id c (w / 8) u bs).outcome ≡ whole x rest →
    Said (length (header id t_floats) + (varint_length c + varint_length w)) (c * (w / 8)) bs rest x
unfolding float_array_of
said_floats id c w x bs rest a (known s) e q =
    let v : w / 8 * 8 + subtype_number s ≡ w = omega (arith, subtype-number (w % 8) s e) in
    subst (λ (v : ℕ). Said (length (header id t_floats) + (varint_length c + varint_length v)) (c * (w / 8)) bs rest x) v (floats_length id x bs rest a c (w / 8) s q)
said_floats id c w x bs rest a unknown e q = absurd cc

pub floats_stop : (bs : List ℕ) (e : Stop Rest) → count_of base bs ≡ stop_in e → (id d k : ℕ) → reached d k (body base d id t_floats bs).outcome ≡ stop_in e
unfolding body
floats_stop bs e q id d k = stops_given _ d k e q

module _ (bs : List ℕ) {mid : List ℕ} {c : ℕ} (q : count_of base bs ≡ whole c mid) where
  pub floats_no_word : (e : Stop Rest) → varint base mid ≡ stop_in e → (id d k : ℕ) → reached d k (body base d id t_floats bs).outcome ≡ stop_in e
  unfolding body
  floats_no_word e u id d k = then_given _ d k q ∙ stops_given _ d k e u

  module _ {w : ℕ} {late : List ℕ} (u : varint base mid ≡ whole w late) where
    floats_turn : (id d k : ℕ) → reached d k (body base d id t_floats bs).outcome ≡ reached d k (float_array_of id c (w / 8) (subtype_of (w % 8)) late).outcome
    unfolding body
    floats_turn id d k = then_given _ d k q ∙ then_given (λ w rest. float_array_of id c (w / 8) (subtype_of (w % 8)) rest) d k u

    pub floats_nowhere : (e : Stop Rest) → ((id d : ℕ) → after_floats id c w late d ≡ stop_in e) → (id d k : ℕ) → reached d k (body base d id t_floats bs).outcome ≡ stop_in e
    unfolding after_floats
    floats_nowhere e p id d k = floats_turn id d k ∙ stops_place _ e d k (p id d)

    module _ {rest : List ℕ} (a : Bytes late) (p : (id d : ℕ) → after_floats id c w late d ≡ whole d rest) where
      floats_said : (id d : ℕ) → (x : Field) × ((float_array_of id c (w / 8) (subtype_of (w % 8)) late).outcome ≡ whole x rest) × (depth_after d x ≡ d)
          × Said (length (header id t_floats) + (varint_length c + varint_length w)) (c * (w / 8)) late rest x
      unfolding after_floats
      floats_said id d =
          let o = there d (float_array_of id c (w / 8) (subtype_of (w % 8)) late).outcome rest (p id d) in
          (o.0, o.1, o.2, said_floats id c w o.0 late rest a (subtype_of (w % 8)) refl o.1)

      pub floats_sizes : {n₁ n₂ : ℕ} → n₁ ≡ varint_length c → n₂ ≡ varint_length w → (id d k : ℕ) →
          reached d k (body base d id t_floats bs).outcome ≡ whole (point_of d (k + length (header id t_floats) + (n₁ + n₂ + c * (w / 8)))) rest
      floats_sizes {n₁} {n₂} y z id d k =
          let s = floats_said id d in
          floats_turn id d k ∙ comes d k (k + length (header id t_floats) + (n₁ + n₂ + c * (w / 8))) _ s.0 rest s.1 s.2 (omega (arith, s.3.0))

    -- count, word and floats were there to be read
    pub floats_read : {rest : List ℕ} → Bytes bs → ((id d : ℕ) → after_floats id c w late d ≡ whole d rest) →
        (varint_length c + varint_length w + c * (w / 8) ≤ length bs) × Bytes late
    floats_read a p =
        let g = count_read bs a q in
        let h = value_read mid g.1 u in
        (omega (arith, g.0, h.0, (floats_said h.1 p 0 0).3.1), h.1)
