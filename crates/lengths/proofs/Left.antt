-- What an answer leaves is a rest of the bytes that came in, as in `passing/proofs/Left` and `bodies/proofs/Left`; and the length that it has
-- is no more than the bytes that were passed: the plain copy is no longer than what it is of. The contracts have what is left and how long the
-- plain copy is as the layout's definitions do (`Sizes`, `BodySizes`). The laws here say what these come to: `sized_left` to `reached_left`,
-- `sizes_left` and `body_sizes_left` of the bytes left; `varint_short` to `header_and_body_short` of the length. (`copy_len`'s `copy_short` says
-- the same of a whole message.)
use Prim.Native.Nat.{ℕ, zero, suc, ◌+◌, ◌/◌, ◌%◌, ◌^◌, ◌≤◌, ◌<◌}
use mathlib.Core.Path.{◌≡◌, refl, ap, ◌∙◌, subst}
use mathlib.Core.Bool.{true}
use mathlib.Core.List.{List, ◌∷◌}
use native.Mathlib.Omega.{arith}
use lib.Dec.{leb, lit<}
use lib.ListN.{length}
use Rattle.std.specs.Prelude.{Result, Ok}
use Rattle.layout.specs.Limits.{Limits, base}
use Rattle.layout.specs.Varint.{Outcome, whole, short, broken, varint, shortest}
use Rattle.layout.specs.Reading.{Reading, given}
use Rattle.layout.specs.Field.{Field, Wire, wire_of, wire_number, header}
use Rattle.layout.specs.Field.{t_unsigned, t_signed, t_fixlen, t_unsigneds, t_signeds, t_floats, t_begin, t_end}
use Rattle.layout.specs.Message.{Bytes, header_of, body, field, depth_after}
use Rattle.laws.proofs.Parser.{Parses}
use Rattle.laws.proofs.Parts.{checked_parses}
use Rattle.laws.proofs.Varint.{varint_parses}
use Rattle.laws.proofs.Field.{field_back}
use Rattle.varint.proofs.Shortest.{length_one}
use Rattle.passing.specs.declared.Stop.{Stop}
use Rattle.passing.specs.Passing.{Rest}
use Rattle.passing.proofs.Varints.{tail_is}
use Rattle.passing.proofs.Ends.{one_header}
use Rattle.passing.proofs.Left.{outcome_left, answer_left, all_left, outcome_again, outcome_fewer, varint_left, stands_for}
use Rattle.bodies.proofs.Left.{reading_left}
use Rattle.lengths.specs.Lengths.{sized, onward, varint_length, varints, field_length, Point, point_of, reached, Sizes, BodySizes}
use Rattle.lengths.proofs.Answers.{size_read, elements_read}

-- ---- the bytes left, by the layout's definitions

pub sized_left : {A : Type 0} (size : A → ℕ) (len : ℕ) (bs : List ℕ) (least : ℕ) (o : Outcome A) → outcome_left least bs o
    → outcome_left least bs (sized size len o)
unfolding sized
sized_left size len bs least (whole a r) l = l
sized_left size len bs least short l = tt
sized_left size len bs least (broken r) l = l

-- one varint
pub size_left : (L : Limits) (len : ℕ) (bs : List ℕ) → outcome_left 1 bs (sized varint_length len (varint L bs))
size_left L len bs = sized_left varint_length len bs 1 (varint L bs) (varint_left L bs)

pub onward_left : (bs : List ℕ) (least : ℕ) (o : Outcome ℕ) (f : ℕ → List ℕ → Outcome ℕ)
    → outcome_left least bs o → ((len : ℕ) (r : List ℕ) → outcome_left 0 r (f len r)) → outcome_left least bs (onward o f)
unfolding onward
onward_left bs least (whole len r) f l g = outcome_again 0 l (f len r) (g len r)
onward_left bs least short f l g = tt
onward_left bs least (broken r) f l g = l

-- n varints
pub varints_left : (L : Limits) (len n : ℕ) (bs : List ℕ) → outcome_left 0 bs (varints L len n bs)
unfolding varints
varints_left L len zero bs = all_left bs
varints_left L len (suc n) bs =
    let h : 0 ≤ 1 = omega arith in
    outcome_fewer bs h (onward (sized varint_length len (varint L bs)) (λ longer rest. varints L longer n rest))
    (onward_left bs 1 (sized varint_length len (varint L bs)) (λ longer rest. varints L longer n rest) (size_left L len bs)
    (λ longer rest. varints_left L longer n rest))

-- a field, or what follows its header
pub reached_left : (d len : ℕ) (bs : List ℕ) (least : ℕ) (o : Outcome Field) → outcome_left least bs o → outcome_left least bs (reached d len o)
unfolding reached
reached_left d len bs least (whole x r) l = l
reached_left d len bs least short l = tt
reached_left d len bs least (broken r) l = l

-- ---- the bytes left, by an answer of the code's

pub sizes_left : (least : ℕ) (bs : List ℕ) (o : ℕ → Outcome ℕ) (r : Result (ℕ × Rest) (Stop Rest)) → Sizes o r → outcome_left least bs (o 0)
    → answer_left least bs (λ f. f.1) r
sizes_left least bs o r e l = stands_for (λ f. 0 + f.0) (λ f. f.1) least bs r (subst (outcome_left least bs) (e 0) l)

pub body_sizes_left : (w : Wire) (bs : List ℕ) (r : Result (ℕ × Rest) (Stop Rest)) → BodySizes w bs r → answer_left 0 bs (λ f. f.1) r
body_sizes_left w bs r e =
    stands_for (λ f. point_of 0 (0 + length (header 0 w) + f.0)) (λ f. f.1) 0 bs r
    (subst (outcome_left 0 bs) (e 0 0 0) (reached_left 0 0 bs 0 (body base 0 0 w bs).outcome (reading_left base 0 0 w bs)))

-- ---- the length: no more than the bytes passed

-- a varint, and n of them
pub varint_short : (bs : List ℕ) (f : ℕ × Rest) → Bytes bs → Sizes (λ n. sized varint_length n (varint base bs)) (Ok f) → f.0 + length f.1.now ≤ length bs
varint_short bs f a e = let g = size_read bs (0 + f.0) a (e 0) in omega (arith, g.0)

pub varints_short : (n : ℕ) (bs : List ℕ) (f : ℕ × Rest) → Bytes bs → Sizes (λ m. varints base m n bs) (Ok f) → f.0 + length f.1.now ≤ length bs
varints_short n bs f a e = let g : 0 + f.0 + length f.1.now ≤ 0 + length bs = elements_read n 0 bs a (e 0) in omega arith

-- a field, header and all: the plain copy has n bytes before it
pub field_short : (d n : ℕ) (bs : List ℕ) {p : Point} {rest : List ℕ} → Bytes bs → reached d n (field base d bs).outcome ≡ whole p rest
    → p.len + length rest ≤ n + length bs
unfolding reached
field_short d n bs {p} {rest} a e = go (field base d bs).outcome refl e
  where
    go : (o : Outcome Field) → (field base d bs).outcome ≡ o → reached d n o ≡ whole p rest → p.len + length rest ≤ n + length bs
    go (whole x r) q e =
        let b = field_back base d bs x r a q in
        let l : point_of (depth_after d x) (n + field_length x) ≡ p = cc in
        let m : r ≡ rest = cc in
        let k : n + field_length x ≡ p.len = ap (λ (p : Point). p.len) l in
        omega (arith, b.shorter, k, ap length m)
    go short q e = absurd cc
    go (broken r) q e = absurd cc

-- what follows the header h, header and all
pub headed_short : (d n h : ℕ) (hs bs : List ℕ) {p : Point} {rest : List ℕ} → Bytes hs → header_of base hs ≡ whole h bs
    → reached d n (body base d (h / 8) (wire_of (h % 8)) bs).outcome ≡ whole p rest → p.len + length rest ≤ n + length hs
unfolding field given
headed_short d n h hs bs a q e =
    field_short d n hs a (ap (λ (o : Outcome ℕ). reached d n (given o (λ h rest. body base d (h / 8) (wire_of (h % 8)) rest)).outcome) q ∙ e)

-- a header of one byte
one_byte : (d h : ℕ) (bs : List ℕ) → h < 128 → field base d (h ∷ bs) ≡ body base d (h / 8) (wire_of (h % 8)) bs
unfolding field given
one_byte d h bs l =
    let e : header_of base (h ∷ bs) ≡ whole h bs = one_header (h ∷ bs) (omega arith) l ∙ ap (whole h) (tail_is 1 (h ∷ bs)) in
    ap (λ (o : Outcome ℕ). given o (λ h rest. body base d (h / 8) (wire_of (h % 8)) rest)) e

record Behind (w : Wire) (bs : List ℕ) : Type 0 where
  same : field base 0 (wire_number w ∷ bs) ≡ body base 0 0 w bs
  one : length (header 0 w) ≡ 1
  byte : wire_number w < 256

behind : (w : Wire) (bs : List ℕ) → Behind w bs
behind t_unsigned bs = record { same = one_byte 0 0 bs (lit< tt); one = length_one 0 (lit< tt); byte = lit< tt }
behind t_signed bs = record { same = one_byte 0 1 bs (lit< tt); one = length_one 1 (lit< tt); byte = lit< tt }
behind t_fixlen bs = record { same = one_byte 0 2 bs (lit< tt); one = length_one 2 (lit< tt); byte = lit< tt }
behind t_unsigneds bs = record { same = one_byte 0 3 bs (lit< tt); one = length_one 3 (lit< tt); byte = lit< tt }
behind t_signeds bs = record { same = one_byte 0 4 bs (lit< tt); one = length_one 4 (lit< tt); byte = lit< tt }
behind t_floats bs = record { same = one_byte 0 5 bs (lit< tt); one = length_one 5 (lit< tt); byte = lit< tt }
behind t_begin bs = record { same = one_byte 0 6 bs (lit< tt); one = length_one 6 (lit< tt); byte = lit< tt }
behind t_end bs = record { same = one_byte 0 7 bs (lit< tt); one = length_one 7 (lit< tt); byte = lit< tt }

-- what follows a header, without it; and, where the header was read, with it
pub body_short : (w : Wire) (bs : List ℕ) (f : ℕ × Rest) → Bytes bs → BodySizes w bs (Ok f) → f.0 + length f.1.now ≤ length bs
body_short w bs f a e =
    let b = behind w bs in
    let q : reached 0 0 (field base 0 (wire_number w ∷ bs)).outcome ≡ whole (point_of 0 (0 + length (header 0 w) + f.0)) f.1.now
    = ap (λ (r : Reading Field). reached 0 0 r.outcome) b.same ∙ e 0 0 0
    in
    omega (arith, field_short 0 0 (wire_number w ∷ bs) (b.byte, a) q, b.one)

header_reads : Parses (header_of base) (λ h. (h < 2 ^ base.bits) × (leb (h / 8) base.id ≡ true)) shortest
header_reads = checked_parses (varint_parses base) (λ h. leb (h / 8) base.id)

pub header_and_body_short : (h : ℕ) (hs bs : List ℕ) (f : ℕ × Rest) → Bytes hs → header_of base hs ≡ whole h bs → BodySizes (wire_of (h % 8)) bs (Ok f)
    → varint_length h + f.0 + length f.1.now ≤ length hs
header_and_body_short h hs bs f a q e =
    let g = header_reads.back hs h bs a q in
    omega (arith, g.shorter, body_short (wire_of (h % 8)) bs f g.bytes e)
