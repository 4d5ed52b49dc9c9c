-- What an answer leaves is a rest of the bytes that came in, as in `passing/proofs/Left`. The contracts say what is left as the layout's reader
-- has it (`after_word`, `after_body`, `after_floats`). The laws here say what that is: `low_left` to `field_left` for the reader, part by part
-- up to a whole field; `word_left`, `body_left` and `floats_left` for the end alone; and `word_passed`, `body_passed` and `floats_passed` for
-- an answer that a contract is about.
use Prim.Native.Nat.{ℕ, zero, suc, ◌+◌, ◌*◌, ◌/◌, ◌%◌, ◌^◌, ◌≤◌}
use mathlib.Core.Bool.{Bool, true, false}
use mathlib.Core.List.{List, [], ◌∷◌}
use native.Mathlib.Omega.{arith}
use lib.Dec.{leb, ltb, eqb}
use Rattle.std.specs.Prelude.{Result}
use Rattle.layout.specs.Limits.{Limits, base, pick}
use Rattle.layout.specs.Varint.{Outcome, whole, short, broken, varint}
use Rattle.layout.specs.Event.{Event, Unsigned, Signed, Float, Fixlen, Array, Begin, End}
use Rattle.layout.specs.Reading.{Reading, quiet, raise, given, follow, becoming, low_from}
use Rattle.layout.specs.Field.{Raw, Field, Wire, Subtyped, bytes_of, subtype_of, wire_of, known, unknown, float, raw, unsigneds, signeds, floats}
use Rattle.layout.specs.Field.{unsigned, signed, payload, unsigned_array, signed_array, float_array, begin, end}
use Rattle.layout.specs.Field.{t_unsigned, t_signed, t_fixlen, t_unsigneds, t_signeds, t_floats, t_begin, t_end}
use Rattle.layout.specs.Message.{header_of, count_of, unzigzagged, signed_varint, elements, scalar, payload_from, payload_of, fixlen, float_array_of, body, field}
use Rattle.passing.specs.declared.Stop.{Stop}
use Rattle.passing.specs.Passing.{Rest, Passes}
use Rattle.passing.proofs.Left.{outcome_left, answer_left, all_left, outcome_before, outcome_again, outcome_fewer, varint_left, header_left, count_left, passes_left}
use Rattle.bodies.specs.Bodies.{deep, after_body, after_word, after_floats}

-- ---- one part after another

-- a value, and what follows it
given_left : {A B : Type 0} (bs : List ℕ) (least : ℕ) (o : Outcome A) (f : A → List ℕ → Reading B)
    → outcome_left least bs o → ((a : A) (r : List ℕ) → outcome_left 0 r (f a r).outcome) → outcome_left least bs (given o f).outcome
unfolding given
given_left bs least (whole a r) f l g = outcome_again 0 l (f a r).outcome (g a r)
given_left bs least short f l g = tt
given_left bs least (broken r) f l g = l

-- a reading whose value is made into another
becomes_left : {A B : Type 0} (f : A → B) (bs : List ℕ) (least : ℕ) (es : List Event) (o : Outcome A)
    → outcome_left least bs o → outcome_left least bs (becoming f (record { events = es; outcome = o })).outcome
unfolding follow
becomes_left f bs least es (whole a r) l = l
becomes_left f bs least es short l = tt
becomes_left f bs least es (broken r) l = l

becoming_left : {A B : Type 0} (f : A → B) (bs : List ℕ) (least : ℕ) (r : Reading A)
    → outcome_left least bs r.outcome → outcome_left least bs (becoming f r).outcome
becoming_left f bs least r l = becomes_left f bs least r.events r.outcome l

-- one of two, by a test
either_left : {A : Type 0} (bs : List ℕ) (least : ℕ) (t : Bool) (r s : Reading A)
    → outcome_left least bs r.outcome → outcome_left least bs s.outcome → outcome_left least bs (pick t r s).outcome
either_left bs least true r s l k = l
either_left bs least false r s l k = k

-- none asked for
none_asked : {A : Type 0} (bs : List ℕ) (o : Outcome A) → outcome_left 1 bs o → outcome_left 0 bs o
none_asked bs o l = let h : 0 ≤ 1 = omega arith in outcome_fewer bs h o l

-- a byte before what came in
byte_first : {A : Type 0} (b : ℕ) (bs : List ℕ) (o : Outcome A) → outcome_left 0 bs o → outcome_left 0 (b ∷ bs) o
byte_first b bs o l = none_asked (b ∷ bs) o (outcome_before b bs 0 o l)

-- ---- the parts of a field

-- n bytes as a number
pub low_left : (n k v : ℕ) (bs : List ℕ) → outcome_left 0 bs (low_from n k v bs)
unfolding low_from
low_left zero k v bs = all_left bs
low_left (suc n) k v [] = tt
low_left (suc n) k v (b ∷ bs) = byte_first b bs (low_from n (k + 1) (v + b * 256 ^ k) bs) (low_left n (k + 1) (v + b * 256 ^ k) bs)

-- a signed value
unzigzagged_left : (bs : List ℕ) (least : ℕ) (o : Outcome ℕ) → outcome_left least bs o → outcome_left least bs (unzigzagged o)
unfolding unzigzagged
unzigzagged_left bs least (whole u r) l = l
unzigzagged_left bs least short l = tt
unzigzagged_left bs least (broken r) l = l

pub signed_left : (L : Limits) (bs : List ℕ) → outcome_left 1 bs (signed_varint L bs)
signed_left L bs = unzigzagged_left bs 1 (varint L bs) (varint_left L bs)

-- n elements, each of which leaves a rest
pub elements_left : {A : Type 0} (p : List ℕ → Outcome A) (e : A → Event) → ((bs : List ℕ) → outcome_left 0 bs (p bs))
    → (n : ℕ) (bs : List ℕ) → outcome_left 0 bs (elements p e n bs).outcome
unfolding elements
elements_left p e one zero bs = all_left bs
elements_left p e one (suc n) bs =
    given_left bs 0 (p bs) (λ x rest. raise (e x ∷ []) (becoming (λ xs. x ∷ xs) (elements p e n rest))) (one bs)
    (λ x rest. becoming_left (λ xs. x ∷ xs) rest 0 (elements p e n rest) (elements_left p e one n rest))

-- one value, with its event
scalar_left : {A : Type 0} (bs : List ℕ) (o : Outcome A) (e : A → Event) (f : A → Field) → outcome_left 0 bs o → outcome_left 0 bs (scalar o e f).outcome
scalar_left bs o e f l = given_left bs 0 o (λ x rest. raise (e x ∷ []) (quiet (whole (f x) rest))) l (λ x rest. all_left rest)

-- a payload
from_left : (id : ℕ) (r : Raw) (total o n : ℕ) (bs : List ℕ) → outcome_left 0 bs (payload_from id r total o n bs).outcome
unfolding payload_from
from_left id r total o zero bs = all_left bs
from_left id r total o (suc n) [] = tt
from_left id r total o (suc n) (b ∷ bs) =
    becoming_left (λ xs. b ∷ xs) (b ∷ bs) 0 (payload_from id r total (suc o) n bs)
    (byte_first b bs (payload_from id r total (suc o) n bs).outcome (from_left id r total (suc o) n bs))

pub payload_left : (id : ℕ) (r : Raw) (n : ℕ) (bs : List ℕ) → outcome_left 0 bs (payload_of id r n bs).outcome
unfolding payload_of
payload_left id r zero bs = all_left bs
payload_left id r (suc n) bs = from_left id r (suc n) 0 (suc n) bs

-- what follows the word of a fixed-length field, and that of an array of floats
pub fixlen_left : (L : Limits) (id n : ℕ) (s : Subtyped) (bs : List ℕ) → outcome_left 0 bs (fixlen L id n s bs).outcome
unfolding fixlen
fixlen_left L id n (known (float w)) bs =
    either_left bs 0 (eqb n (bytes_of w)) (raise (Fixlen id (float w) n ∷ []) (scalar (low_from (bytes_of w) 0 0 bs) (Float id w) (float id w))) (quiet (broken bs))
    (scalar_left bs (low_from (bytes_of w) 0 0 bs) (Float id w) (float id w) (low_left (bytes_of w) 0 0 bs)) (all_left bs)
fixlen_left L id n (known (raw r)) bs =
    either_left bs 0 (leb n L.size) (raise (Fixlen id (raw r) n ∷ []) (becoming (payload id r) (payload_of id r n bs))) (quiet (broken bs))
    (becoming_left (payload id r) bs 0 (payload_of id r n bs) (payload_left id r n bs)) (all_left bs)
fixlen_left L id n unknown bs = all_left bs

pub float_array_left : (id c n : ℕ) (s : Subtyped) (bs : List ℕ) → outcome_left 0 bs (float_array_of id c n s bs).outcome
unfolding float_array_of
float_array_left id c n (known (float w)) bs =
    either_left bs 0 (eqb n (bytes_of w))
    (raise (Array id (floats w) c ∷ []) (becoming (float_array id w) (elements (low_from (bytes_of w) 0 0) (Float id w) c bs))) (quiet (broken bs))
    (becoming_left (float_array id w) bs 0 (elements (low_from (bytes_of w) 0 0) (Float id w) c bs)
    (elements_left (low_from (bytes_of w) 0 0) (Float id w) (low_left (bytes_of w) 0 0) c bs))
    (all_left bs)
float_array_left id c n (known (raw r)) bs = all_left bs
float_array_left id c n unknown bs = all_left bs

-- ---- what follows a header, and a field

value_left : (L : Limits) (bs : List ℕ) → outcome_left 0 bs (varint L bs)
value_left L bs = none_asked bs (varint L bs) (varint_left L bs)

integer_left : (L : Limits) (bs : List ℕ) → outcome_left 0 bs (signed_varint L bs)
integer_left L bs = none_asked bs (signed_varint L bs) (signed_left L bs)

counted_left : {B : Type 0} (L : Limits) (bs : List ℕ) (f : ℕ → List ℕ → Reading B)
    → ((n : ℕ) (r : List ℕ) → outcome_left 0 r (f n r).outcome) → outcome_left 0 bs (given (count_of L bs) f).outcome
counted_left L bs f g = given_left bs 0 (count_of L bs) f (none_asked bs (count_of L bs) (count_left L bs)) g

pub reading_left : (L : Limits) (d id : ℕ) (w : Wire) (bs : List ℕ) → outcome_left 0 bs (body L d id w bs).outcome
unfolding body
reading_left L d id t_unsigned bs = scalar_left bs (varint L bs) (Unsigned id) (unsigned id) (value_left L bs)
reading_left L d id t_signed bs = scalar_left bs (signed_varint L bs) (Signed id) (signed id) (integer_left L bs)
reading_left L d id t_fixlen bs =
    given_left bs 0 (varint L bs) (λ w rest. fixlen L id (w / 8) (subtype_of (w % 8)) rest) (value_left L bs)
    (λ w rest. fixlen_left L id (w / 8) (subtype_of (w % 8)) rest)
reading_left L d id t_unsigneds bs =
    counted_left L bs (λ n rest. raise (Array id unsigneds n ∷ []) (becoming (unsigned_array id) (elements (varint L) (Unsigned id) n rest)))
    (λ n rest.
    becoming_left (unsigned_array id) rest 0 (elements (varint L) (Unsigned id) n rest) (elements_left (varint L) (Unsigned id) (value_left L) n rest))
reading_left L d id t_signeds bs =
    counted_left L bs (λ n rest. raise (Array id signeds n ∷ []) (becoming (signed_array id) (elements (signed_varint L) (Signed id) n rest)))
    (λ n rest.
    becoming_left (signed_array id) rest 0 (elements (signed_varint L) (Signed id) n rest)
    (elements_left (signed_varint L) (Signed id) (integer_left L) n rest))
reading_left L d id t_floats bs =
    counted_left L bs (λ n rest. given (varint L rest) (λ w late. float_array_of id n (w / 8) (subtype_of (w % 8)) late))
    (λ n rest.
    given_left rest 0 (varint L rest) (λ w late. float_array_of id n (w / 8) (subtype_of (w % 8)) late) (value_left L rest)
    (λ w late. float_array_left id n (w / 8) (subtype_of (w % 8)) late))
reading_left L d id t_begin bs =
    either_left bs 0 (ltb d L.depth) (raise (Begin id ∷ []) (quiet (whole (begin id) bs))) (quiet (broken bs)) (all_left bs) (all_left bs)
reading_left L d id t_end bs =
    either_left bs 0 (eqb d 0) (quiet (broken bs)) (raise (End ∷ []) (quiet (whole (end id) bs))) (all_left bs) (all_left bs)

pub field_left : (L : Limits) (d : ℕ) (bs : List ℕ) → outcome_left 1 bs (field L d bs).outcome
unfolding field
field_left L d bs =
    given_left bs 1 (header_of L bs) (λ h rest. body L d (h / 8) (wire_of (h % 8)) rest) (header_left L bs)
    (λ h rest. reading_left L d (h / 8) (wire_of (h % 8)) rest)

-- ---- the end alone

pub deep_left : (d : ℕ) (bs : List ℕ) (least : ℕ) (o : Outcome Field) → outcome_left least bs o → outcome_left least bs (deep d o)
unfolding deep
deep_left d bs least (whole x r) l = l
deep_left d bs least short l = tt
deep_left d bs least (broken r) l = l

pub word_left : (id word : ℕ) (bs : List ℕ) (d : ℕ) → outcome_left 0 bs (after_word id word bs d)
unfolding after_word
word_left id word bs d =
    deep_left d bs 0 (fixlen base id (word / 8) (subtype_of (word % 8)) bs).outcome (fixlen_left base id (word / 8) (subtype_of (word % 8)) bs)

pub body_left : (id : ℕ) (w : Wire) (bs : List ℕ) (d : ℕ) → outcome_left 0 bs (after_body id w bs d)
unfolding after_body
body_left id w bs d = deep_left d bs 0 (body base d id w bs).outcome (reading_left base d id w bs)

pub floats_left : (id n word : ℕ) (bs : List ℕ) (d : ℕ) → outcome_left 0 bs (after_floats id n word bs d)
unfolding after_floats
floats_left id n word bs d =
    deep_left d bs 0 (float_array_of id n (word / 8) (subtype_of (word % 8)) bs).outcome (float_array_left id n (word / 8) (subtype_of (word % 8)) bs)

-- ---- an answer of the code's

-- `bytes_at`; `fixlen_at`, `array_at` and `float_array_at`, by the type; `floats_at`
module _ (bs : List ℕ) (r : Result Rest (Stop Rest)) where
  pub word_passed : (word : ℕ) → ((id : ℕ) → Passes (after_word id word bs) r) → answer_left 0 bs (λ s. s) r
  word_passed word p = passes_left 0 bs (after_word 0 word bs) r (p 0) (word_left 0 word bs 0)

  pub body_passed : (w : Wire) → ((id : ℕ) → Passes (after_body id w bs) r) → answer_left 0 bs (λ s. s) r
  body_passed w p = passes_left 0 bs (after_body 0 w bs) r (p 0) (body_left 0 w bs 0)

  pub floats_passed : (n word : ℕ) → ((id : ℕ) → Passes (after_floats id n word bs) r) → answer_left 0 bs (λ s. s) r
  floats_passed n word p = passes_left 0 bs (after_floats 0 n word bs) r (p 0) (floats_left 0 n word bs 0)
