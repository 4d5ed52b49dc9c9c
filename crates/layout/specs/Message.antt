-- "A message is fields one after another." How bytes are read as fields, with the events that they raise and the verdict on them.
-- "Broken, each at the byte that completes or overruns the varint": an overrun in Varint's `push`, an id in `header_of`, a count in
-- `count_of`, subtype and length in `fixlen` and `float_array_of`, depth in `body`.
use Rattle.std.specs.Prelude.{ℕ, zero, suc, ◌-◌, ◌/◌, ◌%◌, ◌<◌, ◌≡◌, Bool, List, [], ◌∷◌, length, ltb, leb, eqb, ℤ}
use Rattle.layout.specs.Limits.{Limits, pick}
use Rattle.layout.specs.Varint.{Outcome, whole, short, broken, varint}
use Rattle.layout.specs.Zigzag.{unzigzag}
use Rattle.layout.specs.Field.{Raw, Subtyped, Wire, Field, bytes_of, subtype_of, wire_of}
use Rattle.layout.specs.Field.{float, raw, known, unknown, unsigneds, signeds, floats}
use Rattle.layout.specs.Field.{t_unsigned, t_signed, t_fixlen, t_unsigneds, t_signeds, t_floats, t_begin, t_end}
use Rattle.layout.specs.Field.{unsigned, signed, payload, unsigned_array, signed_array, float_array, begin, end}
use Rattle.layout.specs.Event.{Event, Unsigned, Signed, Float, Piece, Fixlen, Array, Begin, End}
use Rattle.layout.specs.Reading.{Reading, quiet, raise, given, becoming, and_then, low_from}

-- a value that passes a test, or is broken at its last byte
unfoldable pub checked : {A : Type 0} → (A → Bool) → Outcome A → Outcome A
checked ok (whole a rest) = pick (ok a) (whole a rest) (broken rest)
checked ok short = short
checked ok (broken rest) = broken rest

-- "id above `ID_MAX`", "count above 2,147,483,647": broken
abbrev pub header_of : Limits → List ℕ → Outcome ℕ
header_of L bs = checked (λ h. leb (h / 8) L.id) (varint L bs)

abbrev pub count_of : Limits → List ℕ → Outcome ℕ
count_of L bs = checked (λ n. leb n L.count) (varint L bs)

-- "1 signed: a zigzag varint."
unfoldable pub unzigzagged : Outcome ℕ → Outcome ℤ
unzigzagged (whole u rest) = whole (unzigzag u) rest
unzigzagged short = short
unzigzagged (broken rest) = broken rest

abbrev pub signed_varint : Limits → List ℕ → Outcome ℤ
signed_varint L bs = unzigzagged (varint L bs)

-- n elements, each with its event
unfoldable pub elements : {A : Type 0} → (List ℕ → Outcome A) → (A → Event) → ℕ → List ℕ → Reading (List A)
elements p e zero bs = quiet (whole [] bs)
elements p e (suc n) bs = given (p bs) (λ x rest. raise (e x ∷ []) (becoming (λ xs. x ∷ xs) (elements p e n rest)))

-- one value, with its event
abbrev pub scalar : {A : Type 0} → Outcome A → (A → Event) → (A → Field) → Reading Field
scalar o e f = given o (λ x rest. raise (e x ∷ []) (quiet (whole (f x) rest)))

-- the n payload bytes from an offset on, a piece for each byte (Event says why)
unfoldable pub payload_from : ℕ → Raw → ℕ → ℕ → ℕ → List ℕ → Reading (List ℕ)
payload_from id r total o zero bs = quiet (whole [] bs)
payload_from id r total o (suc n) [] = quiet short
payload_from id r total o (suc n) (b ∷ bs) = raise (Piece id r total o (b ∷ []) ∷ []) (becoming (λ xs. b ∷ xs) (payload_from id r total (suc o) n bs))

-- "A zero-length string or blob gives its announcement and then one empty piece at offset 0."
unfoldable pub payload_of : ℕ → Raw → ℕ → List ℕ → Reading (List ℕ)
payload_of id r zero bs = raise (Piece id r 0 0 [] ∷ []) (quiet (whole [] bs))
payload_of id r (suc n) bs = payload_from id r (suc n) 0 (suc n) bs

-- "2 fixed-length: a word varint (length × 8 + subtype), then the bytes": what follows the word. Broken: "subtype 4 to 7", "a float word
-- of another length", "length or count above 2,147,483,647".
unfoldable pub fixlen : Limits → ℕ → ℕ → Subtyped → List ℕ → Reading Field
fixlen L id n (known (float w)) bs =
    pick (eqb n (bytes_of w))
    (raise (Fixlen id (float w) n ∷ []) (scalar (low_from (bytes_of w) 0 0 bs) (Float id w) (float id w)))
    (quiet (broken bs))
fixlen L id n (known (raw r)) bs =
    pick (leb n L.size) (raise (Fixlen id (raw r) n ∷ []) (becoming (payload id r) (payload_of id r n bs))) (quiet (broken bs))
fixlen L id n unknown bs = quiet (broken bs)

-- "5 float array: a count, one word, the elements; the word stands even when the count is 0, and the array is announced there": what
-- follows the word. Broken: "subtype 4 to 7", "a float word of another length", "a string or blob word in an array".
unfoldable pub float_array_of : ℕ → ℕ → ℕ → Subtyped → List ℕ → Reading Field
float_array_of id count n (known (float w)) bs =
    pick (eqb n (bytes_of w))
    (raise (Array id (floats w) count ∷ []) (becoming (float_array id w) (elements (low_from (bytes_of w) 0 0) (Float id w) count bs)))
    (quiet (broken bs))
float_array_of id count n (known (raw r)) bs = quiet (broken bs)
float_array_of id count n unknown bs = quiet (broken bs)

-- What follows the header, at depth d. Broken: "an open at depth 255; a close at depth 0". "A close may carry any legal id, which is
-- ignored".
unfoldable pub body : Limits → ℕ → ℕ → Wire → List ℕ → Reading Field
body L d id t_unsigned bs = scalar (varint L bs) (Unsigned id) (unsigned id)
body L d id t_signed bs = scalar (signed_varint L bs) (Signed id) (signed id)
body L d id t_fixlen bs = given (varint L bs) (λ w rest. fixlen L id (w / 8) (subtype_of (w % 8)) rest)
body L d id t_unsigneds bs =
    given (count_of L bs) (λ n rest. raise (Array id unsigneds n ∷ []) (becoming (unsigned_array id) (elements (varint L) (Unsigned id) n rest)))
body L d id t_signeds bs =
    given (count_of L bs) (λ n rest. raise (Array id signeds n ∷ []) (becoming (signed_array id) (elements (signed_varint L) (Signed id) n rest)))
body L d id t_floats bs =
    given (count_of L bs) (λ n rest. given (varint L rest) (λ w rest'. float_array_of id n (w / 8) (subtype_of (w % 8)) rest'))
body L d id t_begin bs = pick (ltb d L.depth) (raise (Begin id ∷ []) (quiet (whole (begin id) bs))) (quiet (broken bs))
body L d id t_end bs = pick (eqb d 0) (quiet (broken bs)) (raise (End ∷ []) (quiet (whole (end id) bs)))

-- a field at depth d
unfoldable pub field : Limits → ℕ → List ℕ → Reading Field
field L d bs = given (header_of L bs) (λ h rest. body L d (h / 8) (wire_of (h % 8)) rest)

-- the depth after a field
unfoldable pub depth_after : ℕ → Field → ℕ
depth_after d (unsigned id n) = d
depth_after d (signed id z) = d
depth_after d (float id w x) = d
depth_after d (payload id r bs) = d
depth_after d (unsigned_array id ns) = d
depth_after d (signed_array id zs) = d
depth_after d (float_array id w xs) = d
depth_after d (begin id) = suc d
depth_after d (end id) = d - 1

-- ---- a message

-- whole fields, and the depth after them
pub record Fields : Type 0 where
  pub list : List Field
  pub depth : ℕ

abbrev pub prepend : Field → Fields → Fields
prepend x fs = record { list = x ∷ fs.list; depth = fs.depth }

-- Fields one after another from depth d on, to the end of the bytes; at most n of them: as many as there are bytes are enough.
unfoldable pub fields_from : Limits → ℕ → ℕ → List ℕ → Reading Fields
fields_from L zero d [] = quiet (whole (record { list = []; depth = d }) [])
-- not reached from `message`
fields_from L zero d (b ∷ bs) = quiet short
fields_from L (suc n) d [] = quiet (whole (record { list = []; depth = d }) [])
fields_from L (suc n) d (b ∷ bs) = and_then (field L d (b ∷ bs)) (λ x rest. becoming (prepend x) (fields_from L n (depth_after d x) rest))

unfoldable pub message : Limits → List ℕ → Reading Fields
message L bs = fields_from L (length bs) 0 bs

-- the events of a byte string
unfoldable pub events_of : Limits → List ℕ → List Event
events_of L bs = (message L bs).events

-- the fields of a byte string that is whole fields
unfoldable pub whole_of : Outcome Fields → List Field
whole_of (whole fs rest) = fs.list
whole_of short = []
whole_of (broken rest) = []

unfoldable pub fields_of : Limits → List ℕ → List Field
fields_of L bs = whole_of (message L bs).outcome

-- "Complete when no field is under way and depth is 0, else incomplete"; or broken, the nth byte being the first offending one,
-- counted from 1 at the message's first byte.
pub data Verdict : Type 0 where
  complete incomplete : Verdict
  broken_at : (n : ℕ) → Verdict

unfoldable pub verdict_by : ℕ → Outcome Fields → Verdict
verdict_by n (whole fs rest) = pick (eqb fs.depth 0) complete incomplete
verdict_by n short = incomplete
verdict_by n (broken rest) = broken_at (n - length rest)

unfoldable pub verdict_of : Limits → List ℕ → Verdict
verdict_of L bs = verdict_by (length bs) (message L bs).outcome

-- ---- complete

-- each of a list
abbrev pub All : {A : Type 0} → (A → Type 0) → List A → Type 0
All P [] = Unit {0}
All P (x ∷ xs) = P x × All P xs

-- a byte string
abbrev pub Bytes : List ℕ → Type 0
Bytes bs = All (λ b. b < 256) bs

-- whole fields, none broken, from one depth to another
pub data WholeFields (L : Limits) : ℕ → List ℕ → List Field → ℕ → Type 0 where
  none : {d : ℕ} → WholeFields L d [] [] d
  next : {d e : ℕ} {bs rest : List ℕ} {x : Field} {xs : List Field} → (field L d bs).outcome ≡ whole x rest → WholeFields L (depth_after d x) rest xs e → WholeFields L d bs (x ∷ xs) e

-- "A ticket is complete when it is whole fields, none broken, ending at depth 0." (A ticket is a byte string: theorems ask `Bytes` too.)
abbrev pub Complete : Limits → List ℕ → Type 0
Complete L bs = (xs : List Field) × WholeFields L 0 bs xs 0
