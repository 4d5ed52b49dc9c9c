-- Reading one byte at a time: the phase that a reader is in, what a byte does to it, and a walk over a byte string from any phase.
-- proofs/Bridge shows that a walk from the start is the layout's reading; the calls of istream are stated by these steps.
use Rattle.std.specs.Prelude.{ℕ, zero, suc, ◌+◌, ◌-◌, ◌*◌, ◌/◌, ◌%◌, ◌^◌, List, [], ◌∷◌, ◌++◌, length, ltb, leb, eqb}
use Rattle.layout.specs.Limits.{Limits, pick}
use Rattle.layout.specs.Varint.{Outcome, whole, short, broken, Push, more, value, overrun, push}
use Rattle.layout.specs.Zigzag.{unzigzag}
use Rattle.layout.specs.Field.{Width, Raw, Subtyped, Wire, bytes_of, subtype_of, wire_of}
use Rattle.layout.specs.Field.{float, raw, known, unknown, unsigneds, signeds, floats}
use Rattle.layout.specs.Field.{t_unsigned, t_signed, t_fixlen, t_unsigneds, t_signeds, t_floats, t_begin, t_end}
use Rattle.layout.specs.Event.{Event, Unsigned, Signed, Float, Piece, Fixlen, Array, Begin, End}
use Rattle.layout.specs.Message.{Verdict, complete, incomplete, broken_at}

-- What is under way. Within a varint or a float: k bytes taken, which came to v. `left` counts an array's elements from the current one
-- on, and is 0 for a scalar. Between fields no byte of a header is taken.
pub data Phase : Type 0 where
  in_header : (k v : ℕ) → Phase
  in_unsigned : (id left k v : ℕ) → Phase
  in_signed : (id left k v : ℕ) → Phase
  in_word : (id k v : ℕ) → Phase
  in_unsigned_count : (id k v : ℕ) → Phase
  in_signed_count : (id k v : ℕ) → Phase
  in_float_count : (id k v : ℕ) → Phase
  in_array_word : (id count k v : ℕ) → Phase
  in_float : (id : ℕ) (w : Width) (left k v : ℕ) → Phase
  in_payload : (id : ℕ) (r : Raw) (total offset : ℕ) → Phase

abbrev pub idle : Phase
idle = in_header 0 0

-- what a byte comes to: events, and the depth and phase after it; or broken there
pub data Stepped : Type 0 where
  on : List Event → ℕ → Phase → Stepped
  bad : Stepped

-- after an element, the next one or the next field
abbrev pub next_or : ℕ → (ℕ → Phase) → Phase
next_or zero p = idle
next_or (suc zero) p = idle
next_or (suc (suc n)) p = p (suc n)

-- the first element of n, or the next field
abbrev pub first_or : ℕ → (ℕ → Phase) → Phase
first_or n p = next_or (suc n) p

-- a header is whole
abbrev pub at_wire : Limits → ℕ → ℕ → Wire → Stepped
at_wire L d id t_unsigned = on [] d (in_unsigned id 0 0 0)
at_wire L d id t_signed = on [] d (in_signed id 0 0 0)
at_wire L d id t_fixlen = on [] d (in_word id 0 0)
at_wire L d id t_unsigneds = on [] d (in_unsigned_count id 0 0)
at_wire L d id t_signeds = on [] d (in_signed_count id 0 0)
at_wire L d id t_floats = on [] d (in_float_count id 0 0)
at_wire L d id t_begin = pick (ltb d L.depth) (on (Begin id ∷ []) (suc d) idle) bad
at_wire L d id t_end = pick (eqb d 0) bad (on (End ∷ []) (d - 1) idle)

unfoldable pub at_header : Limits → ℕ → ℕ → Stepped
at_header L d h = pick (leb (h / 8) L.id) (at_wire L d (h / 8) (wire_of (h % 8))) bad

-- a payload is announced; an empty one gives its one piece too
abbrev pub at_payload : ℕ → ℕ → Raw → ℕ → Stepped
at_payload d id r zero = on (Fixlen id (raw r) 0 ∷ Piece id r 0 0 [] ∷ []) d idle
at_payload d id r (suc n) = on (Fixlen id (raw r) (suc n) ∷ []) d (in_payload id r (suc n) 0)

-- a fixed-length field's word is whole
abbrev pub at_subtype : Limits → ℕ → ℕ → ℕ → Subtyped → Stepped
at_subtype L d id n (known (float w)) = pick (eqb n (bytes_of w)) (on (Fixlen id (float w) n ∷ []) d (in_float id w 0 0 0)) bad
at_subtype L d id n (known (raw r)) = pick (leb n L.size) (at_payload d id r n) bad
at_subtype L d id n unknown = bad

unfoldable pub at_word : Limits → ℕ → ℕ → ℕ → Stepped
at_word L d id w = at_subtype L d id (w / 8) (subtype_of (w % 8))

-- an array's count is whole
unfoldable pub at_unsigned_count : Limits → ℕ → ℕ → ℕ → Stepped
at_unsigned_count L d id n = pick (leb n L.count) (on (Array id unsigneds n ∷ []) d (first_or n (λ left. in_unsigned id left 0 0))) bad

unfoldable pub at_signed_count : Limits → ℕ → ℕ → ℕ → Stepped
at_signed_count L d id n = pick (leb n L.count) (on (Array id signeds n ∷ []) d (first_or n (λ left. in_signed id left 0 0))) bad

unfoldable pub at_float_count : Limits → ℕ → ℕ → ℕ → Stepped
at_float_count L d id n = pick (leb n L.count) (on [] d (in_array_word id n 0 0)) bad

-- a float array's word is whole
abbrev pub at_element : ℕ → ℕ → ℕ → ℕ → Subtyped → Stepped
at_element d id count n (known (float w)) =
    pick (eqb n (bytes_of w)) (on (Array id (floats w) count ∷ []) d (first_or count (λ left. in_float id w left 0 0))) bad
at_element d id count n (known (raw r)) = bad
at_element d id count n unknown = bad

unfoldable pub at_array_word : ℕ → ℕ → ℕ → ℕ → Stepped
at_array_word d id count w = at_element d id count (w / 8) (subtype_of (w % 8))

-- a number is whole
unfoldable pub at_unsigned : ℕ → ℕ → ℕ → ℕ → Stepped
at_unsigned d id left n = on (Unsigned id n ∷ []) d (next_or left (λ m. in_unsigned id m 0 0))

unfoldable pub at_signed : ℕ → ℕ → ℕ → ℕ → Stepped
at_signed d id left u = on (Signed id (unzigzag u) ∷ []) d (next_or left (λ m. in_signed id m 0 0))

-- a varint byte: the phase that goes on with it, or what its value comes to
unfoldable pub within : ℕ → Push → (ℕ → ℕ → Phase) → (ℕ → Stepped) → Stepped
within d (more k v) p f = on [] d (p k v)
within d (value n) p f = f n
within d overrun p f = bad

-- a float's byte, x being what the float comes to with it
unfoldable pub at_float : ℕ → ℕ → Width → ℕ → ℕ → ℕ → Stepped
at_float d id w left k x =
    pick (ltb (k + 1) (bytes_of w)) (on [] d (in_float id w left (k + 1) x)) (on (Float id w x ∷ []) d (next_or left (λ m. in_float id w m 0 0)))

-- a payload's byte
unfoldable pub at_byte : ℕ → ℕ → Raw → ℕ → ℕ → ℕ → Stepped
at_byte d id r total o b =
    on (Piece id r total o (b ∷ []) ∷ []) d (pick (ltb (suc o) total) (in_payload id r total (suc o)) idle)

-- one byte, at depth d
unfoldable pub step : Limits → ℕ → Phase → ℕ → Stepped
step L d (in_header k v) b = within d (push L k v b) in_header (at_header L d)
step L d (in_unsigned id left k v) b = within d (push L k v b) (in_unsigned id left) (at_unsigned d id left)
step L d (in_signed id left k v) b = within d (push L k v b) (in_signed id left) (at_signed d id left)
step L d (in_word id k v) b = within d (push L k v b) (in_word id) (at_word L d id)
step L d (in_unsigned_count id k v) b = within d (push L k v b) (in_unsigned_count id) (at_unsigned_count L d id)
step L d (in_signed_count id k v) b = within d (push L k v b) (in_signed_count id) (at_signed_count L d id)
step L d (in_float_count id k v) b = within d (push L k v b) (in_float_count id) (at_float_count L d id)
step L d (in_array_word id n k v) b = within d (push L k v b) (in_array_word id n) (at_array_word d id n)
step L d (in_float id w left k v) b = at_float d id w left k (v + b * 256 ^ k)
step L d (in_payload id r total o) b = at_byte d id r total o b

-- ---- a byte string

-- where some bytes lead: to a depth and a phase, or broken, with the bytes after the offending one
pub data Spot : Type 0 where
  at : ℕ → Phase → Spot
  broken_before : List ℕ → Spot

pub record Walk : Type 0 where
  pub events : List Event
  pub spot : Spot

-- from a step on
unfoldable pub onward : Stepped → List ℕ → (ℕ → Phase → Walk) → Walk
onward (on es d p) bs f = record { events = es ++ (f d p).events; spot = (f d p).spot }
onward bad bs f = record { events = []; spot = broken_before bs }

unfoldable pub walk : Limits → ℕ → Phase → List ℕ → Walk
walk L d p [] = record { events = []; spot = at d p }
walk L d p (b ∷ bs) = onward (step L d p b) bs (λ d' p'. walk L d' p' bs)

-- from a spot on
unfoldable pub walk_on : Limits → Spot → List ℕ → Walk
walk_on L (at d p) bs = walk L d p bs
walk_on L (broken_before rest) bs = record { events = []; spot = broken_before (rest ++ bs) }

-- what a phase is worth when no more bytes come: a field boundary at this depth, or a field under way
unfoldable pub ending : ℕ → Phase → Outcome ℕ
ending d (in_header zero v) = whole d []
ending d (in_header (suc k) v) = short
ending d (in_unsigned id left k v) = short
ending d (in_signed id left k v) = short
ending d (in_word id k v) = short
ending d (in_unsigned_count id k v) = short
ending d (in_signed_count id k v) = short
ending d (in_float_count id k v) = short
ending d (in_array_word id n k v) = short
ending d (in_float id w left k v) = short
ending d (in_payload id r total o) = short

unfoldable pub end_of : Spot → Outcome ℕ
end_of (at d p) = ending d p
end_of (broken_before rest) = broken rest

-- the verdict at a spot, n bytes after the start
unfoldable pub verdict_after : ℕ → Outcome ℕ → Verdict
verdict_after n (whole d rest) = pick (eqb d 0) complete incomplete
verdict_after n short = incomplete
verdict_after n (broken rest) = broken_at (n - length rest)
