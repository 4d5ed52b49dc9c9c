-- A walk of the machine is the layout's reading: each phase means the rest of the field that it is in and then the fields after it, and a
-- step takes the first byte of that meaning.
use Prim.Native.Nat.{ℕ, zero, suc, ◌+◌, ◌-◌, ◌*◌, ◌/◌, ◌%◌, ◌^◌, ◌<◌, ◌≤◌}
use native.Mathlib.Nat.{not-suc-le-zero, le_refl}
use native.Mathlib.Numerals.{add-one}
use native.Mathlib.Omega.{arith}
use mathlib.Core.Path.{◌≡◌, refl, sym, ap, ◌∙◌, subst}
use mathlib.Core.Bool.{Bool, true, false, ◌&&◌}
use mathlib.Core.Logic.{◌⊎◌, inl, inr, ⊎_elim}
use mathlib.Core.List.{List, [], ◌∷◌, append-nil}
use lib.ListN.{length}
use lib.IntN.{ℤ}
use lib.Dec.{ltb, leb, eqb}
use borrow.Author.Tests.{ltb-true, ltb-false}
use Rattle.layout.specs.Limits.{Limits, pick, last_byte, last_bound}
use Rattle.layout.specs.Varint.{Outcome, whole, short, broken, Push, more, value, overrun, push, digit, varint_from, varint}
use Rattle.layout.specs.Zigzag.{unzigzag}
use Rattle.layout.specs.Field.{Width, fp32, fp64, Raw, Subtyped, Wire, Field, bytes_of, subtype_of, wire_of}
use Rattle.layout.specs.Field.{float, raw, known, unknown, unsigneds, signeds, floats}
use Rattle.layout.specs.Field.{t_unsigned, t_signed, t_fixlen, t_unsigneds, t_signeds, t_floats, t_begin, t_end}
use Rattle.layout.specs.Field.{unsigned, signed, payload, unsigned_array, signed_array, float_array, end}
use Rattle.layout.specs.Event.{Event, Unsigned, Signed, Float, Piece, Fixlen, Array, End}
use Rattle.layout.specs.Reading.{Reading, quiet, raise, given, follow, and_then, becoming, low_from}
use Rattle.layout.specs.Message.{checked, header_of, count_of, unzigzagged, signed_varint, elements, scalar, payload_from, payload_of, fixlen, float_array_of}
use Rattle.layout.specs.Message.{body, field, depth_after, Fields, prepend, fields_from, message, events_of, verdict_of, verdict_by}
use Rattle.machine.specs.Machine.{Phase, in_header, in_unsigned, in_signed, in_word, in_unsigned_count, in_signed_count, in_float_count, in_array_word, in_float, in_payload}
use Rattle.machine.specs.Machine.{idle, Stepped, on, bad, next_or, first_or, at_wire, at_header, at_payload, at_subtype, at_word}
use Rattle.machine.specs.Machine.{at_unsigned_count, at_signed_count, at_float_count, at_element, at_array_word, at_unsigned, at_signed, within, at_float, at_byte}
use Rattle.machine.specs.Machine.{step, at, onward, walk, ending, end_of, verdict_after}
use Rattle.machine.proofs.Readings.{and_then-raise, and_then-and_then, and_then-given, given_ext, follow_ext, becoming_then}

-- ---- a walk, as a reading

unfoldable pub run : Limits → ℕ → Phase → List ℕ → Reading ℕ
run L d p bs = record { events = (walk L d p bs).events; outcome = end_of (walk L d p bs).spot }

stepped : Stepped → List ℕ → (ℕ → Phase → Reading ℕ) → Reading ℕ
stepped (on es d p) bs f = raise es (f d p)
stepped bad bs f = quiet (broken bs)

stepped-onward : (L : Limits) (bs : List ℕ) (s : Stepped)
    → ◌≡◌ {A = Reading ℕ} (record { events = (onward s bs (λ d' p'. walk L d' p' bs)).events; outcome = end_of (onward s bs (λ d' p'. walk L d' p' bs)).spot }) (stepped s bs (λ d' p'. run L d' p' bs))
unfolding onward end_of stepped run
stepped-onward L bs (on es d p) = refl
stepped-onward L bs bad = refl

run_first : (L : Limits) (d : ℕ) (p : Phase) (b : ℕ) (bs : List ℕ) → run L d p (b ∷ bs) ≡ stepped (step L d p b) bs (λ d' p'. run L d' p' bs)
unfolding run walk
run_first L d p b bs = stepped-onward L bs (step L d p b)

-- ---- what a phase means, where at most n fields follow

-- the depth after the fields of some bytes
abbrev rest : Limits → ℕ → ℕ → List ℕ → Reading ℕ
rest L n d bs = becoming (λ (fs : Fields). fs.depth) (fields_from L n d bs)

-- a field, and the fields after it
abbrev go_on : Limits → ℕ → ℕ → Reading Field → Reading ℕ
go_on L n d r = and_then r (λ x bs. rest L n (depth_after d x) bs)

-- elements, and the fields after them
abbrev go_on_after : {A : Type 0} → Limits → ℕ → ℕ → Reading A → Reading ℕ
go_on_after L n d r = and_then r (λ x bs. rest L n d bs)

-- the elements after the current one
abbrev others : ℕ → ℕ
others zero = zero
others (suc m) = m

means : Limits → ℕ → ℕ → Phase → List ℕ → Reading ℕ
means L n d (in_header zero v) bs = rest L n d bs
means L n d (in_header (suc k) v) bs =
    given (checked (λ h. leb (h / 8) L.id) (varint_from L (suc k) v bs)) (λ h bs'. go_on L n d (body L d (h / 8) (wire_of (h % 8)) bs'))
means L n d (in_unsigned id left k v) bs =
    given (varint_from L k v bs) (λ x bs'. raise (Unsigned id x ∷ []) (go_on_after L n d (elements (varint L) (Unsigned id) (others left) bs')))
means L n d (in_signed id left k v) bs =
    given (varint_from L k v bs) (λ u bs'. raise (Signed id (unzigzag u) ∷ []) (go_on_after L n d (elements (signed_varint L) (Signed id) (others left) bs')))
means L n d (in_word id k v) bs = given (varint_from L k v bs) (λ w bs'. go_on L n d (fixlen L id (w / 8) (subtype_of (w % 8)) bs'))
means L n d (in_unsigned_count id k v) bs =
    given (checked (λ c. leb c L.count) (varint_from L k v bs))
    (λ c bs'. raise (Array id unsigneds c ∷ []) (go_on_after L n d (elements (varint L) (Unsigned id) c bs')))
means L n d (in_signed_count id k v) bs =
    given (checked (λ c. leb c L.count) (varint_from L k v bs))
    (λ c bs'. raise (Array id signeds c ∷ []) (go_on_after L n d (elements (signed_varint L) (Signed id) c bs')))
means L n d (in_float_count id k v) bs =
    given (checked (λ c. leb c L.count) (varint_from L k v bs))
    (λ c bs'. given (varint L bs') (λ w bs''. go_on L n d (float_array_of id c (w / 8) (subtype_of (w % 8)) bs'')))
means L n d (in_array_word id c k v) bs = given (varint_from L k v bs) (λ w bs'. go_on L n d (float_array_of id c (w / 8) (subtype_of (w % 8)) bs'))
means L n d (in_float id w left k v) bs =
    given (low_from (bytes_of w - k) k v bs)
    (λ x bs'. raise (Float id w x ∷ []) (go_on_after L n d (elements (low_from (bytes_of w) 0 0) (Float id w) (others left) bs')))
means L n d (in_payload id r total o) bs = go_on_after L n d (payload_from id r total o (total - o) bs)

-- the numbers that a step leans on
abbrev pub Fair : Phase → Type 0
Fair (in_header zero v) = v ≡ 0
Fair (in_header (suc k) v) = Unit {0}
Fair (in_unsigned id left k v) = Unit {0}
Fair (in_signed id left k v) = Unit {0}
Fair (in_word id k v) = Unit {0}
Fair (in_unsigned_count id k v) = Unit {0}
Fair (in_signed_count id k v) = Unit {0}
Fair (in_float_count id k v) = Unit {0}
Fair (in_array_word id c k v) = Unit {0}
Fair (in_float id w left k v) = k < bytes_of w
Fair (in_payload id r total o) = o < total

-- any phase but the one between fields
abbrev Within : Phase → Type 0
Within (in_header zero v) = ⊥
Within (in_header (suc k) v) = Unit {0}
Within (in_unsigned id left k v) = Unit {0}
Within (in_signed id left k v) = Unit {0}
Within (in_word id k v) = Unit {0}
Within (in_unsigned_count id k v) = Unit {0}
Within (in_signed_count id k v) = Unit {0}
Within (in_float_count id k v) = Unit {0}
Within (in_array_word id c k v) = Unit {0}
Within (in_float id w left k v) = Unit {0}
Within (in_payload id r total o) = Unit {0}

-- ---- one byte

-- a varint that goes on has one byte more
more_is : (L : Limits) (k v b k' v' : ℕ) → push L k v b ≡ more k' v' → k' ≡ suc k
unfolding push
more_is L k v b k' v' e = go (leb (last_byte L) k && leb (last_bound L) b) (ltb b 128) e
  where
    go : (x y : Bool) → pick x overrun (pick y (value (v + digit k b)) (more (k + 1) (v + digit k b))) ≡ more k' v' → k' ≡ suc k
    go true y f = let z : ◌≡◌ {A = ℕ} 0 1 = cc in absurd (omega arith)
    go false true f = let z : ◌≡◌ {A = ℕ} 0 1 = cc in absurd (omega arith)
    go false false f = let z : k + 1 ≡ k' = cc in sym z ∙ add-one k

-- the first byte of a varint
after : Limits → List ℕ → Push → Outcome ℕ
after L bs (more k v) = varint_from L k v bs
after L bs (value n) = whole n bs
after L bs overrun = broken bs

first_byte : (L : Limits) (bs : List ℕ) (q : Push) → elim q [ more k' v' ↦ varint_from L k' v' bs | value n ↦ whole n bs | overrun ↦ broken bs ] ≡ after L bs q
unfolding after
first_byte L bs (more k v) = refl
first_byte L bs (value n) = refl
first_byte L bs overrun = refl

varint_first : (L : Limits) (k v b : ℕ) (bs : List ℕ) → varint_from L k v (b ∷ bs) ≡ after L bs (push L k v b)
unfolding varint_from
varint_first L k v b bs = first_byte L bs (push L k v b)

-- n elements, taken apart
elements_first : {A : Type 0} (L : Limits) (n d : ℕ) (p : List ℕ → Outcome A) (e : A → Event) (m : ℕ) (bs : List ℕ)
    → go_on_after L n d (elements p e (suc m) bs) ≡ given (p bs) (λ x bs'. raise (e x ∷ []) (go_on_after L n d (elements p e m bs')))
unfolding elements
elements_first L n d p e m bs =
    and_then-given (p bs) _ _
    ∙ given_ext (p bs) _ _ (λ x bs'. and_then-raise (e x ∷ []) _ _ ∙ ap (raise (e x ∷ [])) (becoming_then _ (elements p e m bs') _))

unzigzagged-given : {B : Type 0} (o : Outcome ℕ) (f : ℤ → List ℕ → Reading B) → given (unzigzagged o) f ≡ given o (λ u bs. f (unzigzag u) bs)
unfolding given unzigzagged
unzigzagged-given (whole u bs) f = refl
unzigzagged-given short f = refl
unzigzagged-given (broken bs) f = refl

-- an element is whole: the next one, or the fields after the array
module _ (L : Limits) (n d : ℕ) (bs : List ℕ) where
  abbrev to : Stepped → Reading ℕ
  to s = stepped s bs (λ d' p'. means L n d' p' bs)

  no_elements : {A : Type 0} (p : List ℕ → Outcome A) (e : A → Event) → go_on_after L n d (elements p e 0 bs) ≡ rest L n d bs
  unfolding elements follow
  no_elements p e = refl

  next_unsigned : (id left : ℕ) → go_on_after L n d (elements (varint L) (Unsigned id) (others left) bs) ≡ means L n d (next_or left (λ m. in_unsigned id m 0 0)) bs
  unfolding means
  next_unsigned id zero = no_elements (varint L) (Unsigned id)
  next_unsigned id (suc zero) = no_elements (varint L) (Unsigned id)
  next_unsigned id (suc (suc m)) = elements_first L n d (varint L) (Unsigned id) m bs

  next-signed : (id left : ℕ) → go_on_after L n d (elements (signed_varint L) (Signed id) (others left) bs) ≡ means L n d (next_or left (λ m. in_signed id m 0 0)) bs
  unfolding means
  next-signed id zero = no_elements (signed_varint L) (Signed id)
  next-signed id (suc zero) = no_elements (signed_varint L) (Signed id)
  next-signed id (suc (suc m)) = elements_first L n d (signed_varint L) (Signed id) m bs ∙ unzigzagged-given (varint L bs) _

  next_float : (id : ℕ) (w : Width) (left : ℕ) → go_on_after L n d (elements (low_from (bytes_of w) 0 0) (Float id w) (others left) bs) ≡ means L n d (next_or left (λ m. in_float id w m 0 0)) bs
  unfolding means
  next_float id w zero = no_elements (low_from (bytes_of w) 0 0) (Float id w)
  next_float id w (suc zero) = no_elements (low_from (bytes_of w) 0 0) (Float id w)
  next_float id fp32 (suc (suc m)) = elements_first L n d (low_from 4 0 0) (Float id fp32) m bs
  next_float id fp64 (suc (suc m)) = elements_first L n d (low_from 8 0 0) (Float id fp64) m bs

  -- ---- the byte that ends a header, a word or a count

  at_unsigned_lem : (id left x : ℕ) → raise (Unsigned id x ∷ []) (go_on_after L n d (elements (varint L) (Unsigned id) (others left) bs)) ≡ to (at_unsigned d id left x)
  unfolding stepped at_unsigned
  at_unsigned_lem id left x = ap (raise (Unsigned id x ∷ [])) (next_unsigned id left)

  at-signed : (id left u : ℕ) → raise (Signed id (unzigzag u) ∷ []) (go_on_after L n d (elements (signed_varint L) (Signed id) (others left) bs)) ≡ to (at_signed d id left u)
  unfolding stepped at_signed
  at-signed id left u = ap (raise (Signed id (unzigzag u) ∷ [])) (next-signed id left)

  -- a test that breaks the message where it fails
  tested : {A : Type 0} (ok : A → Bool) (a : A) (f : A → List ℕ → Reading ℕ) (s : Stepped) → f a bs ≡ to s
      → given (checked ok (whole a bs)) f ≡ to (pick (ok a) s bad)
  unfolding checked given stepped
  tested ok a f s h = go (ok a)
    where
      go : (t : Bool) → given (pick t (whole a bs) (broken bs)) f ≡ to (pick t s bad)
      go true = h
      go false = refl

  picked : (t : Bool) (r : Reading Field) (s : Stepped) → go_on L n d r ≡ to s → go_on L n d (pick t r (quiet (broken bs))) ≡ to (pick t s bad)
  unfolding follow stepped
  picked true r s h = h
  picked false r s h = refl

  go_on_raise : (es : List Event) (r : Reading Field) → go_on L n d (raise es r) ≡ raise es (go_on L n d r)
  go_on_raise es r = and_then-raise es r _

  at-scalar : {A : Type 0} (o : Outcome A) (e : A → Event) (f : A → Field) → ((a : A) → depth_after d (f a) ≡ d)
      → go_on L n d (scalar o e f) ≡ given o (λ x bs'. raise (e x ∷ []) (rest L n d bs'))
  unfolding follow
  at-scalar o e f h =
      and_then-given o _ _ ∙ given_ext o _ _ (λ x bs'. ap (λ (d' : ℕ). raise (e x ∷ []) (rest L n d' bs')) (h x))

  at_array : {A : Type 0} (es : List Event) (r : Reading A) (f : A → Field) → ((a : A) → depth_after d (f a) ≡ d)
      → go_on L n d (raise es (becoming f r)) ≡ raise es (go_on_after L n d r)
  at_array es r f h =
      and_then-raise es _ _ ∙ ap (raise es) (becoming_then f r _ ∙ follow_ext r.events r.outcome _ _ (λ x bs'. ap (λ (d' : ℕ). rest L n d' bs') (h x)))

  at_wire_lem : (id : ℕ) (t : Wire) → go_on L n d (body L d id t bs) ≡ to (at_wire L d id t)
  unfolding body stepped means elements follow depth_after
  at_wire_lem id t_unsigned = at-scalar (varint L bs) (Unsigned id) (unsigned id) (λ x. refl)
  at_wire_lem id t_signed = at-scalar (signed_varint L bs) (Signed id) (signed id) (λ x. refl) ∙ unzigzagged-given (varint L bs) _
  at_wire_lem id t_fixlen = and_then-given (varint L bs) _ _
  at_wire_lem id t_unsigneds =
      and_then-given (count_of L bs) _ _
      ∙ given_ext (count_of L bs) _ _ (λ c bs'. at_array (Array id unsigneds c ∷ []) (elements (varint L) (Unsigned id) c bs') (unsigned_array id) (λ x. refl))
  at_wire_lem id t_signeds =
      and_then-given (count_of L bs) _ _
      ∙ given_ext (count_of L bs) _ _ (λ c bs'. at_array (Array id signeds c ∷ []) (elements (signed_varint L) (Signed id) c bs') (signed_array id) (λ x. refl))
  at_wire_lem id t_floats =
      and_then-given (count_of L bs) _ _
      ∙ given_ext (count_of L bs) _ _ (λ c bs'. and_then-given (varint L bs') _ _)
  at_wire_lem id t_begin = picked (ltb d L.depth) _ _ refl
  at_wire_lem id t_end = go (eqb d 0)
    where
      go : (t : Bool) → go_on L n d (pick t (quiet (broken bs)) (raise (End ∷ []) (quiet (whole (end id) bs)))) ≡ to (pick t bad (on (End ∷ []) (d - 1) idle))
      go true = refl
      go false = refl

  at-header : (h : ℕ) → given (checked (λ h. leb (h / 8) L.id) (whole h bs)) (λ h bs'. go_on L n d (body L d (h / 8) (wire_of (h % 8)) bs')) ≡ to (at_header L d h)
  unfolding at_header
  at-header h = tested (λ h. leb (h / 8) L.id) h _ _ (at_wire_lem (h / 8) (wire_of (h % 8)))

  at_float_lem : (id : ℕ) (w : Width) → go_on L n d (scalar (low_from (bytes_of w) 0 0 bs) (Float id w) (float id w)) ≡ means L n d (in_float id w 0 0 0) bs
  unfolding means elements follow depth_after
  at_float_lem id fp32 = at-scalar (low_from 4 0 0 bs) (Float id fp32) (float id fp32) (λ x. refl)
  at_float_lem id fp64 = at-scalar (low_from 8 0 0 bs) (Float id fp64) (float id fp64) (λ x. refl)

  at_payload_lem : (id : ℕ) (r : Raw) (m : ℕ) → go_on L n d (raise (Fixlen id (raw r) m ∷ []) (becoming (payload id r) (payload_of id r m bs))) ≡ to (at_payload d id r m)
  unfolding payload_of stepped means depth_after follow
  at_payload_lem id r zero = at_array (Fixlen id (raw r) 0 ∷ []) (payload_of id r 0 bs) (payload id r) (λ x. refl)
  at_payload_lem id r (suc m) =
      let z : suc m - 0 ≡ suc m = omega arith in
      at_array (Fixlen id (raw r) (suc m) ∷ []) (payload_of id r (suc m) bs) (payload id r) (λ x. refl)
      ∙ ap (λ (j : ℕ). raise (Fixlen id (raw r) (suc m) ∷ []) (go_on_after L n d (payload_from id r (suc m) 0 j bs))) (sym z)

  at-subtype : (id m : ℕ) (s : Subtyped) → go_on L n d (fixlen L id m s bs) ≡ to (at_subtype L d id m s)
  unfolding fixlen stepped follow
  at-subtype id m (known (float w)) =
      picked (eqb m (bytes_of w)) _ _ (go_on_raise (Fixlen id (float w) m ∷ []) (scalar (low_from (bytes_of w) 0 0 bs) (Float id w) (float id w)) ∙ ap (raise (Fixlen id (float w) m ∷ [])) (at_float_lem id w))
  at-subtype id m (known (raw r)) = picked (leb m L.size) _ _ (at_payload_lem id r m)
  at-subtype id m unknown = refl

  at_element_lem : (id c m : ℕ) (s : Subtyped) → go_on L n d (float_array_of id c m s bs) ≡ to (at_element d id c m s)
  unfolding float_array_of stepped follow depth_after
  at_element_lem id c m (known (float w)) =
      picked (eqb m (bytes_of w)) _ _
      (at_array (Array id (floats w) c ∷ []) (elements (low_from (bytes_of w) 0 0) (Float id w) c bs) (float_array id w) (λ x. refl)
      ∙ ap (raise (Array id (floats w) c ∷ [])) (next_float id w (suc c)))
  at_element_lem id c m (known (raw r)) = refl
  at_element_lem id c m unknown = refl

  -- ---- one byte

  checked-given : {A : Type 0} (ok : A → Bool) (o : Outcome A) (f : A → List ℕ → Reading ℕ) → given (checked ok o) f ≡ given o (λ a bs'. given (checked ok (whole a bs')) f)
  unfolding checked given
  checked-given ok (whole a bs') f = refl
  checked-given ok short f = refl
  checked-given ok (broken bs') f = refl

  module _ (k v b : ℕ) (p : ℕ → ℕ → Phase) where
    varint-step : (f : ℕ → List ℕ → Reading ℕ) (g : ℕ → Stepped)
        → ((k' v' : ℕ) → push L k v b ≡ more k' v' → given (varint_from L k' v' bs) f ≡ means L n d (p k' v') bs)
        → ((x : ℕ) → f x bs ≡ to (g x))
        → given (varint_from L k v (b ∷ bs)) f ≡ to (within d (push L k v b) p g)
    unfolding after given stepped within
    varint-step f g goes ends = ap (λ (o : Outcome ℕ). given o f) (varint_first L k v b bs) ∙ go (push L k v b) refl
      where
        go : (q : Push) → push L k v b ≡ q → given (after L bs q) f ≡ to (within d q p g)
        go (more k' v') e = goes k' v' e
        go (value x) e = ends x
        go overrun e = refl

    checked-step : (ok : ℕ → Bool) (f : ℕ → List ℕ → Reading ℕ) (g : ℕ → Stepped)
        → ((k' v' : ℕ) → push L k v b ≡ more k' v' → given (checked ok (varint_from L k' v' bs)) f ≡ means L n d (p k' v') bs)
        → ((x : ℕ) → given (checked ok (whole x bs)) f ≡ to (g x))
        → given (checked ok (varint_from L k v (b ∷ bs))) f ≡ to (within d (push L k v b) p g)
    checked-step ok f g goes ends =
        checked-given ok (varint_from L k v (b ∷ bs)) f
        ∙ varint-step (λ a bs'. given (checked ok (whole a bs')) f) g
        (λ k' v' e. sym (checked-given ok (varint_from L k' v' bs) f) ∙ goes k' v' e)
        ends

  header-step : (k v b : ℕ) → given (checked (λ h. leb (h / 8) L.id) (varint_from L k v (b ∷ bs))) (λ h bs'. go_on L n d (body L d (h / 8) (wire_of (h % 8)) bs')) ≡ to (step L d (in_header k v) b)
  unfolding step means
  header-step k v b =
      checked-step k v b in_header (λ h. leb (h / 8) L.id) _ (at_header L d)
      (λ k' v' e. subst (λ (j : ℕ). given (checked (λ h. leb (h / 8) L.id) (varint_from L j v' bs)) (λ h bs'. go_on L n d (body L d (h / 8) (wire_of (h % 8)) bs')) ≡ means L n d (in_header j v') bs) (sym (more_is L k v b k' v' e)) refl)
      at-header

  count_step : (f : ℕ → List ℕ → Reading ℕ) (p : ℕ → ℕ → Phase) (s : ℕ → Stepped) (g : ℕ → Stepped) (k v b : ℕ)
      → ((k' v' : ℕ) → given (checked (λ c. leb c L.count) (varint_from L k' v' bs)) f ≡ means L n d (p k' v') bs)
      → ((c : ℕ) → g c ≡ pick (leb c L.count) (s c) bad)
      → ((c : ℕ) → f c bs ≡ to (s c))
      → given (checked (λ c. leb c L.count) (varint_from L k v (b ∷ bs))) f ≡ to (within d (push L k v b) p g)
  count_step f p s g k v b goes is ends =
      checked-step k v b p (λ c. leb c L.count) f g
      (λ k' v' e. goes k' v')
      (λ c. tested (λ c. leb c L.count) c f (s c) (ends c) ∙ ap to (sym (is c)))

  -- a float's byte: another one follows, or it is the last
  float_more : (id : ℕ) (w : Width) (left k v b : ℕ) → bytes_of w - k ≡ suc (bytes_of w - (k + 1)) → ltb (k + 1) (bytes_of w) ≡ true
      → means L n d (in_float id w left k v) (b ∷ bs) ≡ to (step L d (in_float id w left k v) b)
  unfolding means step at_float stepped low_from
  float_more id w left k v b j e =
      ap (λ (m : ℕ). given (low_from m k v (b ∷ bs)) (λ x bs'. raise (Float id w x ∷ []) (go_on_after L n d (elements (low_from (bytes_of w) 0 0) (Float id w) (others left) bs')))) j
      ∙ ap (λ (t : Bool). to (pick t (on [] d (in_float id w left (k + 1) (v + b * 256 ^ k))) (on (Float id w (v + b * 256 ^ k) ∷ []) d (next_or left (λ m. in_float id w m 0 0))))) (sym e)

  float_last : (id : ℕ) (w : Width) (left k v b : ℕ) → bytes_of w - k ≡ 1 → ltb (k + 1) (bytes_of w) ≡ false
      → means L n d (in_float id w left k v) (b ∷ bs) ≡ to (step L d (in_float id w left k v) b)
  unfolding means step at_float stepped low_from given
  float_last id w left k v b j e =
      ap (λ (m : ℕ). given (low_from m k v (b ∷ bs)) (λ x bs'. raise (Float id w x ∷ []) (go_on_after L n d (elements (low_from (bytes_of w) 0 0) (Float id w) (others left) bs')))) j
      ∙ ap (raise (Float id w (v + b * 256 ^ k) ∷ [])) (next_float id w left)
      ∙ ap (λ (t : Bool). to (pick t (on [] d (in_float id w left (k + 1) (v + b * 256 ^ k))) (on (Float id w (v + b * 256 ^ k) ∷ []) d (next_or left (λ m. in_float id w m 0 0))))) (sym e)

  float_step : (id : ℕ) (w : Width) (left k v b : ℕ) → k < bytes_of w → means L n d (in_float id w left k v) (b ∷ bs) ≡ to (step L d (in_float id w left k v) b)
  float_step id w left k v b h = go (ltb (k + 1) (bytes_of w)) refl
    where
      go : (t : Bool) → ltb (k + 1) (bytes_of w) ≡ t → means L n d (in_float id w left k v) (b ∷ bs) ≡ to (step L d (in_float id w left k v) b)
      go true e =
          let c : k + 1 < bytes_of w = ltb-true (k + 1) (bytes_of w) e in
          let j : bytes_of w - k ≡ suc (bytes_of w - (k + 1)) = omega arith in
          float_more id w left k v b j e
      go false e =
          let c : bytes_of w ≤ k + 1 = ltb-false (k + 1) (bytes_of w) e in
          let j : bytes_of w - k ≡ 1 = omega arith in
          float_last id w left k v b j e

  -- a payload's byte
  payload_byte : (id : ℕ) (r : Raw) (total o b j : ℕ) → go_on_after L n d (payload_from id r total o (suc j) (b ∷ bs)) ≡ raise (Piece id r total o (b ∷ []) ∷ []) (go_on_after L n d (payload_from id r total (suc o) j bs))
  unfolding payload_from
  payload_byte id r total o b j =
      and_then-raise (Piece id r total o (b ∷ []) ∷ []) (becoming (λ xs. b ∷ xs) (payload_from id r total (suc o) j bs)) _
      ∙ ap (raise (Piece id r total o (b ∷ []) ∷ [])) (becoming_then (λ xs. b ∷ xs) (payload_from id r total (suc o) j bs) _)

  no_payload : (id : ℕ) (r : Raw) (total o : ℕ) → go_on_after L n d (payload_from id r total o 0 bs) ≡ rest L n d bs
  unfolding payload_from follow
  no_payload id r total o = refl

  payload_step : (id : ℕ) (r : Raw) (total o b : ℕ) → o < total → means L n d (in_payload id r total o) (b ∷ bs) ≡ to (step L d (in_payload id r total o) b)
  unfolding means step at_byte stepped
  payload_step id r total o b h = go (ltb (suc o) total) refl
    where
      ev : List Event
      ev = Piece id r total o (b ∷ []) ∷ []

      at : (m m' : ℕ) → m ≡ m' → go_on_after L n d (payload_from id r total o m (b ∷ bs)) ≡ go_on_after L n d (payload_from id r total o m' (b ∷ bs))
      at m m' e = ap (λ (m : ℕ). go_on_after L n d (payload_from id r total o m (b ∷ bs))) e

      go : (t : Bool) → ltb (suc o) total ≡ t → go_on_after L n d (payload_from id r total o (total - o) (b ∷ bs)) ≡ raise ev (means L n d (pick (ltb (suc o) total) (in_payload id r total (suc o)) idle) bs)
      go true e =
          let c : suc o < total = ltb-true (suc o) total e in
          let j : total - o ≡ suc (total - suc o) = omega arith in
          at (total - o) (suc (total - suc o)) j ∙ payload_byte id r total o b (total - suc o)
          ∙ ap (λ (t : Bool). raise ev (means L n d (pick t (in_payload id r total (suc o)) idle) bs)) (sym e)
      go false e =
          let c : total ≤ suc o = ltb-false (suc o) total e in
          let j : total - o ≡ 1 = omega arith in
          at (total - o) 1 j ∙ payload_byte id r total o b 0 ∙ ap (raise ev) (no_payload id r total (suc o))
          ∙ ap (λ (t : Bool). raise ev (means L n d (pick t (in_payload id r total (suc o)) idle) bs)) (sym e)

  within_step : (p : Phase) → Fair p → Within p → (b : ℕ) → means L n d p (b ∷ bs) ≡ to (step L d p b)
  unfolding step means at_unsigned_count at_signed_count at_float_count at_word at_array_word stepped
  within_step (in_header zero v) f i b = absurd i
  within_step (in_header (suc k) v) f i b = header-step (suc k) v b
  within_step (in_unsigned id left k v) f i b = varint-step k v b (in_unsigned id left) _ (at_unsigned d id left) (λ k' v' e. refl) (at_unsigned_lem id left)
  within_step (in_signed id left k v) f i b = varint-step k v b (in_signed id left) _ (at_signed d id left) (λ k' v' e. refl) (at-signed id left)
  within_step (in_word id k v) f i b = varint-step k v b (in_word id) _ (at_word L d id) (λ k' v' e. refl) (λ w. at-subtype id (w / 8) (subtype_of (w % 8)))
  within_step (in_unsigned_count id k v) f i b =
      count_step _ (in_unsigned_count id) (λ c. on (Array id unsigneds c ∷ []) d (first_or c (λ left. in_unsigned id left 0 0))) (at_unsigned_count L d id) k v b
      (λ k' v'. refl) (λ c. refl) (λ c. ap (raise (Array id unsigneds c ∷ [])) (next_unsigned id (suc c)))
  within_step (in_signed_count id k v) f i b =
      count_step _ (in_signed_count id) (λ c. on (Array id signeds c ∷ []) d (first_or c (λ left. in_signed id left 0 0))) (at_signed_count L d id) k v b
      (λ k' v'. refl) (λ c. refl) (λ c. ap (raise (Array id signeds c ∷ [])) (next-signed id (suc c)))
  within_step (in_float_count id k v) f i b =
      count_step _ (in_float_count id) (λ c. on [] d (in_array_word id c 0 0)) (at_float_count L d id) k v b (λ k' v'. refl) (λ c. refl) (λ c. refl)
  within_step (in_array_word id c k v) f i b = varint-step k v b (in_array_word id c) _ (at_array_word d id c) (λ k' v' e. refl) (λ w. at_element_lem id c (w / 8) (subtype_of (w % 8)))
  within_step (in_float id w left k v) f i b = float_step id w left k v b f
  within_step (in_payload id r total o) f i b = payload_step id r total o b f

  -- between fields: one field fewer is to come
  idle-step : (b : ℕ) → rest L (suc n) d (b ∷ bs) ≡ to (step L d idle b)
  unfolding fields_from field
  idle-step b =
      and_then-and_then (field L d (b ∷ bs)) _ _
      ∙ follow_ext (field L d (b ∷ bs)).events (field L d (b ∷ bs)).outcome _ _ (λ x bs'. becoming_then (prepend x) (fields_from L n (depth_after d x) bs') _)
      ∙ and_then-given (header_of L (b ∷ bs)) _ _
      ∙ header-step 0 0 b

-- ---- fairness is kept

abbrev pub FairStep : Stepped → Type 0
FairStep (on es d p) = Fair p
FairStep bad = Unit {0}

-- counts of elements from 1 on
fair_next : (left : ℕ) (p : ℕ → Phase) → ((m : ℕ) → Fair (p m)) → Fair (next_or left p)
fair_next zero p h = refl
fair_next (suc zero) p h = refl
fair_next (suc (suc m)) p h = h (suc m)

fair_pick : (t : Bool) (s s' : Stepped) → FairStep s → FairStep s' → FairStep (pick t s s')
fair_pick true s s' h h' = h
fair_pick false s s' h h' = h'

some_byte : (w : Width) → 0 < bytes_of w
some_byte fp32 = omega arith
some_byte fp64 = omega arith

fair_float : (id : ℕ) (w : Width) (left : ℕ) → Fair (next_or left (λ m. in_float id w m 0 0))
fair_float id w left = fair_next left (λ m. in_float id w m 0 0) (λ m. some_byte w)

fair_wire : (L : Limits) (d id : ℕ) (t : Wire) → FairStep (at_wire L d id t)
fair_wire L d id t_unsigned = tt
fair_wire L d id t_signed = tt
fair_wire L d id t_fixlen = tt
fair_wire L d id t_unsigneds = tt
fair_wire L d id t_signeds = tt
fair_wire L d id t_floats = tt
fair_wire L d id t_begin = fair_pick (ltb d L.depth) _ bad refl tt
fair_wire L d id t_end = fair_pick (eqb d 0) bad _ tt refl

fair_payload : (d id : ℕ) (r : Raw) (m : ℕ) → FairStep (at_payload d id r m)
fair_payload d id r zero = refl
fair_payload d id r (suc m) = omega arith

fair_subtype : (L : Limits) (d id m : ℕ) (s : Subtyped) → FairStep (at_subtype L d id m s)
fair_subtype L d id m (known (float w)) = fair_pick (eqb m (bytes_of w)) _ bad (some_byte w) tt
fair_subtype L d id m (known (raw r)) = fair_pick (leb m L.size) _ bad (fair_payload d id r m) tt
fair_subtype L d id m unknown = tt

fair_element : (d id c m : ℕ) (s : Subtyped) → FairStep (at_element d id c m s)
fair_element d id c m (known (float w)) = fair_pick (eqb m (bytes_of w)) _ bad (fair_float id w (suc c)) tt
fair_element d id c m (known (raw r)) = tt
fair_element d id c m unknown = tt

fair_within : (L : Limits) (d k v b : ℕ) (p : ℕ → ℕ → Phase) (g : ℕ → Stepped) → ((j v' : ℕ) → Fair (p (suc j) v')) → ((x : ℕ) → FairStep (g x)) → FairStep (within d (push L k v b) p g)
unfolding within
fair_within L d k v b p g h h' = go (push L k v b) refl
  where
    go : (q : Push) → push L k v b ≡ q → FairStep (within d q p g)
    go (more k' v') e = subst (λ (j : ℕ). Fair (p j v')) (sym (more_is L k v b k' v' e)) (h k v')
    go (value x) e = h' x
    go overrun e = tt

pub fair_step : (L : Limits) (d : ℕ) (p : Phase) (b : ℕ) → Fair p → FairStep (step L d p b)
unfolding step at_header at_word at_unsigned_count at_signed_count at_float_count at_array_word at_unsigned at_signed at_float at_byte
fair_step L d (in_header k v) b f = fair_within L d k v b in_header (at_header L d) (λ j v'. tt) (λ h. fair_pick (leb (h / 8) L.id) _ bad (fair_wire L d (h / 8) (wire_of (h % 8))) tt)
fair_step L d (in_unsigned id left k v) b f = fair_within L d k v b (in_unsigned id left) (at_unsigned d id left) (λ j v'. tt) (λ x. fair_next left (λ m. in_unsigned id m 0 0) (λ m. tt))
fair_step L d (in_signed id left k v) b f = fair_within L d k v b (in_signed id left) (at_signed d id left) (λ j v'. tt) (λ x. fair_next left (λ m. in_signed id m 0 0) (λ m. tt))
fair_step L d (in_word id k v) b f = fair_within L d k v b (in_word id) (at_word L d id) (λ j v'. tt) (λ w. fair_subtype L d id (w / 8) (subtype_of (w % 8)))
fair_step L d (in_unsigned_count id k v) b f =
    fair_within L d k v b (in_unsigned_count id) (at_unsigned_count L d id) (λ j v'. tt)
    (λ c. fair_pick (leb c L.count) _ bad (fair_next (suc c) (λ m. in_unsigned id m 0 0) (λ m. tt)) tt)
fair_step L d (in_signed_count id k v) b f =
    fair_within L d k v b (in_signed_count id) (at_signed_count L d id) (λ j v'. tt)
    (λ c. fair_pick (leb c L.count) _ bad (fair_next (suc c) (λ m. in_signed id m 0 0) (λ m. tt)) tt)
fair_step L d (in_float_count id k v) b f = fair_within L d k v b (in_float_count id) (at_float_count L d id) (λ j v'. tt) (λ c. fair_pick (leb c L.count) _ bad tt tt)
fair_step L d (in_array_word id c k v) b f = fair_within L d k v b (in_array_word id c) (at_array_word d id c) (λ j v'. tt) (λ w. fair_element d id c (w / 8) (subtype_of (w % 8)))
fair_step L d (in_float id w left k v) b f = go (ltb (k + 1) (bytes_of w)) refl
  where
    go : (t : Bool) → ltb (k + 1) (bytes_of w) ≡ t → FairStep (pick t (on [] d (in_float id w left (k + 1) (v + b * 256 ^ k))) (on (Float id w (v + b * 256 ^ k) ∷ []) d (next_or left (λ m. in_float id w m 0 0))))
    go true e = ltb-true (k + 1) (bytes_of w) e
    go false e = fair_float id w left
fair_step L d (in_payload id r total o) b f = go (ltb (suc o) total) refl
  where
    go : (t : Bool) → ltb (suc o) total ≡ t → Fair (pick t (in_payload id r total (suc o)) idle)
    go true e = ltb-true (suc o) total e
    go false e = refl

-- ---- the theorem

stepped_ext : (s : Stepped) (bs : List ℕ) (f g : ℕ → Phase → Reading ℕ) → FairStep s → ((d : ℕ) (p : Phase) → Fair p → f d p ≡ g d p) → stepped s bs f ≡ stepped s bs g
unfolding stepped
stepped_ext (on es d p) bs f g h e = ap (raise es) (e d p h)
stepped_ext bad bs f g h e = refl

-- no byte left
float_nil : (L : Limits) (n d id : ℕ) (w : Width) (left k v : ℕ) → k < bytes_of w → quiet short ≡ means L n d (in_float id w left k v) []
unfolding means low_from given
float_nil L n d id w left k v h =
    let j : suc (bytes_of w - (k + 1)) ≡ bytes_of w - k = omega arith in
    ap (λ (m : ℕ). given (low_from m k v []) (λ x bs'. raise (Float id w x ∷ []) (go_on_after L n d (elements (low_from (bytes_of w) 0 0) (Float id w) (others left) bs')))) j

payload_nil : (L : Limits) (n d id : ℕ) (r : Raw) (total o : ℕ) → o < total → quiet short ≡ means L n d (in_payload id r total o) []
unfolding means payload_from follow
payload_nil L n d id r total o h =
    let j : suc (total - suc o) ≡ total - o = omega arith in
    ap (λ (m : ℕ). go_on_after L n d (payload_from id r total o m [])) j

run_nil : (L : Limits) (n d : ℕ) (p : Phase) → Fair p → run L d p [] ≡ means L n d p []
unfolding run walk end_of ending means fields_from varint_from given checked follow
run_nil L zero d (in_header zero v) f = refl
run_nil L (suc n) d (in_header zero v) f = refl
run_nil L n d (in_header (suc k) v) f = refl
run_nil L n d (in_unsigned id left k v) f = refl
run_nil L n d (in_signed id left k v) f = refl
run_nil L n d (in_word id k v) f = refl
run_nil L n d (in_unsigned_count id k v) f = refl
run_nil L n d (in_signed_count id k v) f = refl
run_nil L n d (in_float_count id k v) f = refl
run_nil L n d (in_array_word id c k v) f = refl
run_nil L n d (in_float id w left k v) f = float_nil L n d id w left k v f
run_nil L n d (in_payload id r total o) f = payload_nil L n d id r total o f

run_cons : (L : Limits) (b : ℕ) (bs : List ℕ) (m d : ℕ) (p : Phase) → Fair p → ((d' : ℕ) (p' : Phase) → Fair p' → run L d' p' bs ≡ means L m d' p' bs)
    → run L d p (b ∷ bs) ≡ stepped (step L d p b) bs (λ d' p'. means L m d' p' bs)
run_cons L b bs m d p f h = run_first L d p b bs ∙ stepped_ext (step L d p b) bs _ _ (fair_step L d p b f) h

-- between fields, or within one
where_is : (p : Phase) → Fair p → (p ≡ idle) ⊎ Within p
where_is (in_header zero v) f = inl (ap (in_header 0) f)
where_is (in_header (suc k) v) f = inr tt
where_is (in_unsigned id left k v) f = inr tt
where_is (in_signed id left k v) f = inr tt
where_is (in_word id k v) f = inr tt
where_is (in_unsigned_count id k v) f = inr tt
where_is (in_signed_count id k v) f = inr tt
where_is (in_float_count id k v) f = inr tt
where_is (in_array_word id c k v) f = inr tt
where_is (in_float id w left k v) f = inr tt
where_is (in_payload id r total o) f = inr tt

run_means : (L : Limits) (bs : List ℕ) (n : ℕ) → length bs ≤ n → (d : ℕ) (p : Phase) → Fair p → run L d p bs ≡ means L n d p bs
unfolding means
run_means L [] n h d p f = run_nil L n d p f
run_means L (b ∷ bs) zero h d p f = absurd (not-suc-le-zero h)
run_means L (b ∷ bs) (suc n) h d p f = ⊎_elim (between (λ d' p' f'. run_means L bs n (omega arith) d' p' f')) (inside (λ d' p' f'. run_means L bs (suc n) (omega arith) d' p' f')) (where_is p f)
  where
    between : ((d' : ℕ) (p' : Phase) → Fair p' → run L d' p' bs ≡ means L n d' p' bs) → p ≡ idle → run L d p (b ∷ bs) ≡ means L (suc n) d p (b ∷ bs)
    between ih e = subst (λ (p : Phase). run L d p (b ∷ bs) ≡ means L (suc n) d p (b ∷ bs)) (sym e) (run_cons L b bs n d idle refl ih ∙ sym (idle-step L n d bs b))

    inside : ((d' : ℕ) (p' : Phase) → Fair p' → run L d' p' bs ≡ means L (suc n) d' p' bs) → Within p → run L d p (b ∷ bs) ≡ means L (suc n) d p (b ∷ bs)
    inside ih i = run_cons L b bs (suc n) d p f ih ∙ sym (within_step L (suc n) d bs p f i b)

-- a reading of the layout, but for its fields, is a walk from the start
pub bridge : (L : Limits) (bs : List ℕ) → becoming (λ (fs : Fields). fs.depth) (message L bs) ≡ run L 0 idle bs
unfolding message means
bridge L bs = sym (run_means L bs (length bs) (le_refl (length bs)) 0 idle refl)

-- ---- events and verdict

becoming-events : {A B : Type 0} (f : A → B) (es : List Event) (o : Outcome A) → (follow es o (λ a rest. quiet (whole (f a) rest))).events ≡ es
unfolding follow
becoming-events f es (whole a rest) = append-nil es
becoming-events f es short = refl
becoming-events f es (broken rest) = refl

becoming-judged : (n : ℕ) (es : List Event) (o : Outcome Fields) → verdict_after n (follow es o (λ fs rest. quiet (whole fs.depth rest))).outcome ≡ verdict_by n o
unfolding follow verdict_after verdict_by
becoming-judged n es (whole fs rest) = refl
becoming-judged n es short = refl
becoming-judged n es (broken rest) = refl

-- the layout's events are those that the walk raises
pub events-walk : (L : Limits) (bs : List ℕ) → events_of L bs ≡ (walk L 0 idle bs).events
unfolding events_of run
events-walk L bs = sym (becoming-events (λ (fs : Fields). fs.depth) (message L bs).events (message L bs).outcome) ∙ ap (λ (r : Reading ℕ). r.events) (bridge L bs)

-- the layout's verdict is that of the spot to which the walk leads
pub verdict_walk : (L : Limits) (bs : List ℕ) → verdict_of L bs ≡ verdict_after (length bs) (end_of (walk L 0 idle bs).spot)
unfolding verdict_of run
verdict_walk L bs =
    sym (becoming-judged (length bs) (message L bs).events (message L bs).outcome) ∙ ap (λ (r : Reading ℕ). verdict_after (length bs) r.outcome) (bridge L bs)
