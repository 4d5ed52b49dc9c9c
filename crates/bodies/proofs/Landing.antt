-- Where what follows a header ends: each case of the layout's `body`, `fixlen` and `float_array_of`.
use Prim.Native.Nat.{ℕ, zero, suc, ◌*◌, ◌/◌, ◌%◌, ◌≤◌, ◌<◌}
use mathlib.Core.Path.{◌≡◌, refl, sym, ap, ◌∙◌}
use mathlib.Core.Bool.{Bool, true, false}
use mathlib.Core.List.{List}
use native.Mathlib.Omega.{arith}
use lib.Dec.{leb}
use borrow.Author.Tests.{eqb-true, eqb-false, leb-true, leb-false, le-leb, lt-leb, eq-eqb, ne_eqb}
use Rattle.layout.specs.Limits.{base, pick}
use Rattle.layout.specs.Varint.{Outcome, whole, short, broken, varint}
use Rattle.layout.specs.Reading.{Reading, given, low_from}
use Rattle.layout.specs.Event.{Unsigned, Float}
use Rattle.layout.specs.Field.{Raw, Field, Width, Subtype, Subtyped, fp32, fp64, bytes_of, subtype_number, subtype_of, known, unknown, float, raw, payload, unsigned_array, float_array}
use Rattle.layout.specs.Field.{t_fixlen, t_unsigneds, t_floats}
use Rattle.layout.specs.Message.{checked, count_of, payload_of, fixlen, float_array_of, body, depth_after, elements}
use Rattle.passing.specs.declared.Stop.{Stop}
use Rattle.passing.specs.Passing.{Rest, stop_in, hop, skips}
use Rattle.bodies.specs.Bodies.{deep, fits, after_body, after_word, after_floats}
use Rattle.passing.proofs.Ends.{stopped}
use Rattle.bodies.proofs.Bodies.{ends_low, ends_payload, ends_floats, ends-elements, deep-scalar, deep-becoming}

-- ---- answers

-- a value, and what follows it
then : {o : Outcome ℕ} {v : ℕ} {rest : List ℕ} (k : ℕ → List ℕ → Reading Field) → o ≡ whole v rest → (d : ℕ) → deep d (given o k).outcome ≡ deep d (k v rest).outcome
unfolding given
then k q d = ap (λ (o : Outcome ℕ). deep d (given o k).outcome) q

-- no value found: nothing follows
stops : {o : Outcome ℕ} (k : ℕ → List ℕ → Reading Field) (e : Stop Rest) → o ≡ stop_in e → (d : ℕ) → deep d (given o k).outcome ≡ stop_in e
unfolding given deep
stops k e q d = stopped e (λ (o : Outcome ℕ). deep d (given o k).outcome) refl (λ bs. refl) q

-- ---- what follows the word of a fixed-length field

module _ (d id n : ℕ) (bs : List ℕ) where
  float_fits : (w : Width) → n ≡ bytes_of w → deep d (fixlen base id n (known (float w)) bs).outcome ≡ hop d n bs
  unfolding fixlen depth_after
  float_fits w e =
      simp (eq-eqb _ _ e)
      (deep-scalar d (float id w) (λ x. refl) (low_from (bytes_of w) 0 0 bs) (Float id w) ∙ ends_low d (bytes_of w) 0 0 bs ∙ ap (λ (m : ℕ). hop d m bs) (sym e))

  float_breaks : (w : Width) → (n ≡ bytes_of w → ⊥) → deep d (fixlen base id n (known (float w)) bs).outcome ≡ broken bs
  unfolding fixlen deep
  float_breaks w e = simp (ne_eqb _ _ e)

  raw_fits : (r : Raw) → n ≤ base.size → deep d (fixlen base id n (known (raw r)) bs).outcome ≡ hop d n bs
  unfolding fixlen depth_after
  raw_fits r h = simp (le-leb _ _ h) (deep-becoming d (payload id r) (λ x. refl) (payload_of id r n bs) ∙ ends_payload d id r n bs)

  raw_breaks : (r : Raw) → base.size < n → deep d (fixlen base id n (known (raw r)) bs).outcome ≡ broken bs
  unfolding fixlen deep
  raw_breaks r h = simp (lt-leb _ _ h)

  -- n floats
  floats_fit : (w : Width) (c : ℕ) → n ≡ bytes_of w → deep d (float_array_of id c n (known (float w)) bs).outcome ≡ hop d (c * n) bs
  unfolding float_array_of depth_after
  floats_fit w c e =
      simp (eq-eqb _ _ e)
      (deep-becoming d (float_array id w) (λ x. refl) (elements (low_from (bytes_of w) 0 0) (Float id w) c bs)
      ∙ ends_floats d (bytes_of w) (Float id w) c bs
      ∙ ap (λ (m : ℕ). hop d (c * m) bs) (sym e))

-- the numbers of subtypes
numbered : (wd : Width) → subtype_of (subtype_number (float wd)) ≡ known (float wd)
numbered fp32 = refl
numbered fp64 = refl

-- n bytes of a subtype
fits_ends : (d id n : ℕ) (bs : List ℕ) (s : Subtype) → fits s n ≡ true → deep d (fixlen base id n (known s) bs).outcome ≡ hop d n bs
fits_ends d id n bs (float w) e = float_fits d id n bs w (eqb-true _ _ e)
fits_ends d id n bs (raw r) e = raw_fits d id n bs r (leb-true _ _ e)

misfit_breaks : (d id n : ℕ) (bs : List ℕ) (s : Subtype) → fits s n ≡ false → deep d (fixlen base id n (known s) bs).outcome ≡ broken bs
misfit_breaks d id n bs (float w) e = float_breaks d id n bs w (eqb-false _ _ e)
misfit_breaks d id n bs (raw r) e = raw_breaks d id n bs r (leb-false _ _ e)

unknown_breaks : (d id n : ℕ) (bs : List ℕ) → deep d (fixlen base id n unknown bs).outcome ≡ broken bs
unfolding deep fixlen
unknown_breaks d id n bs = refl

by_subtype : (d id w : ℕ) (bs : List ℕ) (s : Subtyped) → subtype_of (w % 8) ≡ s → after_word id w bs d ≡ deep d (fixlen base id (w / 8) s bs).outcome
unfolding after_word
by_subtype d id w bs s e = ap (λ (x : Subtyped). deep d (fixlen base id (w / 8) x bs).outcome) e

module _ (id w : ℕ) (bs : List ℕ) where
  pub bytes_fit : (s : Subtype) → subtype_of (w % 8) ≡ known s → fits s (w / 8) ≡ true → (d : ℕ) → after_word id w bs d ≡ hop d (w / 8) bs
  bytes_fit s e h d = by_subtype d id w bs (known s) e ∙ fits_ends d id (w / 8) bs s h

  pub bytes_misfit : (s : Subtype) → subtype_of (w % 8) ≡ known s → fits s (w / 8) ≡ false → (d : ℕ) → after_word id w bs d ≡ broken bs
  bytes_misfit s e h d = by_subtype d id w bs (known s) e ∙ misfit_breaks d id (w / 8) bs s h

  pub bytes_unknown : subtype_of (w % 8) ≡ unknown → (d : ℕ) → after_word id w bs d ≡ broken bs
  bytes_unknown e d = by_subtype d id w bs unknown e ∙ unknown_breaks d id (w / 8) bs

module _ (id : ℕ) (bs : List ℕ) where
  pub fixlen_then : {w : ℕ} {rest : List ℕ} → varint base bs ≡ whole w rest → (d : ℕ) → after_body id t_fixlen bs d ≡ after_word id w rest d
  unfolding after_body body after_word
  fixlen_then q d = then (λ w rest. fixlen base id (w / 8) (subtype_of (w % 8)) rest) q d

  pub fixlen_stops : (e : Stop Rest) → varint base bs ≡ stop_in e → (d : ℕ) → after_body id t_fixlen bs d ≡ stop_in e
  unfolding after_body body
  fixlen_stops e q d = stops (λ w rest. fixlen base id (w / 8) (subtype_of (w % 8)) rest) e q d

-- ---- arrays

-- a value that passed a test
passed : (ok : ℕ → Bool) (o : Outcome ℕ) (a : ℕ) (rest : List ℕ) → checked ok o ≡ whole a rest → ok a ≡ true
unfolding checked
passed ok (whole b bs) a rest e = go (ok b) refl e
  where
    go : (x : Bool) → ok b ≡ x → pick x (whole b bs) (broken bs) ≡ whole a rest → ok a ≡ true
    go true q e = let h : b ≡ a = cc in ap ok (sym h) ∙ q
    go false q e = absurd cc
passed ok short a rest e = absurd cc
passed ok (broken bs) a rest e = absurd cc

pub count_small : (bs : List ℕ) {n : ℕ} {rest : List ℕ} → count_of base bs ≡ whole n rest → n ≤ base.count
count_small bs {n} {rest} q = leb-true _ _ (passed (λ n. leb n base.count) (varint base bs) n rest q)

module _ (id : ℕ) (bs : List ℕ) where
  pub array_then : {n : ℕ} {rest : List ℕ} → count_of base bs ≡ whole n rest → (d : ℕ) → after_body id t_unsigneds bs d ≡ skips base d n rest
  unfolding after_body body depth_after
  array_then {n} {rest} q d =
      then _ q d
      ∙ deep-becoming d (unsigned_array id) (λ x. refl) (elements (varint base) (Unsigned id) n rest)
      ∙ ends-elements d (varint base) (Unsigned id) n rest (λ bs. refl)

  pub array_stops : (e : Stop Rest) → count_of base bs ≡ stop_in e → (d : ℕ) → after_body id t_unsigneds bs d ≡ stop_in e
  unfolding after_body body
  array_stops e q d = stops _ e q d

  pub floats_then : {n w : ℕ} {mid rest : List ℕ} → count_of base bs ≡ whole n mid → varint base mid ≡ whole w rest → (d : ℕ) →
      after_body id t_floats bs d ≡ after_floats id n w rest d
  unfolding after_body body after_floats
  floats_then {n} q u d = then _ q d ∙ then (λ w rest. float_array_of id n (w / 8) (subtype_of (w % 8)) rest) u d

  pub floats_no_word : {n : ℕ} {mid : List ℕ} → count_of base bs ≡ whole n mid → (e : Stop Rest) → varint base mid ≡ stop_in e → (d : ℕ) →
      after_body id t_floats bs d ≡ stop_in e
  unfolding after_body body
  floats_no_word {n} q e u d = then _ q d ∙ stops (λ w rest. float_array_of id n (w / 8) (subtype_of (w % 8)) rest) e u d

  pub floats_stop : (e : Stop Rest) → count_of base bs ≡ stop_in e → (d : ℕ) → after_body id t_floats bs d ≡ stop_in e
  unfolding after_body body
  floats_stop e q d = stops _ e q d

-- the word of a float array: 32 and 65 are the words of the two floats, and every other breaks
floats_break : (d id c n s : ℕ) (bs : List ℕ) → (s ≡ 0 → n ≡ 4 → ⊥) → (s ≡ 1 → n ≡ 8 → ⊥) → deep d (float_array_of id c n (subtype_of s) bs).outcome ≡ broken bs
unfolding deep float_array_of
floats_break d id c n zero bs a b = simp (ne_eqb n 4 (a refl))
floats_break d id c n (suc zero) bs a b = simp (ne_eqb n 8 (b refl))
floats_break d id c n (suc (suc zero)) bs a b = refl
floats_break d id c n (suc (suc (suc zero))) bs a b = refl
floats_break d id c n (suc (suc (suc (suc s)))) bs a b = refl

module _ (w id c : ℕ) (bs : List ℕ) where
  pub floats_jump : (wd : Width) → w % 8 ≡ subtype_number (float wd) → w / 8 ≡ bytes_of wd → (d : ℕ) → after_floats id c w bs d ≡ hop d (c * bytes_of wd) bs
  unfolding after_floats
  floats_jump wd s h d =
      ap (λ (x : Subtyped). deep d (float_array_of id c (w / 8) x bs).outcome) (ap subtype_of s ∙ numbered wd)
      ∙ floats_fit d id (w / 8) bs wd c h
      ∙ ap (λ (m : ℕ). hop d (c * m) bs) h

  pub floats_fail : (w ≡ 32 → ⊥) → (w ≡ 65 → ⊥) → (d : ℕ) → after_floats id c w bs d ≡ broken bs
  unfolding after_floats
  floats_fail a b d = floats_break d id c (w / 8) (w % 8) bs (λ x y. a (omega arith)) (λ x y. b (omega arith))
