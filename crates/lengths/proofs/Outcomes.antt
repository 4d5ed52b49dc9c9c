-- The layout's outcomes by the length of the plain copy: what follows a header, where a value in it becomes a field.
use Prim.Native.Nat.{ℕ, zero, suc, ◌+◌, ◌*◌, ◌≤◌}
use mathlib.Core.Path.{◌≡◌, refl, sym, ap, ◌∙◌}
use mathlib.Core.Bool.{Bool, true, false}
use mathlib.Core.List.{List, [], ◌∷◌, ◌++◌}
use native.Mathlib.Omega.{arith}
use lib.Dec.{leb, eqb}
use lib.ListN.{length, length-append}
use borrow.Author.Tests.{eqb-true}
use Rattle.layout.specs.Limits.{base, pick}
use Rattle.layout.specs.Varint.{Outcome, whole, short, broken, varint, shortest}
use Rattle.layout.specs.Zigzag.{zigzag}
use Rattle.layout.specs.Event.{Event, Unsigned, Signed, Float}
use Rattle.layout.specs.Reading.{Reading, quiet, raise, given, follow, becoming}
use Rattle.layout.specs.Field.{Field, Subtype, bytes_of, known, float, raw, header, word, low_bytes, each}
use Rattle.layout.specs.Field.{unsigned, signed, payload, float_array}
use Rattle.layout.specs.Field.{t_unsigned, t_signed, t_fixlen, t_floats}
use Rattle.layout.specs.Message.{Bytes, unzigzagged, signed_varint, scalar, elements, fixlen, float_array_of, body, depth_after}
use Rattle.layout.specs.Copy.{field_bytes}
use Rattle.varint.proofs.Zigzag.{zigzag-unzigzag}
use Rattle.laws.proofs.Parser.{given-whole, becoming-whole, parses_whole, reads_whole}
use Rattle.laws.proofs.Parts.{low_parses, length_low, elements_reads, payload_reads}
use Rattle.lengths.specs.Lengths.{point_of, reached, pointed, sized, onward, varint_length, varints, field_length}

-- ---- a value that becomes a field which keeps the depth

module _ {A : Type 0} (d : ℕ) (f : A → Field) (keeps : (a : A) → depth_after d (f a) ≡ d) (size : A → ℕ) (k n : ℕ) where
  one : (a : A) (rest : List ℕ) → k + field_length (f a) ≡ n + size a → whole (point_of (depth_after d (f a)) (k + field_length (f a))) rest ≡ whole (point_of d (n + size a)) rest
  one a rest h = λ i. whole (point_of (keeps a i) (h i)) rest

  reached-scalar : (o : Outcome A) (e : A → Event) → ((a : A) → k + field_length (f a) ≡ n + size a) → reached d k (scalar o e f).outcome ≡ pointed d (sized size n o)
  unfolding reached sized pointed given
  reached-scalar (whole a rest) e h = one a rest (h a)
  reached-scalar short e h = refl
  reached-scalar (broken rest) e h = refl

  becomes : (es : List Event) (o : Outcome A) → ((a : A) (rest : List ℕ) → o ≡ whole a rest → k + field_length (f a) ≡ n + size a) →
      reached d k (becoming f (record { events = es; outcome = o })).outcome ≡ pointed d (sized size n o)
  unfolding reached sized pointed follow
  becomes es (whole a rest) h = one a rest (h a rest refl)
  becomes es short h = refl
  becomes es (broken rest) h = refl

  reached-becoming : (r : Reading A) → ((a : A) (rest : List ℕ) → r.outcome ≡ whole a rest → k + field_length (f a) ≡ n + size a) →
      reached d k (becoming f r).outcome ≡ pointed d (sized size n r.outcome)
  reached-becoming r h = becomes r.events r.outcome h

-- a signed value has as many bytes as the unsigned one that is read there
pub unzigzagged-sized : (n : ℕ) (o : Outcome ℕ) → sized (λ z. length (shortest (zigzag z))) n (unzigzagged o) ≡ sized varint_length n o
unfolding sized unzigzagged
unzigzagged-sized n (whole u rest) = ap (λ (v : ℕ). whole (n + length (shortest v)) rest) (zigzag-unzigzag u)
unzigzagged-sized n short = refl
unzigzagged-sized n (broken rest) = refl

-- types 0 and 1
module _ (d id k n : ℕ) (bs : List ℕ) where
  pub unsigned_reached : n ≡ k + length (header id t_unsigned) → reached d k (body base d id t_unsigned bs).outcome ≡ pointed d (sized varint_length n (varint base bs))
  unfolding body field_bytes depth_after
  unsigned_reached e =
      reached-scalar d (unsigned id) (λ v. refl) varint_length k n (varint base bs) (Unsigned id)
      (λ v. omega (arith, length-append (header id t_unsigned) (shortest v)))

  pub signed-reached : n ≡ k + length (header id t_signed) → reached d k (body base d id t_signed bs).outcome ≡ pointed d (sized varint_length n (varint base bs))
  unfolding body field_bytes depth_after
  signed-reached e =
      reached-scalar d (signed id) (λ z. refl) (λ z. length (shortest (zigzag z))) k n (signed_varint base bs) (Signed id)
      (λ z. omega (arith, length-append (header id t_signed) (shortest (zigzag z))))
      ∙ ap (pointed d) (unzigzagged-sized n (varint base bs))

-- ---- elements

module _ {A : Type 0} (enc : A → List ℕ) (p : List ℕ → Outcome A) (e : A → Event)
    (alike : (n : ℕ) (bs : List ℕ) → sized (λ x. length (enc x)) n (p bs) ≡ sized varint_length n (varint base bs)) where
  one_more : (n : ℕ) (x : A) (es : List Event) (o : Outcome (List A)) →
      sized (λ xs. length (each enc xs)) n (becoming (λ xs. x ∷ xs) (record { events = es; outcome = o })).outcome ≡ sized (λ xs. length (each enc xs)) (n + length (enc x)) o
  unfolding sized follow each
  one_more n x es (whole xs rest) =
      let h : n + length (enc x ++ each enc xs) ≡ n + length (enc x) + length (each enc xs) = omega (arith, length-append (enc x) (each enc xs)) in
      ap (λ (m : ℕ). whole m rest) h
  one_more n x es short = refl
  one_more n x es (broken rest) = refl

  step : (n c : ℕ) (o : Outcome A) → ((m : ℕ) (rest : List ℕ) → sized (λ xs. length (each enc xs)) m (elements p e c rest).outcome ≡ varints base m c rest) →
      sized (λ xs. length (each enc xs)) n (given o (λ x rest. raise (e x ∷ []) (becoming (λ xs. x ∷ xs) (elements p e c rest)))).outcome
      ≡ onward (sized (λ x. length (enc x)) n o) (λ m rest. varints base m c rest)
  unfolding sized onward given
  step n c (whole x rest) ih = one_more n x (elements p e c rest).events (elements p e c rest).outcome ∙ ih (n + length (enc x)) rest
  step n c short ih = refl
  step n c (broken rest) ih = refl

  elements-sized : (c n : ℕ) (bs : List ℕ) → sized (λ xs. length (each enc xs)) n (elements p e c bs).outcome ≡ varints base n c bs
  unfolding elements sized varints each
  elements-sized zero n bs = let z : n + 0 ≡ n = omega arith in ap (λ (m : ℕ). whole m bs) z
  elements-sized (suc c) n bs =
      step n c (p bs) (λ m rest. elements-sized c m rest) ∙ ap (λ (o : Outcome ℕ). onward o (λ m rest. varints base m c rest)) (alike n bs)

-- how many they are
elements_count : {A : Type 0} (p : List ℕ → Outcome A) (e : A → Event) (c : ℕ) (bs : List ℕ) (xs : List A) (rest : List ℕ) → (elements p e c bs).outcome ≡ whole xs rest → length xs ≡ c
unfolding elements
elements_count {A} p e zero bs xs rest s = let x≡ : [] ≡ xs = cc in sym (ap length x≡)
elements_count {A} p e (suc c) bs xs rest s =
    given-whole xs rest (λ es. length xs ≡ suc c) (p bs) (λ x mid. raise (e x ∷ []) (becoming (λ xs. x ∷ xs) (elements p e c mid))) s
    (λ x mid q t.
    becoming-whole xs rest (λ es. length xs ≡ suc c) (elements p e c mid) (λ xs. x ∷ xs) t
    (λ ys u w. sym (ap length w) ∙ ap suc (elements_count p e c mid ys rest u)))

-- types 3 and 4: a count c, and so many elements
module _ {A : Type 0} (enc : A → List ℕ) (p : List ℕ → Outcome A) (e : A → Event)
    (alike : (n : ℕ) (bs : List ℕ) → sized (λ x. length (enc x)) n (p bs) ≡ sized varint_length n (varint base bs))
    (d : ℕ) (f : List A → Field) (keeps : (xs : List A) → depth_after d (f xs) ≡ d)
    (k n h : ℕ) (len : (xs : List A) → field_length (f xs) ≡ h + (length (shortest (length xs)) + length (each enc xs))) where
  pub array_reached : n ≡ k + h → (c : ℕ) (bs : List ℕ) → reached d k (becoming f (elements p e c bs)).outcome ≡ pointed d (varints base (n + varint_length c) c bs)
  array_reached g c bs =
      reached-becoming d f keeps (λ xs. length (each enc xs)) k (n + varint_length c) (elements p e c bs)
      (λ xs rest s. omega (arith, len xs, ap (λ (m : ℕ). length (shortest m)) (elements_count p e c bs xs rest s)))
      ∙ ap (pointed d) (elements-sized enc p e alike c (n + varint_length c) bs)

-- ---- a word, and the bytes that it says

-- a field that has h bytes before the m bytes that it says, which were there to be read
abbrev pub Said : ℕ → ℕ → List ℕ → List ℕ → Field → Type 0
Said h m bs rest x = (field_length x ≡ h + m) × (m + length rest ≤ length bs)

module _ (id : ℕ) (x : Field) (bs rest : List ℕ) (a : Bytes bs) where
  picked : {P : Type 0} (t : Bool) (r : Reading Field) → (pick t r (quiet (broken bs))).outcome ≡ whole x rest → (t ≡ true → r.outcome ≡ whole x rest → P) → P
  picked true r s k = k refl s
  picked false r s k = absurd cc

  pub word-length : (n : ℕ) (s : Subtype) → (fixlen base id n (known s) bs).outcome ≡ whole x rest → Said (length (header id t_fixlen) + length (word n s)) n bs rest x
  unfolding fixlen field_bytes
  word-length n (float w) s =
      picked (eqb n (bytes_of w)) _ s
      (λ q t.
      let n≡ : bytes_of w ≡ n = sym (eqb-true n (bytes_of w) q) in
      parses_whole x bs rest a (λ y es. Said (length (header id t_fixlen) + length (word n (float w))) n bs rest y) (float id w) (low_parses (bytes_of w)) (λ v. Float id w v ∷ []) t
      (λ v g.
      let l : length (low_bytes (bytes_of w) v) ≡ n = length_low (bytes_of w) v ∙ n≡ in
      let u : length (word (bytes_of w) (float w)) ≡ length (word n (float w)) = ap (λ (m : ℕ). length (word m (float w))) n≡ in
      (simp length-append (omega arith), omega (arith, g.shorter))))
  word-length n (raw r) s =
      picked (leb n base.size) _ s
      (λ q t.
      reads_whole x bs rest a (λ y es. Said (length (header id t_fixlen) + length (word n (raw r))) n bs rest y) (payload id r) (payload_reads id r n) t
      (λ xs g.
      let l : length xs ≡ n = g.legal.1 in
      let u : length (word (length xs) (raw r)) ≡ length (word n (raw r)) = ap (λ (m : ℕ). length (word m (raw r))) l in
      (simp length-append (omega arith), omega (arith, g.shorter))))

  each_low : (w : ℕ) (xs : List ℕ) → length (each (low_bytes w) xs) ≡ length xs * w
  unfolding each
  each_low w [] = omega arith
  each_low w (y ∷ ys) = length-append (low_bytes w y) (each (low_bytes w) ys) ∙ omega (arith, length_low w y, each_low w ys)

  pub floats_length : (c n : ℕ) (s : Subtype) → (float_array_of id c n (known s) bs).outcome ≡ whole x rest →
      Said (length (header id t_floats) + (varint_length c + length (word n s))) (c * n) bs rest x
  unfolding float_array_of field_bytes
  floats_length c n (float w) s =
      picked (eqb n (bytes_of w)) _ s
      (λ q t.
      let n≡ : bytes_of w ≡ n = sym (eqb-true n (bytes_of w) q) in
      reads_whole x bs rest a (λ y es. Said (length (header id t_floats) + (varint_length c + length (word n (float w)))) (c * n) bs rest y) (float_array id w) (elements_reads (low_parses (bytes_of w)) (Float id w) c) t
      (λ xs g.
      let i : length xs ≡ c = g.legal.1 in
      let l : length (each (low_bytes (bytes_of w)) xs) ≡ c * n = each_low (bytes_of w) xs ∙ ap (λ (m : ℕ). m * bytes_of w) i ∙ ap (λ (m : ℕ). c * m) n≡ in
      let u : length (word (bytes_of w) (float w)) ≡ length (word n (float w)) = ap (λ (m : ℕ). length (word m (float w))) n≡ in
      let v : length (shortest (length xs)) ≡ varint_length c = ap (λ (m : ℕ). length (shortest m)) i in
      (simp length-append (omega arith), omega (arith, g.shorter))))
  floats_length c n (raw r) s = absurd cc
