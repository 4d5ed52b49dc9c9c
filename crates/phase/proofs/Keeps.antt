-- A byte keeps a sound state sound: what it raises, and the depth and phase after it, phase by phase.
use mathlib.Core.Path.{◌≡◌, refl, sym, subst}
use mathlib.Core.Bool.{Bool, true, false}
use Prim.Native.Nat.{ℕ, zero, suc, ◌+◌, ◌*◌, ◌/◌, ◌%◌, ◌^◌, ◌<◌, ◌≤◌}
use native.Mathlib.Omega.{arith}
use lib.Dec.{ltb, leb, eqb, lit<}
use borrow.Author.Tests.{leb-true, ltb-true}
use Rattle.layout.specs.Limits.{Limits, pick}
use Rattle.layout.specs.Varint as varints
use Rattle.layout.specs.Field.{Wire, Width, Raw, Subtyped, bytes_of, subtype_of, wire_of, fp32, fp64, known, unknown, float, raw}
use Rattle.layout.specs.Field.{t_unsigned, t_signed, t_fixlen, t_unsigneds, t_signeds, t_floats, t_begin, t_end}
use Rattle.layout.specs.Event.{Event}
use Rattle.machine.specs.Machine.{Phase, in_header, in_unsigned, in_signed, in_word, in_unsigned_count, in_signed_count, in_float_count, in_array_word, in_float, in_payload}
use Rattle.machine.specs.Machine.{Stepped, next_or, at_wire, at_header, at_payload, at_subtype, at_word, at_unsigned_count, at_signed_count, at_float_count, at_element, at_array_word, at_unsigned, at_signed, at_float, within, step}
use Rattle.machine.specs.Calls.{reading}
use Rattle.varint.specs.declared.Acc.{Acc}
use Rattle.varint.specs.declared.Push.{Push}
use Rattle.varint.specs.declared.Push.TheVariants.{More, Value, Overlong}
use Rattle.varint.specs.Varint.{Sound, pushed, unanswer}
use Rattle.varint.proofs.Laws.{layout_step, sound-start, sound_more}
use Rattle.event.specs.Event.{declared}
use Rattle.phase.specs.Sound.{SoundAt, AtBytes, Kept}
use Rattle.phase.proofs.Phases.{byte_below}

-- by a test
by_test : {A : Type 0} (P : A → Type 0) (t : Bool) {x y : A} → (t ≡ true → P x) → (t ≡ false → P y) → P (pick t x y)
by_test P true f g = f refl
by_test P false f g = g refl

module _ (L : Limits) where
  -- a varint's byte: more of it, or what its value comes to
  within_keeps : (a : Acc) (b d : ℕ) (P : ℕ → ℕ → Phase) (F : ℕ → Stepped) → Sound L a → ((x : Acc) → Sound L x → AtBytes L (reading d (P x.taken x.value))) → ((n : ℕ) → Kept L (F n)) → Kept L (within d (varints.push L a.taken a.value b) P F)
  unfolding within
  within_keeps a b d P F s f g = subst (λ (q : varints.Push). Kept L (within d q P F)) (sym (layout_step L a b s)) (go (pushed L a b) refl)
    where
      go : (q : Push) → pushed L a b ≡ q → Kept L (within d (unanswer q) P F)
      go (More x) e = f x (sound_more L a b x s e)
      go (Value n) e = g n
      go Overlong e = tt

  -- elements
  next_keeps : (n d : ℕ) (P : ℕ → Phase) → n ≤ suc L.count → d ≤ L.depth → ((m : ℕ) → m ≤ L.count → SoundAt L (P m)) → (d ≤ L.depth) × SoundAt L (next_or n P)
  next_keeps zero d P h l f = (l, sound-start L)
  next_keeps (suc zero) d P h l f = (l, sound-start L)
  next_keeps (suc (suc n)) d P h l f = (l, f (suc n) (omega arith))

  -- a header is whole
  pub wire_keeps : (d id : ℕ) (w : Wire) → d ≤ L.depth → id ≤ L.id → Kept L (at_wire L d id w)
  wire_keeps d id t_unsigned l h = (l, ((h, (omega arith, sound-start L)), refl))
  wire_keeps d id t_signed l h = (l, ((h, (omega arith, sound-start L)), refl))
  wire_keeps d id t_fixlen l h = (l, ((h, sound-start L), refl))
  wire_keeps d id t_unsigneds l h = (l, ((h, sound-start L), refl))
  wire_keeps d id t_signeds l h = (l, ((h, sound-start L), refl))
  wire_keeps d id t_floats l h = (l, ((h, sound-start L), refl))
  wire_keeps d id t_begin l h = by_test (Kept L) (ltb d L.depth) (λ q. (λ n. refl, (ltb-true _ _ q, sound-start L))) (λ q. tt)
  wire_keeps d id t_end l h = by_test (Kept L) (eqb d 0) (λ q. tt) (λ q. (λ n. refl, (omega arith, sound-start L)))

  header_keeps : (d h : ℕ) → d ≤ L.depth → Kept L (at_header L d h)
  unfolding at_header
  header_keeps d h l = by_test (Kept L) (leb (h / 8) L.id) (λ q. wire_keeps d (h / 8) (wire_of (h % 8)) l (leb-true _ _ q)) (λ q. tt)

  -- a word is whole
  payload_keeps : (d id : ℕ) (r : Raw) (n : ℕ) → d ≤ L.depth → id ≤ L.id → n ≤ L.size → Kept L (at_payload d id r n)
  payload_keeps d id r zero l h i = (λ n. refl, (l, h))
  payload_keeps d id r (suc n) l h i = (λ n. refl, (l, (h, (i, omega arith))))

  bytes_pos : (w : Width) → 0 < bytes_of w
  bytes_pos fp32 = lit< tt
  bytes_pos fp64 = lit< tt

  pub subtype_keeps : (d id n : ℕ) (s : Subtyped) → d ≤ L.depth → id ≤ L.id → Kept L (at_subtype L d id n s)
  subtype_keeps d id n (known (float w)) l h =
      by_test (Kept L) (eqb n (bytes_of w)) (λ q. (λ n. refl, (l, (h, (omega arith, (bytes_pos w, lit< tt)))))) (λ q. tt)
  subtype_keeps d id n (known (raw r)) l h = by_test (Kept L) (leb n L.size) (λ q. payload_keeps d id r n l h (leb-true _ _ q)) (λ q. tt)
  subtype_keeps d id n unknown l h = tt

  element_keeps : (d id count n : ℕ) (s : Subtyped) → d ≤ L.depth → id ≤ L.id → count ≤ L.count → Kept L (at_element d id count n s)
  element_keeps d id count n (known (float w)) l h i =
      by_test (Kept L) (eqb n (bytes_of w)) (λ q. (λ n. refl, next_keeps (suc count) d (λ left. in_float id w left 0 0) (omega arith) l (λ m j. (h, (j, (bytes_pos w, lit< tt)))))) (λ q. tt)
  element_keeps d id count n (known (raw r)) l h i = tt
  element_keeps d id count n unknown l h i = tt

  -- a count is whole
  unsigned_count_keeps : (d id n : ℕ) → d ≤ L.depth → id ≤ L.id → Kept L (at_unsigned_count L d id n)
  unfolding at_unsigned_count
  unsigned_count_keeps d id n l h =
      by_test (Kept L) (leb n L.count) (λ q. let i = leb-true n L.count q in (λ n. refl, next_keeps (suc n) d (λ left. in_unsigned id left 0 0) (omega arith) l (λ m j. (h, (j, sound-start L))))) (λ q. tt)

  signed_count_keeps : (d id n : ℕ) → d ≤ L.depth → id ≤ L.id → Kept L (at_signed_count L d id n)
  unfolding at_signed_count
  signed_count_keeps d id n l h =
      by_test (Kept L) (leb n L.count) (λ q. let i = leb-true n L.count q in (λ n. refl, next_keeps (suc n) d (λ left. in_signed id left 0 0) (omega arith) l (λ m j. (h, (j, sound-start L))))) (λ q. tt)

  float_count_keeps : (d id n : ℕ) → d ≤ L.depth → id ≤ L.id → Kept L (at_float_count L d id n)
  unfolding at_float_count
  float_count_keeps d id n l h = by_test (Kept L) (leb n L.count) (λ q. (l, ((h, (leb-true _ _ q, sound-start L)), refl))) (λ q. tt)

  -- a number is whole
  unsigned_keeps : (d id left n : ℕ) → d ≤ L.depth → id ≤ L.id → left ≤ L.count → Kept L (at_unsigned d id left n)
  unfolding at_unsigned
  unsigned_keeps d id left n l h i = (λ n. refl, next_keeps left d (λ m. in_unsigned id m 0 0) (omega arith) l (λ m j. (h, (j, sound-start L))))

  signed_keeps : (d id left n : ℕ) → d ≤ L.depth → id ≤ L.id → left ≤ L.count → Kept L (at_signed d id left n)
  unfolding at_signed
  signed_keeps d id left n l h i = (λ n. refl, next_keeps left d (λ m. in_signed id m 0 0) (omega arith) l (λ m j. (h, (j, sound-start L))))

  float_plain : (id : ℕ) (w : Width) (x n : ℕ) → declared n (Event.Float id w x) ≡ declared 0 (Event.Float id w x)
  float_plain id fp32 x n = refl
  float_plain id fp64 x n = refl

  float_keeps : (d id : ℕ) (w : Width) (left k x : ℕ) → d ≤ L.depth → id ≤ L.id → left ≤ L.count → x < 256 ^ (k + 1) → Kept L (at_float d id w left k x)
  unfolding at_float
  float_keeps d id w left k x l h i s =
      by_test (Kept L) (ltb (k + 1) (bytes_of w)) (λ q. (l, ((h, (i, (ltb-true _ _ q, s))), refl)))
      (λ q. (float_plain id w x, next_keeps left d (λ m. in_float id w m 0 0) (omega arith) l (λ m j. (h, (j, (bytes_pos w, lit< tt))))))

  -- ---- a byte

  acc : ℕ → ℕ → Acc
  acc k v = record { value = v; taken = k }

  pub step_keeps : (d : ℕ) (p : Phase) (b : ℕ) → AtBytes L (reading d p) → b < 256 → Kept L (step L d p b)
  unfolding step at_word at_array_word acc
  step_keeps d (in_header k v) b (l, (s, e)) h = within_keeps (acc k v) b d in_header (at_header L d) s (λ x t. (l, (t, refl))) (λ n. header_keeps d n l)
  step_keeps d (in_unsigned id left k v) b (l, ((i, (j, s)), e)) h = within_keeps (acc k v) b d (in_unsigned id left) (at_unsigned d id left) s (λ x t. (l, ((i, (j, t)), refl))) (λ n. unsigned_keeps d id left n l i j)
  step_keeps d (in_signed id left k v) b (l, ((i, (j, s)), e)) h = within_keeps (acc k v) b d (in_signed id left) (at_signed d id left) s (λ x t. (l, ((i, (j, t)), refl))) (λ n. signed_keeps d id left n l i j)
  step_keeps d (in_word id k v) b (l, ((i, s), e)) h = within_keeps (acc k v) b d (in_word id) (at_word L d id) s (λ x t. (l, ((i, t), refl))) (λ n. subtype_keeps d id (n / 8) (subtype_of (n % 8)) l i)
  step_keeps d (in_unsigned_count id k v) b (l, ((i, s), e)) h = within_keeps (acc k v) b d (in_unsigned_count id) (at_unsigned_count L d id) s (λ x t. (l, ((i, t), refl))) (λ n. unsigned_count_keeps d id n l i)
  step_keeps d (in_signed_count id k v) b (l, ((i, s), e)) h = within_keeps (acc k v) b d (in_signed_count id) (at_signed_count L d id) s (λ x t. (l, ((i, t), refl))) (λ n. signed_count_keeps d id n l i)
  step_keeps d (in_float_count id k v) b (l, ((i, s), e)) h = within_keeps (acc k v) b d (in_float_count id) (at_float_count L d id) s (λ x t. (l, ((i, t), refl))) (λ n. float_count_keeps d id n l i)
  step_keeps d (in_array_word id c k v) b (l, ((i, (j, s)), e)) h = within_keeps (acc k v) b d (in_array_word id c) (at_array_word d id c) s (λ x t. (l, ((i, (j, t)), refl))) (λ n. element_keeps d id c (n / 8) (subtype_of (n % 8)) l i j)
  step_keeps d (in_float id w left k v) b (l, ((i, (j, (m, s))), e)) h = float_keeps d id w left k (v + b * 256 ^ k) l i j (byte_below v b k h s)
  step_keeps d (in_payload id r total o) b (l, (s, e)) h = let z : ◌≡◌ {A = ℕ} 0 1 = cc in absurd (omega arith)
