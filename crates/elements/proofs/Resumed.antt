-- An array's output that goes on from a place: how many of its elements are out, and a loop that writes the others until the buffer is
-- full.
use mathlib.Core.Path.{◌≡◌, refl, sym, ap, ◌∙◌, subst}
use mathlib.Core.List.{List, [], ◌∷◌, ◌++◌}
use mathlib.Core.Bool.{Bool, true, false}
use mathlib.Core.Logic.{◌⊎◌, inl, inr}
use Prim.Native.Nat.{ℕ, ◌+◌, ◌-◌, ◌*◌, ◌/◌, ◌^◌, ◌≤◌, ◌<◌, min}
use native.Mathlib.Nat.{div-add-mod', mod-lt, mul_comm, mul-le-mul_left, mul-le-mul_right}
use native.Mathlib.Omega.{arith}
use lib.Dec.{leb, ltb}
use lib.ListN.{length, take, drop, get_or, length-append, length-drop, take-append-drop}
use lib.Seq.{take_all, length-take-le, drop-append-le, drop-append-add, drop-drop}
use borrow.Author.Tests.{leb-true, leb-false, ltb-true, ltb-false}
use Rattle.layout.specs.Limits.{base, longest, pick}
use Rattle.layout.specs.Varint.{shortest}
use Rattle.layout.specs.Field.{each}
use Rattle.varint.proofs.Shortest.{drop-shortest, length-longest, length_some}
use Rattle.varint.proofs.Digits.{pow128}
use Rattle.emit.specs.declared.Cursor.{Cursor}
use Rattle.putting.specs.Put.{Puts}
use Rattle.putting.proofs.Writes.{reached_is}
use Rattle.putting.proofs.Turns.{Left, start, none_left, no_room, followed, followed_by, same_size}
use Rattle.emit.proofs.Segments.{some_left}
use Rattle.emit.specs.Cursor.{Emitted}
use Rattle.emit.proofs.Elements.{each_at, each_end, each_append, length-each}
use Rattle.elements.specs.OutAfter.{OutAfter, elements_most}

-- so many whole elements of w bytes are out after the first `skip`, of n
pub evenly : (n skip w r : ℕ) → 0 < w → r ≡ min (skip / w) n → (r * w ≤ skip) × (r < n → skip - r * w < w)
evenly n skip w r h e =
    let a = div-add-mod' skip w in
    let b = mod-lt skip h in
    let m : r * w ≤ skip / w * w = mul-le-mul_right w (omega arith) in
    (omega arith, λ k. let q : r * w ≡ skip / w * w = let p : r ≡ skip / w = omega arith in ap (λ (j : ℕ). j * w) p in omega arith)

-- the rest of a varint is that of the number shifted down
pub drop_shifted : (k v : ℕ) → k < length (shortest v) → drop k (shortest v) ≡ shortest (v / 2 ^ (k * 7))
drop_shifted k v h = drop-shortest k v h ∙ ap (λ (p : ℕ). shortest (v / p)) (pow128 k)

-- a list with a place has an element
some_of : {A : Type 0} (l : List A) (i : ℕ) → i < length l → A
some_of [] i h = absurd (omega arith)
some_of (x ∷ l) i h = x

module _ {A : Type 0} (f : A → List ℕ) (l : List A) where
  -- ---- how many bytes the first i elements take

  halves : (i : ℕ) → each f l ≡ each f (take i l) ++ each f (drop i l)
  halves i = ap (each f) (sym (take-append-drop i l)) ∙ each_append f (take i l) (drop i l)

  half_lengths : (i : ℕ) → length (each f l) ≡ length (each f (take i l)) + length (each f (drop i l))
  half_lengths i = ap length (halves i) ∙ length-append (each f (take i l)) _

  from_here : (i : ℕ) (x : A) → i < length l → length (each f (drop i l)) ≡ length (f (get_or l i x)) + length (each f (drop (i + 1) l))
  from_here i x h = ap length (each_at f l i x h) ∙ length-append (f (get_or l i x)) _

  one_more : (i : ℕ) (x : A) → i < length l → length (each f (take (i + 1) l)) ≡ length (each f (take i l)) + length (f (get_or l i x))
  one_more i x h =
      let a = half_lengths i in
      let b = half_lengths (i + 1) in
      let e = from_here i x h in
      omega arith

  -- ---- the loop that counts: i elements are out, and `left` bytes of those that follow

  pub record Counting (skip left i : ℕ) : Type 0 where
    pub within : i ≤ length l
    pub sum : length (each f (take i l)) + left ≡ skip
    pub few : skip ≤ elements_most i + left

  pub out-start : (skip : ℕ) → Counting skip skip 0
  unfolding each
  out-start skip = record { within = omega arith; sum = omega arith; few = omega arith }

  module _ (skip left i : ℕ) (w : Counting skip left i) where
    pub out-next : (x : A) (n : ℕ) → i < length l → n ≡ length (f (get_or l i x)) → n ≤ longest base → n ≤ left → Counting skip (left - n) (i + 1)
    out-next x n h e m g = let o = one_more i x h in let s = w.sum in let t = w.few in record { within = omega arith; sum = omega arith; few = omega arith }

    pub out_stop : (x : A) (n : ℕ) → i < length l → n ≡ length (f (get_or l i x)) → n ≤ longest base → left < n → OutAfter f l skip i left
    out_stop x n h e m g =
        let t = w.few in
        record { within = w.within; sum = w.sum; short = λ y k. let a = from_here i x h in let b = from_here i y h in omega arith; few = λ k. omega arith }

  -- elements of n bytes each need no counting
  pub out_evenly : (n : ℕ) → n ≤ longest base → ((x : A) → length (f x) ≡ n) → (skip whole part : ℕ) → whole ≤ length l → whole * n + part ≡ skip → (whole < length l → part < n) → OutAfter f l skip whole part
  out_evenly n t k skip whole part h s g =
      record {
        within = h;
        sum = ap (λ (m : ℕ). m + part) (length-each f n k (take whole l) ∙ ap (λ (m : ℕ). m * n) (length-take-le whole l h)) ∙ s;
        short = λ x i. let e = g i in let m = k (get_or l whole x) in omega arith;
        few = λ i. let e = g i in let m = mul-le-mul_left whole t in omega arith;
      }

  -- how many bytes the elements take, where they are no more than so many; else more
  pub counted_up : (most whole part r : ℕ) → OutAfter f l most whole part → r ≡ pick (ltb whole (length l)) (most + 1) (most - part)
      → (r ≡ length (each f l)) ⊎ ((most < r) × (most < length (each f l)) × (most < elements_most (length l)))
  counted_up most whole part r w e = go (ltb whole (length l)) refl e
    where
      s : length (each f (take whole l)) + part ≡ most
      s = w.sum

      go : (t : Bool) → ltb whole (length l) ≡ t → r ≡ pick t (most + 1) (most - part) → (r ≡ length (each f l)) ⊎ ((most < r) × (most < length (each f l)) × (most < elements_most (length l)))
      go true u e =
          let h : whole < length l = ltb-true _ _ u in
          let x : A = some_of l whole h in
          let q = w.short x h in
          let a = half_lengths whole in
          let b = from_here whole x h in
          let t = w.few h in
          inr (omega arith, omega arith, omega arith)
      go false t e =
          let a : length (each f (take whole l)) ≡ length (each f l) = ap (λ (k : List A). length (each f k)) (take_all whole l (ltb-false _ _ t)) in
          inl (omega arith)

-- ---- one element more, less the bytes of it that are out

module _ {A : Type 0} (f : A → List ℕ) (l : List A) (b : List ℕ) (pos : ℕ) (o d : List ℕ) (at i : ℕ) where
  left_next : (part : ℕ) (x : A) (s d' : List ℕ) (end : ℕ) → Left b pos o d at (drop part (each f (drop i l))) → i < length l → part ≤ length (f (get_or l i x)) → s ≡ drop part (f (get_or l i x))
      → Puts d at s d' end → Left b pos o d' end (each f (drop (i + 1) l))
  left_next part x s d' end w k j q g =
      let e : drop part (each f (drop i l)) ≡ s ++ each f (drop (i + 1) l) = ap (drop part) (each_at f l i x k) ∙ drop-append-le part (f (get_or l i x)) (each f (drop (i + 1) l)) j ∙ ap (λ (u : List ℕ). u ++ each f (drop (i + 1) l)) (sym q) in
      followed_by b pos o d at s (each f (drop (i + 1) l)) d' end (subst (λ (u : List ℕ). Left b pos o d at u) e w) g

-- ---- the loop that writes: the elements of l from the i-th on are left to write

abbrev pub Going : {A : Type 0} → (A → List ℕ) → List A → List ℕ → ℕ → List ℕ → ℕ → ℕ → Type 0
Going f l b pos d at i = Left b pos (each f l) d at (each f (drop i l))

module _ {A : Type 0} (f : A → List ℕ) (l : List A) (b : List ℕ) (pos : ℕ) (d : List ℕ) (at i : ℕ) (w : Going f l b pos d at i) where
  pub going_next : (x : A) (s d' : List ℕ) (end : ℕ) → i < length l → s ≡ f (get_or l i x) → Puts d at s d' end → Going f l b pos d' end (i + 1)
  going_next x s d' end h q g = left_next f l b pos (each f l) d at i 0 x s d' end w h (omega arith) q g

  pub going_end : length l ≤ i → Puts b pos (each f l) d at
  going_end h = none_left b pos (each f l) d at (each f (drop i l)) w (ap length (each_end f l i h))

  pub going_full : length d ≤ at → Puts b pos (each f l) d at
  going_full h = no_room b pos (each f l) d at (each f (drop i l)) w h

-- ---- that loop from a place on, where the first `part` bytes of the i-th are out

pub record Resumed {A : Type 0} (f : A → List ℕ) (l : List A) (c : Cursor) (b d : List ℕ) (at i part : ℕ) : Type 0 where
  pub left : Left b c.pos (drop c.skip (each f l)) d at (drop part (each f (drop i l)))
  pub short : (x : A) → i < length l → part < length (f (get_or l i x))
  pub rest : part - length (each f (drop i l)) ≡ c.skip - length (each f l)

module _ {A : Type 0} (f : A → List ℕ) (l : List A) (c : Cursor) (b : List ℕ) where
  pub resumed_start : (whole part : ℕ) → OutAfter f l c.skip whole part → Resumed f l c b b c.pos whole part
  resumed_start whole part w =
      let s : length (each f (take whole l)) + part ≡ c.skip = w.sum in
      let a = half_lengths f l whole in
      let e : drop c.skip (each f l) ≡ drop part (each f (drop whole l)) = ap (λ (k : ℕ). drop k (each f l)) (sym s) ∙ ap (drop (length (each f (take whole l)) + part)) (halves f l whole) ∙ drop-append-add (each f (take whole l)) (each f (drop whole l)) part in
      record {
        left = subst (λ (t : List ℕ). Left b c.pos (drop c.skip (each f l)) b c.pos t) e (start b c.pos (drop c.skip (each f l)));
        short = w.short;
        rest = omega arith;
      }

  module _ (d : List ℕ) (at i part : ℕ) (w : Resumed f l c b d at i part) where
    pub resumed_next : ((x : A) → 1 ≤ length (f x)) → (x : A) (s d' : List ℕ) (end : ℕ) → i < length l → s ≡ drop part (f (get_or l i x)) → Puts d at s d' end → Resumed f l c b d' end (i + 1) 0
    resumed_next some x s d' end h q g =
        let k = w.short x h in
        let m = left_next f l b c.pos _ d at i part x s d' end w.left h (omega arith) q g in
        let n = from_here f l i x h in
        let o : part - length (each f (drop i l)) ≡ c.skip - length (each f l) = w.rest in
        record { left = m; short = λ u j. some (get_or l (i + 1) u); rest = omega arith }

    whole : Puts b c.pos (drop c.skip (each f l)) d at → (n : ℕ) → n ≡ c.skip - length (each f l) → Emitted c b (each f l) (record { pos = at; skip = n }) d
    whole (p, q) n e = some_left c b (each f l) _ at n d e refl p q

    pub resumed_end : length l ≤ i → Emitted c b (each f l) (record { pos = at; skip = part }) d
    resumed_end h =
        let z : length (each f (drop i l)) ≡ 0 = ap length (each_end f l i h) in
        let o : part - length (each f (drop i l)) ≡ c.skip - length (each f l) = w.rest in
        whole (none_left b c.pos _ d at _ w.left (omega (arith, length-drop part (each f (drop i l))))) part (omega arith)

    pub resumed_full : i < length l → length d ≤ at → Emitted c b (each f l) (record { pos = at; skip = 0 }) d
    resumed_full h g =
        let x : A = some_of l i h in
        let k = w.short x h in
        let n = from_here f l i x h in
        let o : part - length (each f (drop i l)) ≡ c.skip - length (each f l) = w.rest in
        whole (no_room b c.pos _ d at _ w.left g) 0 (omega arith)

  module _ (d : List ℕ) (at i : ℕ) (w : Resumed f l c b d at i 0) where
    -- n elements more go at once
    pub resumed_run : ((x : A) → 1 ≤ length (f x)) → (n : ℕ) (d' : List ℕ) (end : ℕ) → Puts d at (each f (take n (drop i l))) d' end → Resumed f l c b d' end (i + n) 0
    resumed_run some n d' end g =
        let s : List ℕ = each f (take n (drop i l)) in
        let e : each f (drop i l) ≡ s ++ each f (drop (i + n) l) = halves f (drop i l) n ∙ ap (λ (u : List A). s ++ each f u) (drop-drop n i l) in
        let m = followed_by b c.pos _ d at s (each f (drop (i + n) l)) d' end (subst (λ (u : List ℕ). Left b c.pos (drop c.skip (each f l)) d at u) e w.left) g in
        let o : 0 - length (each f (drop i l)) ≡ c.skip - length (each f l) = w.rest in
        record { left = m; short = λ u j. some (get_or l (i + n) u); rest = omega arith }

    -- as many of k bytes each as there is room for: they fit, and where others follow there is no room for one of those
    module _ (inside : at ≤ length d) (k : ℕ) (j : 0 < k) (e : (x : A) → length (f x) ≡ k) (n : ℕ) (q : n ≡ min ((length d - at) / k) (length l - i)) where
      many : length (take n (drop i l)) ≡ n
      many = length-take-le n (drop i l) (let a = length-drop i l in omega arith)

      pub run_fits : at + k * length (take n (drop i l)) ≤ length d
      run_fits =
          let a = div-add-mod' (length d - at) k in
          let m : n * k ≤ (length d - at) / k * k = mul-le-mul_right k (omega arith) in
          let t : k * length (take n (drop i l)) ≡ n * k = ap (λ (y : ℕ). k * y) many ∙ mul_comm k n in
          omega arith

      pub run_ends : i + n < length l → (d' : List ℕ) (end : ℕ) → Puts d at (each f (take n (drop i l))) d' end → length d' ≤ end + k
      run_ends h d' end g =
          let a = div-add-mod' (length d - at) k in
          let b = mod-lt (length d - at) j in
          let p : n ≡ (length d - at) / k = omega arith in
          let t : n * k ≡ (length d - at) / k * k = ap (λ (y : ℕ). y * k) p in
          let c = length-each f k e (take n (drop i l)) ∙ ap (λ (y : ℕ). y * k) many in
          let r : end ≡ at + min (length (each f (take n (drop i l)))) (length d - at) = g.0 ∙ reached_is d at _ in
          let z = same_size d at _ d' end g in
          omega arith

    -- the buffer ends here
    pub resumed_stop : length d ≤ at → Emitted c b (each f l) (record { pos = at; skip = 0 }) d
    resumed_stop h = go (leb (length l) i) refl
      where
        go : (t : Bool) → leb (length l) i ≡ t → Emitted c b (each f l) (record { pos = at; skip = 0 }) d
        go true e = resumed_end d at i 0 w (leb-true _ _ e)
        go false e = resumed_full d at i 0 w (leb-false _ _ e) h

  -- one more, in which the buffer ends
  pub resumed_last : (d : List ℕ) (at i : ℕ) → Resumed f l c b d at i 0 → ((x : A) → 1 ≤ length (f x)) → (k : ℕ) → ((x : A) → length (f x) ≡ k) → (x : A) (s d' : List ℕ) (end : ℕ) → i < length l
      → s ≡ f (get_or l i x) → length d ≤ at + k → Puts d at s d' end → Emitted c b (each f l) (record { pos = end; skip = 0 }) d'
  resumed_last d at i w some k j x s d' end h q m g =
      let r : end ≡ at + min (length s) (length d - at) = g.0 ∙ reached_is d at s in
      let z = same_size d at s d' end g in
      let u : length s ≡ k = ap length q ∙ j (get_or l i x) in
      resumed_stop d' end (i + 1) (resumed_next d at i 0 w some x s d' end h q g) (omega arith)

  -- what is left goes by another loop
  pub resumed_went : (d : List ℕ) (at i : ℕ) → Resumed f l c b d at i 0 → (d' : List ℕ) (end : ℕ) → Puts d at (each f (drop i l)) d' end → Emitted c b (each f l) (record { pos = end; skip = 0 }) d'
  resumed_went d at i w d' end g =
      let (p, q) = followed b c.pos _ d at (each f (drop i l)) d' end w.left g in
      let o : 0 - length (each f (drop i l)) ≡ c.skip - length (each f l) = w.rest in
      some_left c b (each f l) _ end 0 d' (omega arith) refl p q

-- ---- varints: of the first that is not all out, whose number is n, the number shifted down

module _ {A : Type 0} (number : A → ℕ) (l : List A) (c : Cursor) (b : List ℕ) (whole part : ℕ) (w : OutAfter (λ x. shortest (number x)) l c.skip whole part) (i : whole < length l) (x : A) (n : ℕ) (e : n ≡ number (get_or l whole x)) where
  pub head_short : part < length (shortest n)
  head_short = let k = w.short x i in let m = ap (λ (v : ℕ). length (shortest v)) e in omega arith

  pub head_bits : n < 2 ^ 64 → part * 7 < 64
  head_bits h = let k = head_short in let m = length-longest base n h in omega arith

  pub head_out : (d : List ℕ) (end : ℕ) → Puts b c.pos (shortest (n / 2 ^ (part * 7))) d end → Resumed (λ x. shortest (number x)) l c b d end (whole + 1) 0
  head_out d end g =
      let s : shortest (n / 2 ^ (part * 7)) ≡ drop part (shortest (number (get_or l whole x))) = sym (drop_shifted part n head_short) ∙ ap (λ (v : ℕ). drop part (shortest v)) e in
      resumed_next (λ x. shortest (number x)) l c b b c.pos whole part (resumed_start (λ x. shortest (number x)) l c b whole part w) (λ y. length_some (number y)) x _ d end i s g
