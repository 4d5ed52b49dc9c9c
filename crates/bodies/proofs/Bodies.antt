-- What follows a header, by where it ends: a part whose value becomes a field ends where the part does; n bytes are one jump, and so are
-- n floats.
use Prim.Native.Nat.{ℕ, zero, suc, ◌+◌, ◌*◌, ◌^◌, ◌≤◌, ◌<◌}
use mathlib.Core.Path.{◌≡◌, refl, sym, ap, ◌∙◌}
use mathlib.Core.Bool.{Bool, true, false}
use mathlib.Core.List.{List, [], ◌∷◌}
use native.Mathlib.Omega.{arith}
use lib.Dec.{leb}
use lib.ListN.{length, drop, length-drop}
use lib.Seq.{drop-drop}
use borrow.Author.Tests.{leb-true, leb-false, le-leb, lt-leb}
use Rattle.layout.specs.Limits.{base}
use Rattle.layout.specs.Varint.{Outcome, whole, short, broken, varint}
use Rattle.layout.specs.Event.{Event}
use Rattle.layout.specs.Reading.{Reading, raise, given, follow, becoming, low_from}
use Rattle.layout.specs.Field.{Raw, Field}
use Rattle.layout.specs.Message.{scalar, elements, payload_from, payload_of, depth_after}
use Rattle.passing.specs.Passing.{ends, followed, skips, hop}
use Rattle.bodies.specs.Bodies.{deep}

-- ---- values that become fields which keep the depth

module _ {A : Type 0} (d : ℕ) (f : A → Field) (keeps : (a : A) → depth_after d (f a) ≡ d) where
  pub deep-scalar : (o : Outcome A) (e : A → Event) → deep d (scalar o e f).outcome ≡ ends d o
  unfolding deep ends given
  deep-scalar (whole a rest) e = ap (λ (n : ℕ). whole n rest) (keeps a)
  deep-scalar short e = refl
  deep-scalar (broken rest) e = refl

  becomes : (es : List Event) (o : Outcome A) → deep d (becoming f (record { events = es; outcome = o })).outcome ≡ ends d o
  unfolding deep ends follow
  becomes es (whole a rest) = ap (λ (n : ℕ). whole n rest) (keeps a)
  becomes es short = refl
  becomes es (broken rest) = refl

  pub deep-becoming : (r : Reading A) → deep d (becoming f r).outcome ≡ ends d r.outcome
  deep-becoming r = becomes r.events r.outcome

-- ---- one part after another

ended : {A B : Type 0} (d : ℕ) (f : A → B) (es : List Event) (o : Outcome A) → ends d (becoming f (record { events = es; outcome = o })).outcome ≡ ends d o
unfolding ends follow
ended d f es (whole a rest) = refl
ended d f es short = refl
ended d f es (broken rest) = refl

ends-given : {A B : Type 0} (d : ℕ) (o : Outcome A) (e : A → List Event) (f : A → B → B) (r : List ℕ → Reading B) →
    ends d (given o (λ x rest. raise (e x) (becoming (f x) (r rest)))).outcome ≡ followed (ends d o) (λ rest. ends d (r rest).outcome)
unfolding given followed ends
ends-given d (whole a rest) e f r = ended d (f a) (r rest).events (r rest).outcome
ends-given d short e f r = refl
ends-given d (broken rest) e f r = refl

followed_same : (o : Outcome ℕ) (f g : List ℕ → Outcome ℕ) → ((bs : List ℕ) → f bs ≡ g bs) → followed o f ≡ followed o g
unfolding followed
followed_same (whole d rest) f g h = h rest
followed_same short f g h = refl
followed_same (broken rest) f g h = refl

-- n elements that end where varints do
pub ends-elements : {A : Type 0} (d : ℕ) (p : List ℕ → Outcome A) (e : A → Event) (n : ℕ) (bs : List ℕ) → ((bs : List ℕ) → ends d (p bs) ≡ ends d (varint base bs)) →
    ends d (elements p e n bs).outcome ≡ skips base d n bs
unfolding elements skips ends
ends-elements d p e zero bs h = refl
ends-elements d p e (suc n) bs h =
    ends-given d (p bs) (λ x. e x ∷ []) (λ x xs. x ∷ xs) (elements p e n)
    ∙ ap (λ (o : Outcome ℕ). followed o (λ rest. ends d (elements p e n rest).outcome)) (h bs)
    ∙ followed_same (ends d (varint base bs)) _ _ (λ rest. ends-elements d p e n rest h)

-- ---- n bytes

pub hops : (d n : ℕ) (bs : List ℕ) → n ≤ length bs → hop d n bs ≡ whole d (drop n bs)
hops d n bs h = simp (le-leb _ _ h)

pub hop_short : (d n : ℕ) (bs : List ℕ) → length bs < n → hop d n bs ≡ short
hop_short d n bs h = simp (lt-leb _ _ h)

hop_cons : (d n b : ℕ) (bs : List ℕ) → hop d n bs ≡ hop d (suc n) (b ∷ bs)
hop_cons d n b bs = go (leb n (length bs)) refl
  where
    go : (x : Bool) → leb n (length bs) ≡ x → hop d n bs ≡ hop d (suc n) (b ∷ bs)
    go true e = let h : n ≤ length bs = leb-true _ _ e in hops d n bs h ∙ sym (hops d (suc n) (b ∷ bs) (omega arith))
    go false e = let h : length bs < n = leb-false _ _ e in hop_short d n bs h ∙ sym (hop_short d (suc n) (b ∷ bs) (omega arith))

-- a bytes and b bytes
hop_hop : (d a b : ℕ) (bs : List ℕ) → followed (hop d a bs) (λ rest. hop d b rest) ≡ hop d (a + b) bs
unfolding followed
hop_hop d a b bs = go (leb a (length bs)) refl (leb (a + b) (length bs)) refl
  where
    go : (x : Bool) → leb a (length bs) ≡ x → (y : Bool) → leb (a + b) (length bs) ≡ y → followed (hop d a bs) (λ rest. hop d b rest) ≡ hop d (a + b) bs
    go true p true q =
        let h : a ≤ length bs = leb-true _ _ p in
        let k : a + b ≤ length bs = leb-true _ _ q in
        ap (λ (o : Outcome ℕ). followed o (λ rest. hop d b rest)) (hops d a bs h)
        ∙ hops d b (drop a bs) (omega (arith, length-drop a bs))
        ∙ ap (λ (l : List ℕ). whole d l) (drop-drop b a bs)
        ∙ sym (hops d (a + b) bs k)
    go true p false q =
        let h : a ≤ length bs = leb-true _ _ p in
        let k : length bs < a + b = leb-false _ _ q in
        ap (λ (o : Outcome ℕ). followed o (λ rest. hop d b rest)) (hops d a bs h)
        ∙ hop_short d b (drop a bs) (omega (arith, length-drop a bs))
        ∙ sym (hop_short d (a + b) bs k)
    go false p y q =
        let h : length bs < a = leb-false _ _ p in
        ap (λ (o : Outcome ℕ). followed o (λ rest. hop d b rest)) (hop_short d a bs h)
        ∙ sym (hop_short d (a + b) bs (omega arith))

-- a float's bytes, a payload's, and those of n floats
pub ends_low : (d n k v : ℕ) (bs : List ℕ) → ends d (low_from n k v bs) ≡ hop d n bs
unfolding ends low_from
ends_low d zero k v bs = sym (hops d 0 bs (omega arith))
ends_low d (suc n) k v [] = sym (hop_short d (suc n) [] (omega arith))
ends_low d (suc n) k v (b ∷ bs) = ends_low d n (k + 1) (v + b * 256 ^ k) bs ∙ hop_cons d n b bs

ends_from : (d id : ℕ) (r : Raw) (total o n : ℕ) (bs : List ℕ) → ends d (payload_from id r total o n bs).outcome ≡ hop d n bs
unfolding ends payload_from
ends_from d id r total o zero bs = sym (hops d 0 bs (omega arith))
ends_from d id r total o (suc n) [] = sym (hop_short d (suc n) [] (omega arith))
ends_from d id r total o (suc n) (b ∷ bs) =
    ended d (λ xs. b ∷ xs) (payload_from id r total (suc o) n bs).events (payload_from id r total (suc o) n bs).outcome
    ∙ ends_from d id r total (suc o) n bs ∙ hop_cons d n b bs

pub ends_payload : (d id : ℕ) (r : Raw) (n : ℕ) (bs : List ℕ) → ends d (payload_of id r n bs).outcome ≡ hop d n bs
unfolding ends payload_of
ends_payload d id r zero bs = sym (hops d 0 bs (omega arith))
ends_payload d id r (suc n) bs = ends_from d id r (suc n) 0 (suc n) bs

pub ends_floats : (d w : ℕ) (e : ℕ → Event) (n : ℕ) (bs : List ℕ) → ends d (elements (low_from w 0 0) e n bs).outcome ≡ hop d (n * w) bs
unfolding elements ends
ends_floats d w e zero bs = let z : 0 ≡ 0 * w = omega arith in sym (hops d 0 bs (omega arith)) ∙ ap (λ (m : ℕ). hop d m bs) z
ends_floats d w e (suc n) bs =
    let s : w + n * w ≡ suc n * w = omega arith in
    ends-given d (low_from w 0 0 bs) (λ x. e x ∷ []) (λ x xs. x ∷ xs) (elements (low_from w 0 0) e n)
    ∙ ap (λ (o : Outcome ℕ). followed o (λ rest. ends d (elements (low_from w 0 0) e n rest).outcome)) (ends_low d w 0 0 bs)
    ∙ followed_same (hop d w bs) _ _ (λ rest. ends_floats d w e n rest)
    ∙ hop_hop d w (n * w) bs
    ∙ ap (λ (m : ℕ). hop d m bs) s
