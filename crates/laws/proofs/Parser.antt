-- The two laws of a part's reader, each said once: what was written is read back; and what is read is legal, took no fewer bytes than its
-- shortest writing, and left bytes.
use Prim.Native.Nat.{ℕ, ◌+◌, ◌≤◌}
use mathlib.Core.Path.{◌≡◌, refl, ap, ◌∙◌, subst}
use mathlib.Core.List.{List, ◌++◌, append-nil}
use native.Mathlib.Omega.{arith}
use lib.ListN.{length}
use Rattle.layout.specs.Varint.{Outcome, whole, short, broken}
use Rattle.layout.specs.Event.{Event}
use Rattle.layout.specs.Reading.{Reading, given, follow, becoming, raise, quiet}
use Rattle.layout.specs.Message.{Bytes}

-- a was read from bs and left rest
pub record Got {A : Type 0} (ok : A → Type 0) (enc : A → List ℕ) (bs : List ℕ) (a : A) (rest : List ℕ) : Type 0 where
  pub legal : ok a
  pub shorter : length (enc a) + length rest ≤ length bs
  pub bytes : Bytes rest

-- a value that raises nothing
pub record Parses {A : Type 0} (p : List ℕ → Outcome A) (ok : A → Type 0) (enc : A → List ℕ) : Type 0 where
  pub forth : (a : A) (rest : List ℕ) → ok a → p (enc a ++ rest) ≡ whole a rest
  pub back : (bs : List ℕ) (a : A) (rest : List ℕ) → Bytes bs → p bs ≡ whole a rest → Got ok enc bs a rest

-- a was read from bs with these events, and left rest
pub record Had {A : Type 0} (ok : A → Type 0) (enc : A → List ℕ) (evs : A → List Event) (bs : List ℕ) (es : List Event) (a : A) (rest : List ℕ) : Type 0 where
  pub got : Got ok enc bs a rest
  pub raised : es ≡ evs a

-- one that raises events
pub record Reads {A : Type 0} (p : List ℕ → Reading A) (ok : A → Type 0) (enc : A → List ℕ) (evs : A → List Event) : Type 0 where
  pub forth : (a : A) (rest : List ℕ) → ok a → p (enc a ++ rest) ≡ record { events = evs a; outcome = whole a rest }
  pub back : (bs : List ℕ) (a : A) (rest : List ℕ) → Bytes bs → (p bs).outcome ≡ whole a rest → Had ok enc evs bs (p bs).events a rest

-- ---- where the whole of two readings in a row is whole, both are

module _ {A B : Type 0} (b : B) (rest : List ℕ) (P : List Event → Type 0) where
  pub given-whole : (o : Outcome A) (f : A → List ℕ → Reading B) → (given o f).outcome ≡ whole b rest →
      ((a : A) (mid : List ℕ) → o ≡ whole a mid → (f a mid).outcome ≡ whole b rest → P (f a mid).events) → P (given o f).events
  unfolding given
  given-whole (whole a mid) f e k = k a mid refl e
  given-whole short f e k = absurd (let z : ◌≡◌ {A = ℕ} 0 1 = cc in omega arith)
  given-whole (broken r) f e k = absurd (let z : ◌≡◌ {A = ℕ} 0 1 = cc in omega arith)

  pub follow-whole : (es : List Event) (o : Outcome A) (f : A → List ℕ → Reading B) → (follow es o f).outcome ≡ whole b rest →
      ((a : A) (mid : List ℕ) → o ≡ whole a mid → (f a mid).outcome ≡ whole b rest → P (es ++ (f a mid).events)) → P (follow es o f).events
  unfolding follow
  follow-whole es (whole a mid) f e k = k a mid refl e
  follow-whole es short f e k = absurd (let z : ◌≡◌ {A = ℕ} 0 1 = cc in omega arith)
  follow-whole es (broken r) f e k = absurd (let z : ◌≡◌ {A = ℕ} 0 1 = cc in omega arith)

  pub becoming-whole : (r : Reading A) (f : A → B) → (becoming f r).outcome ≡ whole b rest →
      ((a : A) → r.outcome ≡ whole a rest → f a ≡ b → P r.events) → P (becoming f r).events
  unfolding follow
  becoming-whole r f = go r.events r.outcome
    where
      go : (es : List Event) (o : Outcome A) → (becoming f (record { events = es; outcome = o })).outcome ≡ whole b rest →
          ((a : A) → o ≡ whole a rest → f a ≡ b → P es) → P (becoming f (record { events = es; outcome = o })).events
      go es (whole a mid) e k =
          let m : mid ≡ rest = cc in
          let q : f a ≡ b = cc in
          rw append-nil (k a (ap (whole a) m) q)
      go es short e k = absurd (let z : ◌≡◌ {A = ℕ} 0 1 = cc in omega arith)
      go es (broken r) e k = absurd (let z : ◌≡◌ {A = ℕ} 0 1 = cc in omega arith)

-- what a part's law says of the value that becomes another
module _ {A B : Type 0} {ok : A → Type 0} {enc : A → List ℕ} (b : B) (bs rest : List ℕ) (a : Bytes bs) (P : B → List Event → Type 0) (f : A → B) where
  pub parses_whole : {p : List ℕ → Outcome A} → Parses p ok enc → (e : A → List Event) → (given (p bs) (λ x mid. raise (e x) (quiet (whole (f x) mid)))).outcome ≡ whole b rest →
      ((x : A) → Got ok enc bs x rest → P (f x) (e x)) → P b (given (p bs) (λ x mid. raise (e x) (quiet (whole (f x) mid)))).events
  parses_whole {p} reads e s k =
      given-whole b rest (P b) (p bs) (λ x mid. raise (e x) (quiet (whole (f x) mid))) s
      (λ x mid q t.
      let m : mid ≡ rest = cc in
      let w : f x ≡ b = cc in
      rw append-nil (subst (λ y. P y (e x)) w (k x (reads.back bs x rest a (q ∙ ap (whole x) m)))))

  pub reads_whole : {r : List ℕ → Reading A} {evs : A → List Event} → Reads r ok enc evs → (becoming f (r bs)).outcome ≡ whole b rest →
      ((x : A) → Got ok enc bs x rest → P (f x) (evs x)) → P b (becoming f (r bs)).events
  reads_whole {r} {evs} reads s k =
      becoming-whole b rest (P b) (r bs) f s
      (λ x q w.
      let h = reads.back bs x rest a q in
      rw h.raised (subst (λ y. P y (evs x)) w (k x h.got)))
