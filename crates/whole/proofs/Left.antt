-- What an answer on a field leaves is a rest of the bytes that came in, a byte shorter at least after a header, as in `passing/proofs/Left`;
-- and what was counted goes up by no more than the bytes that were passed. The contracts have both as the layout's definitions do (`Lands`,
-- `Walks`, whatever is counted). The laws here say what these come to: `lands_left` to `field_at_left` of the bytes left, for the trait's
-- `past`, for `body_at` and for `field_at`; `past_short` to `field_at_short` of the length. (What `end_at` leaves `bodies/proofs/Left`
-- has, `body_passed`; and of a message whole `copy_len`'s `copy_short` says that its plain copy is no longer.)
use Prim.Native.Nat.{ℕ, ◌+◌, ◌/◌, ◌%◌, ◌≤◌}
use mathlib.Core.Path.{◌≡◌, subst}
use mathlib.Core.List.{List}
use lib.ListN.{length}
use Rattle.std.specs.Prelude.{Result, Ok, Err}
use Rattle.layout.specs.Limits.{base}
use Rattle.layout.specs.Varint.{Outcome, whole}
use Rattle.layout.specs.Field.{wire_of}
use Rattle.layout.specs.Message.{Bytes, header_of, body, field}
use Rattle.passing.specs.declared.Stop.{Stop}
use Rattle.passing.specs.declared.Stop.TheVariants.{Short, Broken}
use Rattle.passing.specs.Passing.{Rest}
use Rattle.passing.proofs.Left.{outcome_left, answer_left}
use Rattle.bodies.proofs.Left.{reading_left, field_left}
use Rattle.lengths.specs.Lengths.{Point, reached}
use Rattle.lengths.proofs.Left.{reached_left, field_short, headed_short}
use Rattle.whole.specs.Whole.{Lands, Walks, counted_field}

-- ---- the bytes left

module _ {A : Type 0} (counts : A → ℕ → Type 0) (least : ℕ) (bs : List ℕ) (o : Outcome Point) (l : outcome_left least bs o) where
  pub lands_left : (d : ℕ) (r : Result (A × Rest) (Stop Rest)) → Lands counts d o r → answer_left least bs (λ f. f.1) r
  lands_left d (Ok (x, s)) w = subst (outcome_left least bs) w.1 l
  lands_left d (Err Short) w = tt
  lands_left d (Err (Broken s)) w = subst (outcome_left least bs) w l

  pub walks_left : (r : Result (A × ℕ × Rest) (Stop Rest)) → Walks counts o r → answer_left least bs (λ f. f.2) r
  walks_left (Ok (x, d, s)) w = subst (outcome_left least bs) w.1 l
  walks_left (Err Short) w = tt
  walks_left (Err (Broken s)) w = subst (outcome_left least bs) w l

module _ {A : Type 0} (counts : A → ℕ → Type 0) (d n : ℕ) (bs : List ℕ) where
  -- what follows the header h
  pub past_left : (h : ℕ) (r : Result (A × Rest) (Stop Rest)) → Lands counts d (reached d n (body base d (h / 8) (wire_of (h % 8)) bs).outcome) r
      → answer_left 0 bs (λ f. f.1) r
  past_left h r w =
      let o = (body base d (h / 8) (wire_of (h % 8)) bs).outcome in
      lands_left counts 0 bs (reached d n o) (reached_left d n bs 0 o (reading_left base d (h / 8) (wire_of (h % 8)) bs)) d r w

  pub body_at_left : (h : ℕ) (r : Result (A × ℕ × Rest) (Stop Rest)) → Walks counts (reached d n (body base d (h / 8) (wire_of (h % 8)) bs).outcome) r
      → answer_left 0 bs (λ f. f.2) r
  body_at_left h r w =
      let o = (body base d (h / 8) (wire_of (h % 8)) bs).outcome in
      walks_left counts 0 bs (reached d n o) (reached_left d n bs 0 o (reading_left base d (h / 8) (wire_of (h % 8)) bs)) r w

  -- a field
  pub field_at_left : (r : Result (A × ℕ × Rest) (Stop Rest)) → Walks counts (counted_field d n bs) r → answer_left 1 bs (λ f. f.2) r
  unfolding counted_field
  field_at_left r w =
      let o = (field base d bs).outcome in
      walks_left counts 1 bs (reached d n o) (reached_left d n bs 1 o (field_left base d bs)) r w

-- ---- what is counted

-- m bytes are counted after it, where n were before, and s is left
abbrev pub Counts : {A : Type 0} → (A → ℕ → Type 0) → ℕ → List ℕ → A → Rest → Type 0
Counts counts n bs x s = (m : ℕ) × counts x m × (m + length s.now ≤ n + length bs)

module _ {A : Type 0} (counts : A → ℕ → Type 0) (d n : ℕ) (x : A) (s : Rest) where
  -- what follows the header h, which was read from hs, header and all
  module _ (h : ℕ) (hs bs : List ℕ) (a : Bytes hs) (q : header_of base hs ≡ whole h bs) where
    pub past_short : Lands counts d (reached d n (body base d (h / 8) (wire_of (h % 8)) bs).outcome) (Ok (x, s)) → Counts counts n hs x s
    past_short w = (w.0, w.2, headed_short d n h hs bs a q w.1)

    pub body_at_short : (e : ℕ) → Walks counts (reached d n (body base d (h / 8) (wire_of (h % 8)) bs).outcome) (Ok (x, e, s)) → Counts counts n hs x s
    body_at_short e w = (w.0, w.2, headed_short d n h hs bs a q w.1)

  -- a field
  pub field_at_short : (bs : List ℕ) → Bytes bs → (e : ℕ) → Walks counts (counted_field d n bs) (Ok (x, e, s)) → Counts counts n bs x s
  unfolding counted_field
  field_at_short bs a e w = (w.0, w.2, field_short d n bs a w.1)
