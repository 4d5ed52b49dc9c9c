-- 01's sentences about the gatherer, each as a theorem about `gathered` and `part_of`, the definitions in the contracts of its two calls. The
-- state is sound in those about the first.
use Prim.Native.Nat.{ℕ, ◌+◌, ◌-◌, ◌≤◌, ◌<◌}
use mathlib.Core.Path.{◌≡◌, refl, sym, ap, ◌∙◌}
use mathlib.Core.Bool.{Bool, true, false, cond, ◌&&◌}
use mathlib.Core.List.{List, []}
use native.Mathlib.Omega.{arith}
use lib.Dec.{eqb, leb, ltb}
use lib.ListN.{length, drop}
use lib.Seq.{paste, paste-zero, drop-paste, drop-drop}
use borrow.Author.Tests.{le-leb, lt-leb, ne_eqb, leb-true, leb-false}
use Rattle.gathering.specs.Gather.{Gatherer, Said, Gathered, nothing, in_chunk, in_buffer, number, sound, fresh, begun, untouched, owed, copied, holds_whole, accepted, gathered, first_of, part_of}
use Rattle.gathering.proofs.Cases.{over_already, too_long, whole_chunk, elsewhere, next, in_order, begun-within, either}

-- nothing is owed of a total that shrank
shrunk_copy : (a : Gatherer) (b : List ℕ) (total : ℕ) (chunk : List ℕ) → total < a.len → copied a b total chunk ≡ untouched (in_buffer total) (record { len = a.len; complete = true }) b
unfolding copied
shrunk_copy a b total chunk h =
    let n : owed a.len total (length chunk) ≡ 0 = omega arith in
    let l : a.len + 0 ≡ a.len = omega arith in
    let w : total ≤ a.len = omega arith in
    simp (n, l, le-leb _ _ w, ← paste-zero b a.len chunk)

owed-within : (a : Gatherer) (b : List ℕ) (total : ℕ) (chunk : List ℕ) → a.len ≤ length b → a.len ≤ total → drop total (copied a b total chunk).buf ≡ drop total b
unfolding copied
owed-within a b total chunk s h =
    let n : ℕ = owed a.len total (length chunk) in
    let m : ℕ = total - (a.len + n) in
    let e : a.len + n + m ≡ total = omega arith in
    let d : drop (a.len + n) (paste b a.len chunk n) ≡ drop (a.len + n) b = drop-paste b a.len chunk n s (omega arith) in
    ap (λ (k : ℕ). drop k (paste b a.len chunk n)) (sym e) ∙ sym (drop-drop m (a.len + n) (paste b a.len chunk n)) ∙ ap (drop m) d ∙ drop-drop m (a.len + n) b ∙ ap (λ (k : ℕ). drop k b) e

-- a copy alters no byte from `total` on
copy_within : (a : Gatherer) (b : List ℕ) (total : ℕ) (chunk : List ℕ) → a.len ≤ length b → drop total (copied a b total chunk).buf ≡ drop total b
copy_within a b total chunk s = go (leb a.len total) refl
  where
    go : (t : Bool) → leb a.len total ≡ t → drop total (copied a b total chunk).buf ≡ drop total b
    go true e = owed-within a b total chunk s (leb-true _ _ e)
    go false e = ap (λ (g : Gathered). drop total g.buf) (shrunk_copy a b total chunk (leb-false _ _ e))

module _ (a : Gatherer) (b : List ℕ) (total : ℕ) (chunk : List ℕ) (s : a.len ≤ length b) where
  -- "Offset 0 forgets the last payload": what was held does not matter.
  pub forgets : gathered a b total 0 chunk ≡ gathered fresh b total 0 chunk
  forgets = in_order a b total 0 chunk s ∙ sym (in_order fresh b total 0 chunk (omega arith))

  -- "If the first chunk holds the whole, the answer is that part of the chunk and the buffer is untouched".
  pub in_one_chunk : total ≤ length b → total ≤ length chunk → gathered a b total 0 chunk ≡ untouched (in_chunk total) (record { len = 0; complete = true }) b
  in_one_chunk f h = in_order a b total 0 chunk s ∙ sym (whole_chunk fresh b total 0 chunk refl f (le-leb _ _ h))

  -- Number 4: "the buffer is unaltered, and the state too but for that reset": at offset 0,
  pub refused-at-start : length b < total → gathered a b total 0 chunk ≡ untouched (number 4) fresh b
  refused-at-start h = in_order a b total 0 chunk s ∙ sym (too_long fresh b total 0 chunk refl h)

  module _ (offset : ℕ) (later : 0 < offset) where
    not_start : eqb offset 0 ≡ false
    not_start = ne_eqb offset 0 (λ e. omega arith)

    goes_on : gathered a b total offset chunk ≡ accepted a b total offset chunk
    goes_on = in_order a b total offset chunk s ∙ ap (λ (t : Bool). accepted (cond t fresh a) b total offset chunk) not_start

    -- and at a later offset of a payload that is not complete.
    pub refused-later : a.complete ≡ false → length b < total → gathered a b total offset chunk ≡ untouched (number 4) a b
    refused-later e h = goes_on ∙ sym (too_long a b total offset chunk e h)

    -- "A chunk at any other offset than the length held, or one with offset above 0 after completion, answers "nothing yet"": after
    -- completion,
    pub after_completion : a.complete ≡ true → gathered a b total offset chunk ≡ untouched nothing a b
    after_completion e = goes_on ∙ sym (over_already a b total offset chunk e)

    module _ (e : a.complete ≡ false) (f : total ≤ length b) where
      -- and at another offset than the length held.
      pub other_offset : (offset ≡ a.len → ⊥) → gathered a b total offset chunk ≡ untouched nothing a b
      other_offset d = goes_on ∙ sym (elsewhere a b total offset chunk e f (ap (λ (t : Bool). t && leb total (length chunk)) not_start) d)

      next-piece : offset ≡ a.len → gathered a b total offset chunk ≡ copied a b total chunk
      next-piece d = goes_on ∙ next a b total offset chunk e f (ap (λ (t : Bool). t && leb total (length chunk)) not_start) d

      -- "If `total` shrinks below the length held, nothing is copied and the first `total` held bytes are answered."
      pub shrunk : offset ≡ a.len → total < a.len → gathered a b total offset chunk ≡ untouched (in_buffer total) (record { len = a.len; complete = true }) b
      shrunk d h = next-piece d ∙ shrunk_copy a b total chunk h

-- "None beyond them": the buffer's bytes from `total` on stay, whatever the call.
record Kept (b : List ℕ) (total : ℕ) (g : Gathered) : Type 0 where
  pub beyond : drop total g.buf ≡ drop total b

accepted_kept : (a : Gatherer) (b : List ℕ) (total offset : ℕ) (chunk : List ℕ) → a.len ≤ length b → Kept b total (accepted a b total offset chunk)
unfolding accepted
accepted_kept a b total offset chunk s =
    either (Kept b total) a.complete (λ e. record { beyond = refl }) λ e.
    either (Kept b total) (ltb (length b) total) (λ e. record { beyond = refl }) λ e.
    either (Kept b total) (holds_whole total offset (length chunk)) (λ e. record { beyond = refl }) λ e.
    either (Kept b total) (eqb offset a.len) (λ e. record { beyond = copy_within a b total chunk s }) λ e. record { beyond = refl }

pub none_beyond : (a : Gatherer) (b : List ℕ) (total offset : ℕ) (chunk : List ℕ) → a.len ≤ length b → drop total (gathered a b total offset chunk).buf ≡ drop total b
none_beyond a b total offset chunk s =
    ap (λ (g : Gathered). drop total g.buf) (in_order a b total offset chunk s)
    ∙ (accepted_kept (begun a offset) b total offset chunk (begun-within a _ offset _ refl s)).beyond

-- The second call: "It returns an empty part where that answer isn't whole, the state isn't sound or the slice lent is too short."
sound_or_not : (t : Bool) (part : List ℕ) → part ≡ [] → cond t part [] ≡ []
sound_or_not true part e = e
sound_or_not false part e = refl

module _ (a : Gatherer) (b chunk : List ℕ) where
  pub nothing_empty : part_of nothing a b chunk ≡ []
  nothing_empty = sound_or_not (sound a b) [] refl

  pub refused-empty : (k : ℕ) → part_of (number k) a b chunk ≡ []
  refused-empty k = sound_or_not (sound a b) [] refl

  pub unsound-empty : (w : Said) → length b < a.len → part_of w a b chunk ≡ []
  unsound-empty w h = simp (lt-leb _ _ h)

  pub short_chunk : (n : ℕ) → length chunk < n → part_of (in_chunk n) a b chunk ≡ []
  short_chunk n h = sound_or_not (sound a b) (first_of chunk n) (simp (lt-leb _ _ h))

  pub short_buffer : (n : ℕ) → length b < n → part_of (in_buffer n) a b chunk ≡ []
  short_buffer n h = sound_or_not (sound a b) (first_of b n) (simp (lt-leb _ _ h))
