-- A float array from its elements' bytes, whether floats or their bits are given.
use mathlib.Core.Path.{◌≡◌, sym, ap, ◌∙◌}
use mathlib.Core.List.{List, ◌++◌}
use Prim.Native.Nat.{ℕ, ◌+◌, ◌*◌}
use native.Mathlib.Omega.{arith}
use lib.Dec.{lit<}
use lib.ListN.{length, length-append}
use Rattle.layout.specs.Varint.{shortest}
use Rattle.layout.specs.Field.{Width, fp32, fp64, float, float_array, bytes_of, word, low_bytes, each, wire_number, t_floats}
use Rattle.layout.specs.Copy.{field_bytes}
use Rattle.varint.proofs.Shortest.{length_one}
use Rattle.emit.specs.declared.Cursor.{Cursor}
use Rattle.low_bytes.proofs.Low.{length_low}
use Rattle.emit.proofs.Elements.{length-each}
use Rattle.emit.proofs.Segments.{joined}
use Rattle.emit.specs.Cursor.{Emitted}
use Rattle.std.specs.Prelude.{Result}
use Rattle.types.specs.declared.Error.{Error}
use Rattle.outcomes.specs.declared.Reach.{Reach}
use Rattle.outcomes.specs.Outcome.{reaches}
use Rattle.held.specs.Headers.{headers_of, head_of, Ended}
use Rattle.held.proofs.Ends.{ended, ended_as, grouped}
use Rattle.floats.specs.Word.{word_number}
use mathlib.Core.List.{append_assoc}

-- the word takes a byte
word_one : (w : Width) → length (shortest (word_number w)) ≡ 1
word_one fp32 = length_one 32 (lit< tt)
word_one fp64 = length_one 65 (lit< tt)

module _ (w : Width) (held : ℕ) (places : List ℕ) (id header v : ℕ) (hq : header ≡ id * 8 + wire_number t_floats) (vq : v ≡ word_number w) {A : Type 0} (f : A → List ℕ) (l : List A) (xs : List ℕ) (n : length xs ≡ length l)
    (q : each f l ≡ each (low_bytes (bytes_of w)) xs) where
  -- the output, as it is made
  spelled : (head_of held places header (length l) ++ shortest v) ++ each f l ≡ headers_of held places ++ field_bytes (float_array id w xs)
  unfolding field_bytes
  spelled =
      append_assoc (head_of held places header (length l)) (shortest v) (each f l)
      ∙ grouped (headers_of held places) (shortest header) (shortest (length l)) (shortest v ++ each f l)
      ∙ ap (λ (k : ℕ). headers_of held places ++ (shortest k ++ (shortest (length l) ++ (shortest v ++ each f l)))) hq
      ∙ ap (λ (k : ℕ). headers_of held places ++ (shortest (id * 8 + wire_number t_floats) ++ (shortest k ++ (shortest v ++ each f l)))) (sym n)
      ∙ ap (λ (k : ℕ). headers_of held places ++ (shortest (id * 8 + wire_number t_floats) ++ (shortest (length xs) ++ (shortest k ++ each f l)))) vq
      ∙ ap (λ (t : List ℕ). headers_of held places ++ (shortest (id * 8 + wire_number t_floats) ++ (shortest (length xs) ++ (word (bytes_of w) (float w) ++ t)))) q

  long : (m k : ℕ) → m ≡ length (head_of held places header (length l)) → k ≡ bytes_of w → m + (1 + length l * k) ≡ length ((head_of held places header (length l) ++ shortest v) ++ each f l)
  long m k mq kq =
      let e : length (each f l) ≡ length l * k = ap length q ∙ length-each (low_bytes (bytes_of w)) (bytes_of w) (λ x. length_low (bytes_of w) x) xs ∙ ap (λ (m : ℕ). m * bytes_of w) n ∙ ap (λ (j : ℕ). length l * j) (sym kq) in
      let j : length (shortest v) ≡ 1 = ap (λ (k : ℕ). length (shortest k)) vq ∙ word_one w in
      let i = length-append (head_of held places header (length l)) (shortest v) in
      let o = length-append (head_of held places header (length l) ++ shortest v) (each f l) in
      omega arith

  pub floats_ended : (c : Cursor) (b : List ℕ) (c0 : Cursor) (b0 : List ℕ) (c1 : Cursor) (b1 : List ℕ) (c2 : Cursor) (b2 : List ℕ) (r : Result Reach Error) (m k : ℕ)
      → Emitted c b (head_of held places header (length l)) c0 b0 → Emitted c0 b0 (shortest v) c1 b1 → Emitted c1 b1 (each f l) c2 b2
      → m ≡ length (head_of held places header (length l)) → k ≡ bytes_of w → r ≡ reaches c.pos (length b) (m + (1 + length l * k)) c.skip
      → Ended c.pos b (headers_of held places ++ field_bytes (float_array id w xs)) c.skip r b2
  floats_ended c b c0 b0 c1 b1 c2 b2 r m k d e g mq kq h =
      ended_as c.pos b _ _ c.skip r b2 spelled (ended c b _ c2 b2 (joined _ b _ c1 b1 _ c2 b2 (joined _ b _ c0 b0 _ c1 b1 d e) g) _ r (long m k mq kq) h)
