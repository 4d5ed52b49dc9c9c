-- What the reader makes of a varint in its shortest form, wherever it takes one: of a header, a word, a count and a number; and of a float.
use Prim.Native.Nat.{ℕ, zero, suc, ◌+◌, ◌-◌, ◌*◌, ◌/◌, ◌%◌, ◌^◌, ◌<◌, ◌≤◌, min}
use native.Mathlib.Omega.{arith}
use mathlib.Core.Path.{◌≡◌, refl, sym, ap, ◌∙◌, subst}
use mathlib.Core.Bool.{Bool, true, false}
use mathlib.Core.List.{List, [], ◌∷◌, ◌++◌, append_assoc}
use lib.ListN.{length, length-append}
use lib.Dec.{ltb, leb}
use borrow.Author.Tests.{le-leb, le-ltb, lt-ltb}
use Rattle.layout.specs.Limits.{Limits, pick}
use Rattle.layout.specs.Varint.{whole, Push, more, value, overrun, push, varint_from, shortest}
use Rattle.layout.specs.Event.{Float}
use Rattle.layout.specs.Field.{Width, Subtype, Subtyped, Wire, bytes_of, subtype_number, subtype_of, wire_number, wire_of, header, word, low_bytes}
use Rattle.layout.specs.Field.{fp32, fp64, string, blob, float, raw, known}
use Rattle.layout.specs.Field.{t_unsigned, t_signed, t_fixlen, t_unsigneds, t_signeds, t_floats, t_begin, t_end}
use Rattle.layout.specs.Reading.{low_from}
use Rattle.laws.specs.Legal.{Fit}
use Rattle.laws.proofs.Varint.{varint_parses, step_value, step-more, step-over}
use Rattle.laws.proofs.Parts.{low_parses}
use Rattle.machine.specs.Machine.{Phase, in_header, in_unsigned, in_signed, in_word, in_unsigned_count, in_signed_count, in_float_count, in_array_word, in_float}
use Rattle.machine.specs.Machine.{idle, Stepped, on, bad, step, within, next_or, at_wire, at_header, at_subtype, at_word, at_unsigned, at_signed}
use Rattle.machine.specs.Machine.{at_unsigned_count, at_signed_count, at_float_count, at_element, at_array_word, at_float}
use Rattle.machine.specs.Calls.{Pace, byte, bulk, pace_of, piece, scan, scanned}
use Rattle.machine.specs.Calls as calls

-- From a depth and phase on, the bytes a come to m; the reader goes on behind them.
abbrev pub Reads : Limits → ℕ → Phase → List ℕ → Stepped → Type 0
Reads L d p a m = (n : ℕ) (t : List ℕ) → scan L n d p (a ++ t) ≡ scanned (n + length a) m (λ d' p'. scan L (n + length a) d' p' t)

-- bytes that raise nothing, and more bytes
pub then : (L : Limits) (d : ℕ) (p : Phase) (a : List ℕ) (d1 : ℕ) (p1 : Phase) (a1 : List ℕ) (m : Stepped) → Reads L d p a (on [] d1 p1) → Reads L d1 p1 a1 m → Reads L d p (a ++ a1) m
unfolding scanned
then L d p a d1 p1 a1 m f g n t =
    let e : n + length a + length a1 ≡ n + length (a ++ a1) = omega (arith, length-append a a1) in
    ap (scan L n d p) (append_assoc a a1 t) ∙ f n (a1 ++ t) ∙ g (n + length a) t ∙ ap (λ (k : ℕ). scanned k m (λ d' p'. scan L k d' p' t)) e

-- ---- varints

-- phases that take a varint at depth d: P within it, k bytes having come to v, and F where its value is known
pub record Varying (L : Limits) (d : ℕ) (P : ℕ → ℕ → Phase) (F : ℕ → Stepped) : Type 0 where
  pub pace : (k v : ℕ) → pace_of (P k v) ≡ byte
  pub steps : (k v b : ℕ) → step L d (P k v) b ≡ within d (push L k v b) P F

scan_byte : (L : Limits) (n d : ℕ) (p : Phase) (b : ℕ) (bs : List ℕ) → pace_of p ≡ byte → scan L n d p (b ∷ bs) ≡ scanned (suc n) (step L d p b) (λ d' p'. scan L (suc n) d' p' bs)
unfolding scan
scan_byte L n d p b bs e =
    ap
    (λ (q : Pace).
    elim q [
      | byte ↦ scanned (suc n) (step L d p b) (λ d' p'. scan L (suc n) d' p' bs)
      | bulk id r total o ↦ piece n d id r total o (min (total - o) (length (b ∷ bs))) (b ∷ bs)
    ])
    e

-- a value's last byte is read: y before the bytes bs is x before t
last_byte : (L : Limits) (F : ℕ → Stepped) (n m y x : ℕ) (bs t : List ℕ) → whole y bs ≡ whole x t → m + length t ≡ n + suc (length bs)
    → scanned (suc n) (F y) (λ d' p'. scan L (suc n) d' p' bs) ≡ scanned m (F x) (λ d' p'. scan L m d' p' t)
last_byte L F n m y x bs t e l =
    let y≡ : y ≡ x = cc in
    let t≡ : bs ≡ t = cc in
    let m≡ : suc n ≡ m = omega (arith, ap length t≡) in
    ap (λ (z : ℕ). scanned (suc n) (F z) (λ d' p'. scan L (suc n) d' p' bs)) y≡
    ∙ ap (λ (z : List ℕ). scanned (suc n) (F x) (λ d' p'. scan L (suc n) d' p' z)) t≡
    ∙ ap (λ (z : ℕ). scanned z (F x) (λ d' p'. scan L z d' p' t)) m≡

module _ (L : Limits) (d : ℕ) (P : ℕ → ℕ → Phase) (F : ℕ → Stepped) (w : Varying L d P F) where
  -- one byte of it
  varint_byte : (n k v b : ℕ) (bs : List ℕ) (q : Push) → push L k v b ≡ q → scan L n d (P k v) (b ∷ bs) ≡ scanned (suc n) (within d q P F) (λ d' p'. scan L (suc n) d' p' bs)
  varint_byte n k v b bs q e =
      scan_byte L n d (P k v) b bs (w.pace k v)
      ∙ ap (λ (m : Stepped). scanned (suc n) m (λ d' p'. scan L (suc n) d' p' bs)) (w.steps k v b ∙ ap (λ (x : Push). within d x P F) e)

  -- the reader takes the bytes that the layout takes
  takes : (bs : List ℕ) (n m k v x : ℕ) (t : List ℕ) → varint_from L k v bs ≡ whole x t → m + length t ≡ n + length bs
      → scan L n d (P k v) bs ≡ scanned m (F x) (λ d' p'. scan L m d' p' t)
  unfolding varint_from within scanned
  takes [] n m k v x t e l = absurd (let z : ◌≡◌ {A = ℕ} 0 1 = cc in omega arith)
  takes (b ∷ bs) n m k v x t e l = go (push L k v b) refl (λ k' v'. takes bs (suc n) m k' v' x t)
    where
      go : (q : Push) → push L k v b ≡ q
          → ((k' v' : ℕ) → varint_from L k' v' bs ≡ whole x t → m + length t ≡ suc n + length bs → scan L (suc n) d (P k' v') bs ≡ scanned m (F x) (λ d' p'. scan L m d' p' t))
          → scan L n d (P k v) (b ∷ bs) ≡ scanned m (F x) (λ d' p'. scan L m d' p' t)
      go (more k' v') i ih = varint_byte n k v b bs (more k' v') i ∙ ih k' v' (sym (step-more L k v b k' v' bs i) ∙ e) (omega arith)
      go (value y) i ih = varint_byte n k v b bs (value y) i ∙ last_byte L F n m y x bs t (sym (step_value L k v b y bs i) ∙ e) l
      go overrun i ih = absurd (let f = sym (step-over L k v b bs i) ∙ e in let z : ◌≡◌ {A = ℕ} 0 1 = cc in omega arith)

  pub shortest_reads : (x : ℕ) → x < 2 ^ L.bits → Reads L d (P 0 0) (shortest x) (F x)
  shortest_reads x h n t = takes (shortest x ++ t) n (n + length (shortest x)) 0 0 x t ((varint_parses L).forth x t h) (omega (arith, length-append (shortest x) t))

at-header : (L : Limits) (d : ℕ) → Varying L d in_header (at_header L d)
unfolding step
at-header L d = record { pace = λ k v. refl; steps = λ k v b. refl }

module _ (L : Limits) (d id : ℕ) where
  pub at_unsigned_lem : (left : ℕ) → Varying L d (in_unsigned id left) (at_unsigned d id left)
  unfolding step
  at_unsigned_lem left = record { pace = λ k v. refl; steps = λ k v b. refl }

  pub at-signed : (left : ℕ) → Varying L d (in_signed id left) (at_signed d id left)
  unfolding step
  at-signed left = record { pace = λ k v. refl; steps = λ k v b. refl }

  pub at-word : Varying L d (in_word id) (at_word L d id)
  unfolding step
  at-word = record { pace = λ k v. refl; steps = λ k v b. refl }

  pub at_unsigneds : Varying L d (in_unsigned_count id) (at_unsigned_count L d id)
  unfolding step
  at_unsigneds = record { pace = λ k v. refl; steps = λ k v b. refl }

  pub at_signeds : Varying L d (in_signed_count id) (at_signed_count L d id)
  unfolding step
  at_signeds = record { pace = λ k v. refl; steps = λ k v b. refl }

  pub at_floats : Varying L d (in_float_count id) (at_float_count L d id)
  unfolding step
  at_floats = record { pace = λ k v. refl; steps = λ k v b. refl }

  pub at_array_word_lem : (count : ℕ) → Varying L d (in_array_word id count) (at_array_word d id count)
  unfolding step
  at_array_word_lem count = record { pace = λ k v. refl; steps = λ k v b. refl }

-- ---- headers, words and counts

wire_is : (t : Wire) → (wire_number t ≤ 7) × (wire_of (wire_number t) ≡ t)
wire_is t_unsigned = (omega arith, refl)
wire_is t_signed = (omega arith, refl)
wire_is t_fixlen = (omega arith, refl)
wire_is t_unsigneds = (omega arith, refl)
wire_is t_signeds = (omega arith, refl)
wire_is t_floats = (omega arith, refl)
wire_is t_begin = (omega arith, refl)
wire_is t_end = (omega arith, refl)

subtype_is : (s : Subtype) → (subtype_number s ≤ 7) × (subtype_of (subtype_number s) ≡ known s)
subtype_is (float fp32) = (omega arith, refl)
subtype_is (float fp64) = (omega arith, refl)
subtype_is (raw string) = (omega arith, refl)
subtype_is (raw blob) = (omega arith, refl)

module _ (L : Limits) (d : ℕ) (P : ℕ → ℕ → Phase) (F : ℕ → Stepped) (w : Varying L d P F) where
  -- a number and three low bits
  tagged : (G : ℕ → ℕ → Stepped) (n k : ℕ) → k ≤ 7 → n * 8 + k < 2 ^ L.bits → F (n * 8 + k) ≡ G ((n * 8 + k) / 8) ((n * 8 + k) % 8) → Reads L d (P 0 0) (shortest (n * 8 + k)) (G n k)
  tagged G n k l h e =
      let q : (n * 8 + k) / 8 ≡ n = omega arith in
      let r : (n * 8 + k) % 8 ≡ k = omega arith in
      subst (Reads L d (P 0 0) (shortest (n * 8 + k))) (e ∙ ap (λ (i : ℕ). G i ((n * 8 + k) % 8)) q ∙ ap (G n) r) (shortest_reads L d P F w (n * 8 + k) h)

module _ (L : Limits) (fit : Fit L) (d id : ℕ) where
  pub header_reads : (t : Wire) → id ≤ L.id → Reads L d idle (header id t) (at_wire L d id t)
  unfolding at_header
  header_reads t h =
      let i = wire_is t in
      subst (Reads L d idle (header id t))
      (ap (λ (b : Bool). pick b (at_wire L d id (wire_of (wire_number t))) bad) (le-leb id L.id h) ∙ ap (at_wire L d id) i.1)
      (tagged L d in_header (at_header L d) (at-header L d) (λ n k. pick (leb n L.id) (at_wire L d n (wire_of k)) bad) id (wire_number t) i.0 (omega (arith, i.0, fit.headers)) refl)

  pub word_reads : (n : ℕ) (s : Subtype) → n ≤ L.size → Reads L d (in_word id 0 0) (word n s) (at_subtype L d id n (known s))
  unfolding at_word
  word_reads n s h =
      let i = subtype_is s in
      subst (λ (u : Subtyped). Reads L d (in_word id 0 0) (word n s) (at_subtype L d id n u)) i.1
      (tagged L d (in_word id) (at_word L d id) (at-word L d id) (λ n k. at_subtype L d id n (subtype_of k)) n (subtype_number s) i.0 (omega (arith, i.0, fit.words)) refl)

  pub array_word_reads : (count n : ℕ) (s : Subtype) → n ≤ L.size → Reads L d (in_array_word id count 0 0) (word n s) (at_element d id count n (known s))
  unfolding at_array_word
  array_word_reads count n s h =
      let i = subtype_is s in
      subst (λ (u : Subtyped). Reads L d (in_array_word id count 0 0) (word n s) (at_element d id count n u)) i.1
      (tagged L d (in_array_word id count) (at_array_word d id count) (at_array_word_lem L d id count) (λ n k. at_element d id count n (subtype_of k)) n (subtype_number s) i.0 (omega (arith, i.0, fit.words)) refl)

  pub count_reads : (P : ℕ → ℕ → Phase) (F : ℕ → Stepped) (n : ℕ) (m : Stepped) → Varying L d P F → n ≤ L.count → F n ≡ pick (leb n L.count) m bad → Reads L d (P 0 0) (shortest n) m
  count_reads P F n m w h e =
      subst (Reads L d (P 0 0) (shortest n)) (e ∙ ap (λ (t : Bool). pick t m bad) (le-leb n L.count h))
      (shortest_reads L d P F w n (omega (arith, fit.counts)))

-- ---- floats

pub some_byte : (w : Width) → 0 < bytes_of w
some_byte fp32 = omega arith
some_byte fp64 = omega arith

module _ (L : Limits) (d id : ℕ) (w : Width) (left : ℕ) where
  -- a float is whole
  abbrev pub whole_float : ℕ → Stepped
  whole_float x = on (Float id w x ∷ []) d (next_or left (λ m. in_float id w m 0 0))

  float_byte : (n k v b : ℕ) (bs : List ℕ) (t : Bool) → ltb (k + 1) (bytes_of w) ≡ t
      → scan L n d (in_float id w left k v) (b ∷ bs)
      ≡ scanned (suc n) (pick t (on [] d (in_float id w left (k + 1) (v + b * 256 ^ k))) (whole_float (v + b * 256 ^ k))) (λ d' p'. scan L (suc n) d' p' bs)
  unfolding step at_float
  float_byte n k v b bs t e =
      scan_byte L n d (in_float id w left k v) b bs refl
      ∙ ap (λ (u : Bool). scanned (suc n) (pick u (on [] d (in_float id w left (k + 1) (v + b * 256 ^ k))) (whole_float (v + b * 256 ^ k))) (λ d' p'. scan L (suc n) d' p' bs)) e

  -- the reader takes the bytes that the layout takes
  takes_low : (j : ℕ) (bs : List ℕ) (n m k v x : ℕ) (t : List ℕ) → k + suc j ≡ bytes_of w → low_from (suc j) k v bs ≡ whole x t → m + length t ≡ n + length bs
      → scan L n d (in_float id w left k v) bs ≡ scanned m (whole_float x) (λ d' p'. scan L m d' p' t)
  unfolding low_from scanned
  takes_low j [] n m k v x t f e l = absurd (let z : ◌≡◌ {A = ℕ} 0 1 = cc in omega arith)
  takes_low zero (b ∷ bs) n m k v x t f e l = float_byte n k v b bs false (le-ltb (k + 1) (bytes_of w) (omega arith)) ∙ last_byte L whole_float n m (v + b * 256 ^ k) x bs t e l
  takes_low (suc j) (b ∷ bs) n m k v x t f e l =
      float_byte n k v b bs true (lt-ltb (k + 1) (bytes_of w) (omega arith))
      ∙ takes_low j bs (suc n) m (k + 1) (v + b * 256 ^ k) x t (omega arith) e (omega arith)

  pub float_reads : (x : ℕ) → x < 256 ^ bytes_of w → Reads L d (in_float id w left 0 0) (low_bytes (bytes_of w) x) (whole_float x)
  float_reads x h n t = go (bytes_of w) refl ((low_parses (bytes_of w)).forth x t h)
    where
      go : (k : ℕ) → bytes_of w ≡ k → low_from k 0 0 (low_bytes (bytes_of w) x ++ t) ≡ whole x t
          → scan L n d (in_float id w left 0 0) (low_bytes (bytes_of w) x ++ t) ≡ scanned (n + length (low_bytes (bytes_of w) x)) (whole_float x) (λ d' p'. scan L (n + length (low_bytes (bytes_of w) x)) d' p' t)
      go zero e f = absurd (omega (arith, some_byte w))
      go (suc j) e f =
          takes_low j (low_bytes (bytes_of w) x ++ t) n (n + length (low_bytes (bytes_of w) x)) 0 0 x t (omega arith) f
          (omega (arith, length-append (low_bytes (bytes_of w) x) t))
