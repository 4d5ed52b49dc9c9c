-- What stands at the front of a slice, part after part; and the runs of numbers and of fields.
use Prim.Native.Nat.{ℕ, zero, suc, ◌+◌, ◌-◌, ◌*◌, ◌/◌, ◌%◌, ◌≤◌, ◌<◌}
use mathlib.Core.Path.{◌≡◌, refl, sym, ap, ◌∙◌, subst}
use mathlib.Core.Logic.{◌⊎◌, inl, inr}
use mathlib.Core.List.{List, [], ◌∷◌, ◌++◌}
use native.Mathlib.Omega.{arith}
use lib.ListN.{length, take, drop, get_or}
use Rattle.std.specs.Prelude.{Option, None, Some, IfSome}
use Rattle.std.specs.Slice.{IsGetRangeResult}
use Rattle.std.proofs.Common.{Bor}
use Rattle.layout.specs.Limits.{base}
use Rattle.layout.specs.Varint.{shortest}
use Rattle.varint.proofs.Shortest.{length_some}
use Rattle.types.specs.declared.FixlenType.{FixlenType}
use Rattle.types.specs.declared.FixlenType.TheVariants as Fix
use Rattle.types.specs.Types.{subtype}
use Rattle.layout.specs.Field.{Raw, raw, string, blob, known, subtype_number, subtype_of, t_unsigned, t_signed, t_fixlen, t_unsigneds, t_signeds, t_floats}
use Rattle.shortest.specs.Own.{OwnFields, Numbers, Number, Body, Ends, FloatWord}
use Rattle.shortest.proofs.Spans.{here, ends_as, ends_then, ends_long, ends_behind, bytes_at, all_bytes, ends_bytes, rest_bytes}
use Rattle.shortest.proofs.Varints.{one, two}
use Rattle.own.proofs.Runs.{fields_append, numbers_one, numbers_append}
use Rattle.own.proofs.Bodies.{unsigned_body, signed-body, float_body, raw_body, unsigneds_body, signeds_body, floats_body, with_header, opens, closes}

-- ---- one byte and two, by place

module _ (t : List ℕ) where
  pub one_at : 1 ≤ length t → get_or t 0 0 < 128 → Ends t (λ bs. bs ≡ shortest (get_or t 0 0)) (take (length t - 1) (drop 1 t))
  one_at h l = go t h l
    where
      go : (t : List ℕ) → 1 ≤ length t → get_or t 0 0 < 128 → Ends t (λ bs. bs ≡ shortest (get_or t 0 0)) (take (length t - 1) (drop 1 t))
      go [] h l = absurd (omega arith)
      go (b ∷ r) h l = ends_behind 1 (one b r l)

  pub two_at : 2 ≤ length t → 128 ≤ get_or t 0 0 → get_or t 0 0 < 256 → 0 < get_or t 1 0 → get_or t 1 0 < 128
      → Ends t (λ bs. bs ≡ shortest (get_or t 0 0 % 128 + get_or t 1 0 * 128)) (take (length t - 2) (drop 2 t))
  two_at h l m g k = go t h l m g k
    where
      go : (t : List ℕ) → 2 ≤ length t → 128 ≤ get_or t 0 0 → get_or t 0 0 < 256 → 0 < get_or t 1 0 → get_or t 1 0 < 128
          → Ends t (λ bs. bs ≡ shortest (get_or t 0 0 % 128 + get_or t 1 0 * 128)) (take (length t - 2) (drop 2 t))
      go [] h l m g k = absurd (omega arith)
      go (b ∷ []) h l m g k = absurd (omega arith)
      go (b ∷ c ∷ r) h l m g k = ends_behind 2 (two b c r l m g k)

-- ---- numbers in a row

pub numbers_next : {t r s : List ℕ} {n : ℕ} → Ends t (Numbers base n) r → Ends r Number s → Ends t (Numbers base (n + 1)) s
numbers_next {n = n} r e = ends_then r e (λ xs ys p q. numbers_append base n 1 xs ys p (numbers_one base q.0 ys q.1 q.2))

-- ---- so many bytes

pub jumps : (t : List ℕ) (n : ℕ) (r : Option (Bor (List ℕ))) → IsGetRangeResult t n (length t) r → IfSome r (λ x. Ends t (λ bs. length bs ≡ n) x.now)
jumps t n None h = tt
jumps t n (Some x) h = subst (Ends t (λ bs. length bs ≡ n)) (sym h.0.2) (ends_behind n (bytes_at t n h.0.0))

-- ---- what follows a header

raw_number : (n : ℕ) (x : Raw) → subtype_of n ≡ known (raw x) → n ≡ subtype_number (raw x)
raw_number zero x e = absurd (let z : ◌≡◌ {A = ℕ} 0 1 = cc in omega arith)
raw_number (suc zero) x e = absurd (let z : ◌≡◌ {A = ℕ} 0 1 = cc in omega arith)
raw_number (suc (suc zero)) string e = refl
raw_number (suc (suc zero)) blob e = absurd (let z : ◌≡◌ {A = ℕ} 0 1 = cc in omega arith)
raw_number (suc (suc (suc zero))) string e = absurd (let z : ◌≡◌ {A = ℕ} 0 1 = cc in omega arith)
raw_number (suc (suc (suc zero))) blob e = refl
raw_number (suc (suc (suc (suc n)))) x e = absurd (let z : ◌≡◌ {A = ℕ} 0 1 = cc in omega arith)

module _ {t r : List ℕ} (w : ℕ) (b : (k : ℕ) → get_or t k 0 < 256) (e : Ends t (λ bs. bs ≡ shortest w) r) where
  pub float_ends : {n : ℕ} {s : List ℕ} → FloatWord w n → Ends r (λ bs. length bs ≡ n) s → Ends t (Body t_fixlen) s
  float_ends f j =
      ends_then e (ends_bytes (rest_bytes (all_bytes t b) e) j) (λ xs ys p q. float_body f.width w f.says xs ys p (q.0 ∙ f.long, q.1))

  raw_ends : {s : List ℕ} (x : Raw) → w % 8 ≡ subtype_number (raw x) → w / 8 ≤ base.size → Ends r (λ bs. length bs ≡ w / 8) s → Ends t (Body t_fixlen) s
  raw_ends x g s j = ends_then e (ends_bytes (rest_bytes (all_bytes t b) e) j) (raw_body x w g s)

  -- by what the code found
  pub text_ends : {s : List ℕ} (x : FixlenType) → (x ≡ Fix.Str) ⊎ (x ≡ Fix.Blob) → subtype_of (w % 8) ≡ known (subtype x) → w / 8 ≤ base.size
      → Ends r (λ bs. length bs ≡ w / 8) s → Ends t (Body t_fixlen) s
  text_ends Fix.Fp32 h g s j = absurd (elim h [ inl e ↦ (let z : ◌≡◌ {A = ℕ} 0 1 = cc in omega arith) | inr e ↦ (let z : ◌≡◌ {A = ℕ} 0 1 = cc in omega arith) ])
  text_ends Fix.Fp64 h g s j = absurd (elim h [ inl e ↦ (let z : ◌≡◌ {A = ℕ} 0 1 = cc in omega arith) | inr e ↦ (let z : ◌≡◌ {A = ℕ} 0 1 = cc in omega arith) ])
  text_ends Fix.Str h g s j = raw_ends string (raw_number (w % 8) string g) s j
  text_ends Fix.Blob h g s j = raw_ends blob (raw_number (w % 8) blob g) s j

module _ {t r : List ℕ} {c : ℕ} (e : Ends t (λ bs. (c ≤ base.count) × (bs ≡ shortest c)) r) where
  pub array_ends : {s : List ℕ} {k : ℕ} → Ends r (Numbers base k) s → k ≡ c → Ends t (λ bs. Body t_unsigneds bs × Body t_signeds bs) s
  array_ends {s} n q =
      ends_then e (subst (λ (x : ℕ). Ends r (Numbers base x) s) q n) (λ xs ys h u. (unsigneds_body c xs ys h u, signeds_body c xs ys h u))

  pub floats_ends : {w n : ℕ} {s z : List ℕ} → ((k : ℕ) → get_or t k 0 < 256) → Ends r (λ bs. bs ≡ shortest w) s → FloatWord w n → Ends s (λ bs. length bs ≡ c * n) z → Ends t (Body t_floats) z
  floats_ends {w} b u f k =
      ends_then {Q = λ bs. (xs : List ℕ) → (c ≤ base.count) × (xs ≡ shortest c) → Body t_floats (xs ++ bs)} e
      (ends_then u (ends_bytes (rest_bytes (rest_bytes (all_bytes t b) e) u) k)
      (λ ys zs p q xs h. floats_body c xs ys h f.width w f.says zs p (q.0 ∙ ap (λ (x : ℕ). c * x) f.long, q.1)))
      (λ xs bs p q. q xs p)

-- ---- fields

-- the two types of scalars
pub scalar-field : (h d : ℕ) (bs : List ℕ) → h / 8 ≤ base.id → h % 8 < 2 → Number bs → OwnFields base d (shortest h ++ bs) d
scalar-field h d bs i l n = go (h % 8) refl l
  where
    go : (k : ℕ) → h % 8 ≡ k → k < 2 → OwnFields base d (shortest h ++ bs) d
    go zero e l = with_header h d t_unsigned bs i e (unsigned_body bs n)
    go (suc zero) e l = with_header h d t_signed bs i e (signed-body bs n)
    go (suc (suc k)) e l = absurd (omega arith)

-- a scalar of two bytes, and such scalars in a row
small : (h v : ℕ) (r : List ℕ) → h < 128 → h % 8 < 2 → v < 128 → Ends (h ∷ v ∷ r) (λ bs. (d : ℕ) → OwnFields base d bs d) r
small h v r l s g =
    ends_then (one h (v ∷ r) l) (one v r g)
    (λ xs ys p q d. subst (λ (x : List ℕ). OwnFields base d (x ++ ys) d) (sym p) (scalar-field h d ys (omega arith) s (v, omega arith, q)))

small_at : (t : List ℕ) → 2 ≤ length t → get_or t 0 0 < 128 → get_or t 0 0 % 8 < 2 → get_or t 1 0 < 128 → Ends t (λ bs. (d : ℕ) → OwnFields base d bs d) (take (length t - 2) (drop 2 t))
small_at [] h l s g = absurd (omega arith)
small_at (b ∷ []) h l s g = absurd (omega arith)
small_at (b ∷ c ∷ r) h l s g = ends_behind 2 (small b c r l s g)

pub smalls_next : {t : List ℕ} (r : List ℕ) → Ends t (λ bs. (d : ℕ) → OwnFields base d bs d) r → 2 ≤ length r → get_or r 0 0 < 128 → get_or r 0 0 % 8 < 2 → get_or r 1 0 < 128
    → Ends t (λ bs. (d : ℕ) → OwnFields base d bs d) (take (length r - 2) (drop 2 r))
smalls_next r e h l s g = ends_then e (small_at r h l s g) (λ xs ys p q d. fields_append base d d d xs ys (p d) (q d))

-- the two types of arrays of numbers
pub array_field : (h d : ℕ) (bs : List ℕ) → h / 8 ≤ base.id → 3 ≤ h % 8 → h % 8 < 5 → Body t_unsigneds bs × Body t_signeds bs → OwnFields base d (shortest h ++ bs) d
array_field h d bs i g l b = go (h % 8) refl g l
  where
    go : (k : ℕ) → h % 8 ≡ k → 3 ≤ k → k < 5 → OwnFields base d (shortest h ++ bs) d
    go zero e g l = absurd (omega arith)
    go (suc zero) e g l = absurd (omega arith)
    go (suc (suc zero)) e g l = absurd (omega arith)
    go (suc (suc (suc zero))) e g l = with_header h d t_unsigneds bs i e b.0
    go (suc (suc (suc (suc zero)))) e g l = with_header h d t_signeds bs i e b.1
    go (suc (suc (suc (suc (suc k))))) e g l = absurd (omega arith)

-- an open and a close: nothing follows
pub open_ends : (t : List ℕ) (h d : ℕ) → h / 8 ≤ base.id → h % 8 ≡ 6 → d < base.depth → Ends t (λ bs. OwnFields base d (shortest h ++ bs) (d + 1)) t
open_ends t h d i e l = here t (opens h d i e l)

pub close_ends : (t : List ℕ) (h d : ℕ) → h ≡ 7 → 0 < d → Ends t (λ bs. OwnFields base d (shortest h ++ bs) (d - 1)) t
close_ends t h d e l = here t (closes h d e l)

-- a header and what follows it
pub field-ends : {t r s : List ℕ} (h d f : ℕ) → Ends t (λ bs. (h / 8 ≤ base.id) × (bs ≡ shortest h)) r → Ends r (λ bs. OwnFields base d (shortest h ++ bs) f) s → Ends t (λ bs. OwnFields base d bs f) s
field-ends h d f e b = ends_then e b (λ xs ys p q. subst (λ (x : List ℕ). OwnFields base d (x ++ ys) f) (sym p.1) q)

-- .. further on, a header having a byte
pub further : {t r s : List ℕ} (h d f : ℕ) → Ends t (λ bs. (h / 8 ≤ base.id) × (bs ≡ shortest h)) r → Ends r (λ bs. OwnFields base d (shortest h ++ bs) f) s →
    (length s < length t) × Ends t (λ bs. OwnFields base d bs f) s
further h d f e b = (omega (arith, ends_long e, ends_long b, ap length e.good.1, length_some h), field-ends h d f e b)

-- an open or a close of one byte
module _ (t : List ℕ) (d : ℕ) (h : 1 ≤ length t) where
  header_at : get_or t 0 0 < 128 → Ends t (λ bs. (get_or t 0 0 / 8 ≤ base.id) × (bs ≡ shortest (get_or t 0 0))) (take (length t - 1) (drop 1 t))
  header_at s = ends_as (one_at t h s) (λ bs q. (omega arith, q))

  pub small_open : get_or t 0 0 < 128 → get_or t 0 0 % 8 ≡ 6 → d < base.depth
      → (length (take (length t - 1) (drop 1 t)) < length t) × Ends t (λ bs. OwnFields base d bs (d + 1)) (take (length t - 1) (drop 1 t))
  small_open s e l = further (get_or t 0 0) d (d + 1) (header_at s) (open_ends _ (get_or t 0 0) d (omega arith) e l)

  pub small_close : get_or t 0 0 ≡ 7 → 0 < d
      → (length (take (length t - 1) (drop 1 t)) < length t) × Ends t (λ bs. OwnFields base d bs (d - 1)) (take (length t - 1) (drop 1 t))
  small_close e l = further (get_or t 0 0) d (d - 1) (header_at (omega arith)) (close_ends _ (get_or t 0 0) d e l)

-- ---- the run of fields

pub ran_next : {t r s : List ℕ} {d e f : ℕ} → Ends t (λ bs. OwnFields base d bs e) r → Ends r (λ bs. OwnFields base e bs f) s → Ends t (λ bs. OwnFields base d bs f) s
ran_next {d = d} {e = e} {f = f} r n = ends_then r n (λ xs ys p q. fields_append base d e f xs ys p q)
