-- What follows a header, type by type: with the header it is a field in its shortest form.
use Prim.Native.Nat.{ℕ, zero, suc, ◌+◌, ◌-◌, ◌*◌, ◌/◌, ◌%◌, ◌^◌, ◌≤◌, ◌<◌}
use mathlib.Core.Path.{◌≡◌, refl, sym, ap, ◌∙◌, subst}
use mathlib.Core.List.{List, [], ◌∷◌, ◌++◌, append-nil}
use native.Mathlib.Nat.{pow-suc}
use native.Mathlib.Numerals.{add-one}
use native.Mathlib.Omega.{arith}
use lib.IntN.{ℤ}
use lib.ListN.{length, take, drop, length-drop, take-append-drop}
use lib.Seq.{length-take-le}
use Rattle.layout.specs.Limits.{base}
use Rattle.layout.specs.Varint.{shortest}
use Rattle.layout.specs.Zigzag.{zigzag, unzigzag}
use Rattle.layout.specs.Field.{Width, Raw, Wire, bytes_of, subtype_number, wire_number, header, word, low_bytes, each}
use Rattle.layout.specs.Field.{float, raw, t_unsigned, t_signed, t_fixlen, t_unsigneds, t_signeds, t_floats, t_begin}
use Rattle.layout.specs.Field.{unsigned, signed, payload, unsigned_array, signed_array, float_array, begin, end}
use Rattle.layout.specs.Copy.{field_bytes}
use Rattle.layout.specs.Message.{All, Bytes, depth_after}
use Rattle.varint.proofs.Zigzag.{zigzag-unzigzag}
use Rattle.shortest.specs.Own.{OwnFields, Numbers, Number, Body}
use Rattle.shortest.proofs.Spans.{bytes_drop, bytes_front}
use Rattle.own.proofs.Runs.{fields_one}

-- ---- scalars

pub unsigned_body : (bs : List ℕ) → Number bs → Body t_unsigned bs
unfolding field_bytes depth_after
unsigned_body bs n id d h = fields_one base d (unsigned id n.0) _ (h, n.1) tt (ap (λ (l : List ℕ). header id t_unsigned ++ l) n.2)

pub signed-body : (bs : List ℕ) → Number bs → Body t_signed bs
unfolding field_bytes depth_after
signed-body bs n id d h =
    let e : n.0 ≡ zigzag (unzigzag n.0) = sym (zigzag-unzigzag n.0) in
    fields_one base d (signed id (unzigzag n.0)) _ (h, subst (λ (x : ℕ). x < 2 ^ base.bits) e n.1) tt
    (ap (λ (l : List ℕ). header id t_signed ++ l) (n.2 ∙ ap shortest e))

-- ---- floats, low byte first

record Low (n : ℕ) (bs : List ℕ) : Type 0 where
  bits : ℕ
  small : bits < 256 ^ n
  bytes : bs ≡ low_bytes n bits

low_of : (n : ℕ) (bs : List ℕ) → Bytes bs → length bs ≡ n → Low n bs
unfolding low_bytes
low_of zero [] a e = record { bits = 0; small = omega arith; bytes = refl }
low_of zero (b ∷ bs) a e = absurd (omega arith)
low_of (suc n) [] a e = absurd (omega arith)
low_of (suc n) (b ∷ bs) a e =
    let l = low_of n bs a.1 (omega arith) in
    let h : b < 256 = a.0 in
    let q : (b + 256 * l.bits) / 256 ≡ l.bits = omega arith in
    let r : (b + 256 * l.bits) % 256 ≡ b = omega arith in
    record {
      bits = b + 256 * l.bits;
      small = omega (arith, l.small, pow-suc 256 n);
      bytes = ap (λ (x : List ℕ). b ∷ x) (l.bytes ∙ ap (low_bytes n) (sym q)) ∙ ap (λ (x : ℕ). x ∷ low_bytes n ((b + 256 * l.bits) / 256)) (sym r);
    }

record Lows (w n : ℕ) (bs : List ℕ) : Type 0 where
  list : List ℕ
  count : length list ≡ n
  small : All (λ x. x < 256 ^ w) list
  bytes : bs ≡ each (low_bytes w) list

empty : (bs : List ℕ) → length bs ≡ 0 → bs ≡ []
empty [] e = refl
empty (b ∷ bs) e = absurd (omega arith)

lows_more : (w n : ℕ) (bs : List ℕ) → Low w (take w bs) → Lows w n (drop w bs) → Lows w (suc n) bs
unfolding each
lows_more w n bs l m =
    record {
      list = l.bits ∷ m.list;
      count = ap suc m.count;
      small = (l.small, m.small);
      bytes = sym (take-append-drop w bs) ∙ ap (λ (x : List ℕ). x ++ drop w bs) l.bytes ∙ ap (λ (x : List ℕ). low_bytes w l.bits ++ x) m.bytes;
    }

lows_of : (w n : ℕ) (bs : List ℕ) → Bytes bs → length bs ≡ n * w → Lows w n bs
unfolding each
lows_of w zero bs a e = record { list = []; count = refl; small = tt; bytes = empty bs (omega arith) }
lows_of w (suc n) bs a e =
    let s : suc n * w ≡ w + n * w = omega arith in
    lows_more w n bs
    (low_of w (take w bs) (bytes_front (take w bs) (drop w bs) (subst Bytes (sym (take-append-drop w bs)) a)) (length-take-le w bs (omega arith)))
    (lows_of w n (drop w bs) (bytes_drop w bs a) (omega (arith, length-drop w bs)))

-- ---- a word and the bytes after it

worded : (w : ℕ) (n s : ℕ) → w / 8 ≡ n → w % 8 ≡ s → w ≡ n * 8 + s
worded w n s p q = omega arith

pub float_body : (x : Width) (w : ℕ) → w ≡ bytes_of x * 8 + subtype_number (float x) → (xs ys : List ℕ) → xs ≡ shortest w → (length ys ≡ bytes_of x) × Bytes ys → Body t_fixlen (xs ++ ys)
unfolding field_bytes depth_after
float_body x w f xs ys e b id d h =
    let l = low_of (bytes_of x) ys b.1 b.0 in
    fields_one base d (float id x l.bits) _ (h, l.small) tt
    (ap (λ (z : List ℕ). header id t_fixlen ++ (z ++ ys)) (e ∙ ap shortest f)
    ∙ ap (λ (z : List ℕ). header id t_fixlen ++ (word (bytes_of x) (float x) ++ z)) l.bytes)

pub raw_body : (r : Raw) (w : ℕ) → w % 8 ≡ subtype_number (raw r) → w / 8 ≤ base.size → (xs ys : List ℕ) → xs ≡ shortest w → (length ys ≡ w / 8) × Bytes ys → Body t_fixlen (xs ++ ys)
unfolding field_bytes depth_after
raw_body r w s n xs ys e b id d h =
    fields_one base d (payload id r ys) _ (h, subst (λ (k : ℕ). k ≤ base.size) (sym b.0) n, b.1) tt
    (ap (λ (z : List ℕ). header id t_fixlen ++ (z ++ ys)) (e ∙ ap shortest (worded w (length ys) (subtype_number (raw r)) (sym b.0) s)))

-- ---- arrays

record Signeds (ns : List ℕ) : Type 0 where
  list : List ℤ
  count : length list ≡ length ns
  fit : All (λ z. zigzag z < 2 ^ base.bits) list
  bytes : each shortest ns ≡ each (λ z. shortest (zigzag z)) list

signeds_of : (ns : List ℕ) → All (λ n. n < 2 ^ base.bits) ns → Signeds ns
unfolding each
signeds_of [] a = record { list = []; count = refl; fit = tt; bytes = refl }
signeds_of (n ∷ ns) a =
    let e : n ≡ zigzag (unzigzag n) = sym (zigzag-unzigzag n) in
    let s = signeds_of ns a.1 in
    record {
      list = unzigzag n ∷ s.list;
      count = ap suc s.count;
      fit = (subst (λ (x : ℕ). x < 2 ^ base.bits) e a.0, s.fit);
      bytes = ap (λ (x : ℕ). shortest x ++ each shortest ns) e ∙ ap (λ (l : List ℕ). shortest (zigzag (unzigzag n)) ++ l) s.bytes;
    }

module _ (c : ℕ) (xs ys : List ℕ) (h : (c ≤ base.count) × (xs ≡ shortest c)) where
  pub unsigneds_body : Numbers base c ys → Body t_unsigneds (xs ++ ys)
  unfolding field_bytes depth_after
  unsigneds_body n id d i =
      fields_one base d (unsigned_array id n.list) _ (i, subst (λ (k : ℕ). k ≤ base.count) (sym n.count) h.0, n.fit) tt
      (ap (λ (z : List ℕ). header id t_unsigneds ++ (z ++ ys)) (h.1 ∙ ap shortest (sym n.count))
      ∙ ap (λ (z : List ℕ). header id t_unsigneds ++ (shortest (length n.list) ++ z)) n.bytes)

  pub signeds_body : Numbers base c ys → Body t_signeds (xs ++ ys)
  unfolding field_bytes depth_after
  signeds_body n id d i =
      let s = signeds_of n.list n.fit in
      let k : length s.list ≡ c = s.count ∙ n.count in
      fields_one base d (signed_array id s.list) _ (i, subst (λ (k : ℕ). k ≤ base.count) (sym k) h.0, s.fit) tt
      (ap (λ (z : List ℕ). header id t_signeds ++ (z ++ ys)) (h.1 ∙ ap shortest (sym k))
      ∙ ap (λ (z : List ℕ). header id t_signeds ++ (shortest (length s.list) ++ z)) (n.bytes ∙ s.bytes))

  pub floats_body : (x : Width) (w : ℕ) → w ≡ bytes_of x * 8 + subtype_number (float x) → (zs : List ℕ) → ys ≡ shortest w → (length zs ≡ c * bytes_of x) × Bytes zs → Body t_floats (xs ++ (ys ++ zs))
  unfolding field_bytes depth_after
  floats_body x w f zs e b id d i =
      let l = lows_of (bytes_of x) c zs b.1 b.0 in
      fields_one base d (float_array id x l.list) _ (i, subst (λ (k : ℕ). k ≤ base.count) (sym l.count) h.0, l.small) tt
      (ap (λ (z : List ℕ). header id t_floats ++ (z ++ (ys ++ zs))) (h.1 ∙ ap shortest (sym l.count))
      ∙ ap (λ (z : List ℕ). header id t_floats ++ (shortest (length l.list) ++ (z ++ zs))) (e ∙ ap shortest f)
      ∙ ap (λ (z : List ℕ). header id t_floats ++ (shortest (length l.list) ++ (word (bytes_of x) (float x) ++ z))) l.bytes)

-- ---- fields by their header

headed : (h : ℕ) (w : Wire) → h % 8 ≡ wire_number w → shortest h ≡ header (h / 8) w
headed h w e = let s : h ≡ h / 8 * 8 + wire_number w = omega arith in ap shortest s

pub with_header : (h d : ℕ) (w : Wire) (bs : List ℕ) → h / 8 ≤ base.id → h % 8 ≡ wire_number w → Body w bs → OwnFields base d (shortest h ++ bs) d
with_header h d w bs i e b = subst (λ (x : List ℕ). OwnFields base d (x ++ bs) d) (sym (headed h w e)) (b (h / 8) d i)

pub opens : (h d : ℕ) → h / 8 ≤ base.id → h % 8 ≡ 6 → d < base.depth → OwnFields base d (shortest h ++ []) (d + 1)
unfolding field_bytes depth_after
opens h d i e l =
    subst (λ (n : ℕ). OwnFields base d (shortest h ++ []) n) (sym (add-one d))
    (fields_one base d (begin (h / 8)) _ i l (append-nil (shortest h) ∙ headed h t_begin e))

pub closes : (h d : ℕ) → h ≡ 7 → 0 < d → OwnFields base d (shortest h ++ []) (d - 1)
unfolding field_bytes depth_after
closes h d e l = fields_one base d (end 0) _ (omega arith) l (append-nil (shortest h) ∙ ap shortest e)
