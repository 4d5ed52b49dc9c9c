-- The phases there and back, what is left of an array, and which phases the tests let pass.
use mathlib.Core.Path.{◌≡◌, refl, sym, ap, ◌∙◌, subst}
use mathlib.Core.Bool.{Bool, true, false, ◌&&◌}
use mathlib.Core.List.{[], ◌∷◌}
use Prim.Native.Nat.{ℕ, zero, suc, ◌+◌, ◌-◌, ◌*◌, ◌/◌, ◌^◌, ◌<◌, ◌≤◌}
use native.Mathlib.Nat.{pow-suc, suc-mul, mul-le-mul_right, div-eq_of_lt, div-lt_iff_lt-mul, one-mul}
use native.Mathlib.Omega.{arith}
use lib.Pow.{pow-add, pow_pos}
use lib.Dec.{leb, ltb, eqb, lit≤}
use borrow.Author.Tests.{leb-true, ltb-true, ltb-false, le-leb, eq-eqb, ne_eqb}
use types.Run.{OneOf, miss}
use denote.Enum.Declared.{tag_of}
use Rattle.layout.specs.Limits.{Limits}
use Rattle.layout.specs.Field.{Width, Raw, bytes_of, fp32, fp64, string, blob}
use Rattle.machine.specs.Machine as machine
use Rattle.machine.specs.Machine.{in_header, in_unsigned, in_signed, in_word, in_unsigned_count, in_signed_count, in_float_count, in_array_word, in_float, in_payload, idle, next_or, first_or}
use Rattle.machine.specs.Calls.{State, reading, owing, broke}
use Rattle.types.specs.declared.FloatType.{FloatType}
use Rattle.types.specs.declared.FloatType.TheVariants as Floats
use Rattle.types.specs.declared.RawType.{RawType}
use Rattle.types.specs.declared.RawType.TheVariants as Raws
use Rattle.types.specs.Types.{width, float_type, raw_sort, raw_type}
use Rattle.varint.specs.Varint.{Sound, sound_acc}
use Rattle.varint.proofs.Laws as varint
use Rattle.phase.specs.declared.Phase.{Phase}
use Rattle.phase.specs.declared.Phase.TheVariants.{Header, Unsigned, Signed, Word, UnsignedCount, SignedCount, FloatCount, ArrayWord, Float, Payload, Empty, Broken}
use Rattle.phase.specs.Phases.{state_at, phase_in, phase_of, depth_of, sound_phase}
use Rattle.phase.specs.Sound.{SoundState, AtBytes}
use Rattle.phase.specs.contracts.Phase.{the_type}

-- ---- the enums there and back

pub float_back : (w : FloatType) → float_type (width w) ≡ w
float_back Floats.Fp32 = refl
float_back Floats.Fp64 = refl

pub raw_back : (r : RawType) → raw_type (raw_sort r) ≡ r
raw_back Raws.Str = refl
raw_back Raws.Blob = refl

pub width_back : (w : Width) → width (float_type w) ≡ w
width_back fp32 = refl
width_back fp64 = refl

pub sort_back : (r : Raw) → raw_sort (raw_type r) ≡ r
sort_back string = refl
sort_back blob = refl

-- ---- elements

pub next_first : (n : ℕ) (p : ℕ → machine.Phase) → first_or (n - 1) p ≡ next_or n p
next_first zero p = refl
next_first (suc n) p = let e : suc n - 1 ≡ n = omega arith in ap (λ (m : ℕ). first_or m p) e

-- ---- a state there and back

pub state_back : (d : ℕ) (p : machine.Phase) → state_at d (phase_in p) ≡ reading d p
state_back d (in_header k v) = refl
state_back d (in_unsigned id left k v) = refl
state_back d (in_signed id left k v) = refl
state_back d (in_word id k v) = refl
state_back d (in_unsigned_count id k v) = refl
state_back d (in_signed_count id k v) = refl
state_back d (in_float_count id k v) = refl
state_back d (in_array_word id c k v) = refl
state_back d (in_float id w left k v) = ap (λ (x : Width). reading d (in_float id x left k v)) (width_back w)
state_back d (in_payload id r total o) = ap (λ (x : Raw). reading d (in_payload id x total o)) (sort_back r)

-- every state but a broken one, whose depth is not in force
abbrev pub Live : State → Type 0
Live (reading d p) = Unit
Live (owing d id r) = Unit
Live broke = ⊥

pub phase_back : (d : ℕ) (p : Phase) → Live (state_at d p) → phase_of (state_at d p) ≡ p
phase_back d (Header a) l = refl
phase_back d (Unsigned id left a) l = refl
phase_back d (Signed id left a) l = refl
phase_back d (Word id a) l = refl
phase_back d (UnsignedCount id a) l = refl
phase_back d (SignedCount id a) l = refl
phase_back d (FloatCount id a) l = refl
phase_back d (ArrayWord id c a) l = refl
phase_back d (Float id w left k v) l = ap (λ (x : FloatType). Float id x left k v) (float_back w)
phase_back d (Payload id r total o) l = ap (λ (x : RawType). Payload id x total o) (raw_back r)
phase_back d (Empty id r) l = ap (λ (x : RawType). Empty id x) (raw_back r)
phase_back d Broken l = absurd l

pub at_bytes_live : (L : Limits) (st : State) → AtBytes L st → Live st
at_bytes_live L (reading d p) a = tt
at_bytes_live L (owing d id r) a = tt
at_bytes_live L broke a = a

pub depth_back : (d : ℕ) (p : Phase) → Live (state_at d p) → depth_of (state_at d p) ≡ d
depth_back d (Header a) l = refl
depth_back d (Unsigned id left a) l = refl
depth_back d (Signed id left a) l = refl
depth_back d (Word id a) l = refl
depth_back d (UnsignedCount id a) l = refl
depth_back d (SignedCount id a) l = refl
depth_back d (FloatCount id a) l = refl
depth_back d (ArrayWord id c a) l = refl
depth_back d (Float id w left k v) l = refl
depth_back d (Payload id r total o) l = refl
depth_back d (Empty id r) l = refl
depth_back d Broken l = absurd l

-- ---- the test of a state, and what it says

pub both : (x y : Bool) → (x && y) ≡ true → (x ≡ true) × (y ≡ true)
both true y e = (refl, e)
both false y e = let z : ◌≡◌ {A = ℕ} 0 1 = cc in absurd (omega arith)

pub join : {x y : Bool} → x ≡ true → y ≡ true → (x && y) ≡ true
join e f = simp (e, f)

pub phase_is : (L : Limits) (d : ℕ) (p : Phase) → d ≤ L.depth → sound_phase L p ≡ true → SoundState L (state_at d p)
phase_is L d (Header a) l e = (l, varint.is_sound L a e)
phase_is L d (Unsigned id left a) l e = let (i, f) = both _ _ e in let (c, s) = both _ _ f in (l, (leb-true _ _ i, (leb-true _ _ c, varint.is_sound L a s)))
phase_is L d (Signed id left a) l e = let (i, f) = both _ _ e in let (c, s) = both _ _ f in (l, (leb-true _ _ i, (leb-true _ _ c, varint.is_sound L a s)))
phase_is L d (Word id a) l e = let (i, s) = both _ _ e in (l, (leb-true _ _ i, varint.is_sound L a s))
phase_is L d (UnsignedCount id a) l e = let (i, s) = both _ _ e in (l, (leb-true _ _ i, varint.is_sound L a s))
phase_is L d (SignedCount id a) l e = let (i, s) = both _ _ e in (l, (leb-true _ _ i, varint.is_sound L a s))
phase_is L d (FloatCount id a) l e = let (i, s) = both _ _ e in (l, (leb-true _ _ i, varint.is_sound L a s))
phase_is L d (ArrayWord id count a) l e = let (i, f) = both _ _ e in let (c, s) = both _ _ f in (l, (leb-true _ _ i, (leb-true _ _ c, varint.is_sound L a s)))
phase_is L d (Float id w left k v) l e =
    let (i, f) = both _ _ e in
    let (c, g) = both _ _ f in
    let (m, s) = both _ _ g in
    (l, (leb-true _ _ i, (leb-true _ _ c, (ltb-true _ _ m, ltb-true _ _ s))))
phase_is L d (Payload id r total o) l e = let (i, f) = both _ _ e in let (c, s) = both _ _ f in (l, (leb-true _ _ i, (leb-true _ _ c, ltb-true _ _ s)))
phase_is L d (Empty id r) l e = (l, leb-true _ _ e)
phase_is L d Broken l e = tt

pub varint_is : (L : Limits) (k v : ℕ) → Sound L (record { value = v; taken = k }) → sound_acc L (record { value = v; taken = k }) ≡ true
varint_is L k v s = varint.sound_is L (record { value = v; taken = k }) s

-- the phases that are read byte by byte
pub at_bytes : (L : Limits) (d : ℕ) (p : Phase) → SoundState L (state_at d p) → OneOf (0 ∷ 1 ∷ 2 ∷ 3 ∷ 4 ∷ 5 ∷ 6 ∷ 7 ∷ 8 ∷ []) (tag_of the_type p) → AtBytes L (state_at d p)
at_bytes L d p s o = go d p s o
  where
    go : (d : ℕ) (p : Phase) → SoundState L (state_at d p) → OneOf (0 ∷ 1 ∷ 2 ∷ 3 ∷ 4 ∷ 5 ∷ 6 ∷ 7 ∷ 8 ∷ []) (tag_of the_type p) → AtBytes L (state_at d p)
    go d (Header a) (l, h) o = (l, (h, refl))
    go d (Unsigned id left a) (l, h) o = (l, (h, refl))
    go d (Signed id left a) (l, h) o = (l, (h, refl))
    go d (Word id a) (l, h) o = (l, (h, refl))
    go d (UnsignedCount id a) (l, h) o = (l, (h, refl))
    go d (SignedCount id a) (l, h) o = (l, (h, refl))
    go d (FloatCount id a) (l, h) o = (l, (h, refl))
    go d (ArrayWord id count a) (l, h) o = (l, (h, refl))
    go d (Float id w left k v) (l, h) o = (l, (h, refl))
    go d (Payload id r total n) h o = absurd (miss (0 ∷ 1 ∷ 2 ∷ 3 ∷ 4 ∷ 5 ∷ 6 ∷ 7 ∷ 8 ∷ []) 9 tt o)
    go d (Empty id r) h o = absurd (miss (0 ∷ 1 ∷ 2 ∷ 3 ∷ 4 ∷ 5 ∷ 6 ∷ 7 ∷ 8 ∷ []) 10 tt o)
    go d Broken h o = absurd (miss (0 ∷ 1 ∷ 2 ∷ 3 ∷ 4 ∷ 5 ∷ 6 ∷ 7 ∷ 8 ∷ []) 11 tt o)

-- a broken reader passes the test
pub broken_sound : (L : Limits) (d : ℕ) (p : Phase) → d ≤ L.depth → state_at d p ≡ broke → (leb d L.depth && sound_phase L p) ≡ true
broken_sound L d (Header a) h e = let z : ◌≡◌ {A = ℕ} 0 1 = cc in absurd (omega arith)
broken_sound L d (Unsigned id left a) h e = let z : ◌≡◌ {A = ℕ} 0 1 = cc in absurd (omega arith)
broken_sound L d (Signed id left a) h e = let z : ◌≡◌ {A = ℕ} 0 1 = cc in absurd (omega arith)
broken_sound L d (Word id a) h e = let z : ◌≡◌ {A = ℕ} 0 1 = cc in absurd (omega arith)
broken_sound L d (UnsignedCount id a) h e = let z : ◌≡◌ {A = ℕ} 0 1 = cc in absurd (omega arith)
broken_sound L d (SignedCount id a) h e = let z : ◌≡◌ {A = ℕ} 0 1 = cc in absurd (omega arith)
broken_sound L d (FloatCount id a) h e = let z : ◌≡◌ {A = ℕ} 0 1 = cc in absurd (omega arith)
broken_sound L d (ArrayWord id count a) h e = let z : ◌≡◌ {A = ℕ} 0 1 = cc in absurd (omega arith)
broken_sound L d (Float id w left k v) h e = let z : ◌≡◌ {A = ℕ} 0 1 = cc in absurd (omega arith)
broken_sound L d (Payload id r total o) h e = let z : ◌≡◌ {A = ℕ} 0 1 = cc in absurd (omega arith)
broken_sound L d (Empty id r) h e = let z : ◌≡◌ {A = ℕ} 0 1 = cc in absurd (omega arith)
broken_sound L d Broken h e = join (le-leb d L.depth h) refl

-- ---- a float's bytes

pub bytes_8 : (w : FloatType) → bytes_of (width w) ≤ 8
bytes_8 Floats.Fp32 = lit≤ tt
bytes_8 Floats.Fp64 = lit≤ tt

pub pow256 : (k : ℕ) → 256 ^ k ≡ 2 ^ (k * 8)
pow256 zero = refl
pow256 (suc k) = pow-suc 256 k ∙ ap (λ (x : ℕ). x * 256) (pow256 k) ∙ sym (pow-add 2 (k * 8) 8) ∙ ap (λ (x : ℕ). 2 ^ x) (sym (suc-mul k 8))

pub byte_below : (v b k : ℕ) → b < 2 ^ 8 → v < 256 ^ k → v + b * 256 ^ k < 256 ^ (k + 1)
byte_below v b k h s =
    let n : k + 1 ≡ suc k = omega arith in
    let e : 256 ^ (k + 1) ≡ 256 ^ k * 256 = ap (λ (n : ℕ). 256 ^ n) n ∙ pow-suc 256 k in
    let i : b * 256 ^ k ≤ 255 * 256 ^ k = mul-le-mul_right (256 ^ k) (omega arith) in
    omega arith

-- nothing is left above the first k bytes exactly where the number is below 256 ^ k
pub below : (v k : ℕ) → eqb (v / 2 ^ (k * 8)) 0 ≡ ltb v (256 ^ k)
below v k = go (ltb v (256 ^ k)) refl
  where
    go : (b : Bool) → ltb v (256 ^ k) ≡ b → eqb (v / 2 ^ (k * 8)) 0 ≡ ltb v (256 ^ k)
    go true q = eq-eqb _ _ (div-eq_of_lt (subst (λ (p : ℕ). v < p) (pow256 k) (ltb-true _ _ q))) ∙ sym q
    go false q = ne_eqb _ _ (λ z. no z (ltb-false _ _ q)) ∙ sym q
      where
        no : v / 2 ^ (k * 8) ≡ 0 → 256 ^ k ≤ v → ⊥
        no z h =
            let l : v / 2 ^ (k * 8) < 1 = omega arith in
            let m : v < 1 * 2 ^ (k * 8) = (div-lt_iff_lt-mul (pow_pos (k * 8))).0 l in
            let e : 256 ^ k ≡ 2 ^ (k * 8) = pow256 k in
            omega (arith, one-mul (2 ^ (k * 8)))
