-- What is owed is the same event of the layout's however it is held, and its bytes are those that are written.
use Prim.Native.Nat.{ℕ, zero, suc, ◌+◌}
use mathlib.Core.Path.{◌≡◌, refl, sym, ap}
use mathlib.Core.Bool.{Bool, true, false, ◌&&◌}
use mathlib.Core.List.{[]}
use native.Mathlib.Omega.{arith}
use lib.ListN.{drop}
use lib.Dec.{leb, eqb}
use Rattle.layout.specs.Limits.{base}
use Rattle.layout.specs.Field.{fp32, fp64, string, blob, unsigneds, signeds, floats, bytes_of, float, raw}
use Rattle.layout.specs.Event as layout
use Rattle.laws.specs.Events.{event_bytes}
use Rattle.types.specs.declared.FloatType.TheVariants as Floats
use Rattle.types.specs.declared.RawType.TheVariants as Raws
use Rattle.types.specs.declared.ArrayKind.TheVariants as Kinds
use Rattle.copying.specs.Owed.{rest, level, legal, agrees}
use Rattle.output.specs.Output.{output_bytes}
use Rattle.output.proofs.Laws.{drop-none}
use Rattle.owed.specs.declared.Owed.{Owed}
use Rattle.owed.specs.declared.Owed.TheVariants.{Nothing, Unsigned, Signed, Element, SignedElement, Fp32, Fp64, Float, Payload, Array, Begin, End}
use Rattle.owed.specs.Owed.{owed_of, owe, owed_in, output_of, level_of, legal_of, place_is_in}

-- ---- there and back

pub owed_back : (o : Owed) (place : ℕ) → owed_in (owed_of o place) ≡ o
owed_back Nothing place = refl
owed_back (Unsigned id n) place = refl
owed_back (Signed id z) place = refl
owed_back (Element n) place = refl
owed_back (SignedElement z) place = refl
owed_back (Fp32 bits) place = refl
owed_back (Fp64 bits) place = refl
owed_back (Float id Floats.Fp32) place = refl
owed_back (Float id Floats.Fp64) place = refl
owed_back (Payload id Raws.Str total) place = refl
owed_back (Payload id Raws.Blob total) place = refl
owed_back (Array id Kinds.Unsigned n) place = refl
owed_back (Array id Kinds.Signed n) place = refl
owed_back (Array id Kinds.Fp32 n) place = refl
owed_back (Array id Kinds.Fp64 n) place = refl
owed_back (Begin id) place = refl
owed_back End place = refl

-- ---- bytes

-- the bytes that are still to go out of what is owed
pub spelled : (o : Owed) (place : ℕ) → rest (owed_of o place) ≡ drop place (output_bytes (output_of o))
unfolding rest event_bytes
spelled Nothing place = sym (drop-none place)
spelled (Unsigned id n) place = refl
spelled (Signed id z) place = refl
spelled (Element n) place = refl
spelled (SignedElement z) place = refl
spelled (Fp32 bits) place = refl
spelled (Fp64 bits) place = refl
spelled (Float id w) place = refl
spelled (Payload id r total) place = refl
spelled (Array id Kinds.Unsigned n) place = refl
spelled (Array id Kinds.Signed n) place = refl
spelled (Array id Kinds.Fp32 n) place = refl
spelled (Array id Kinds.Fp64 n) place = refl
spelled (Begin id) place = refl
spelled End place = refl

-- what the reader may give: a piece that is owed is empty, and a float is announced with its own length
abbrev pub Spelt : layout.Event → Type 0
Spelt (layout.Unsigned id n) = Unit {0}
Spelt (layout.Signed id z) = Unit {0}
Spelt (layout.Float id w x) = Unit {0}
Spelt (layout.Piece id r total o bs) = bs ≡ []
Spelt (layout.Fixlen id (float w) n) = n ≡ bytes_of w
Spelt (layout.Fixlen id (raw r) n) = Unit {0}
Spelt (layout.Array id k n) = Unit {0}
Spelt (layout.Begin id) = Unit {0}
Spelt layout.End = Unit {0}

pub spelled_event : (due : ℕ) (e : layout.Event) → Spelt e → event_bytes due e ≡ output_bytes (output_of (owe due e))
unfolding event_bytes
spelled_event zero (layout.Unsigned id n) h = refl
spelled_event (suc due) (layout.Unsigned id n) h = refl
spelled_event zero (layout.Signed id z) h = refl
spelled_event (suc due) (layout.Signed id z) h = refl
spelled_event due (layout.Float id fp32 x) h = refl
spelled_event due (layout.Float id fp64 x) h = refl
spelled_event due (layout.Piece id r total o bs) h = h
spelled_event due (layout.Fixlen id (float fp32) n) h = ap (λ (m : ℕ). event_bytes due (layout.Fixlen id (float fp32) m)) h
spelled_event due (layout.Fixlen id (float fp64) n) h = ap (λ (m : ℕ). event_bytes due (layout.Fixlen id (float fp64) m)) h
spelled_event due (layout.Fixlen id (raw string) n) h = refl
spelled_event due (layout.Fixlen id (raw blob) n) h = refl
spelled_event due (layout.Array id unsigneds n) h = refl
spelled_event due (layout.Array id signeds n) h = refl
spelled_event due (layout.Array id (floats fp32) n) h = refl
spelled_event due (layout.Array id (floats fp64) n) h = refl
spelled_event due (layout.Begin id) h = refl
spelled_event due layout.End h = refl

-- ---- sound

and_true : (x : Bool) → (x && true) ≡ x
and_true true = refl
and_true false = refl

-- the three tests, one after another
pub sound_parts : (r w : ℕ) (o : Owed) (place : ℕ) → agrees base r w (owed_of o place) ≡ (level_of r w o && (legal_of o && place_is_in o place))
unfolding agrees level legal event_bytes
sound_parts r w Nothing place = sym (and_true (eqb r w))
sound_parts r w (Unsigned id n) place = refl
sound_parts r w (Signed id z) place = refl
sound_parts r w (Element n) place = refl
sound_parts r w (SignedElement z) place = refl
sound_parts r w (Fp32 bits) place = refl
sound_parts r w (Fp64 bits) place = refl
sound_parts r w (Float id Floats.Fp32) place = ap (λ (x : Bool). eqb r w && (x && place_is_in (Float id Floats.Fp32) place)) (and_true (leb id base.id))
sound_parts r w (Float id Floats.Fp64) place = ap (λ (x : Bool). eqb r w && (x && place_is_in (Float id Floats.Fp64) place)) (and_true (leb id base.id))
sound_parts r w (Payload id t total) place = refl
sound_parts r w (Array id Kinds.Unsigned n) place = refl
sound_parts r w (Array id Kinds.Signed n) place = refl
sound_parts r w (Array id Kinds.Fp32 n) place = refl
sound_parts r w (Array id Kinds.Fp64 n) place = refl
sound_parts r w (Begin id) place = let e : suc w ≡ w + 1 = omega arith in ap (λ (x : ℕ). eqb r x && (leb id base.id && place_is_in (Begin id) place)) e
sound_parts r w End place = let e : suc r ≡ r + 1 = omega arith in ap (λ (x : ℕ). eqb x w && place_is_in End place) e
