-- `shown::shown_of`.
use mathlib.Core.Path.{◌≡◌, sym, ap, ◌∙◌}
use mathlib.Core.List.{List, ◌++◌, ◌∷◌, []}
use Prim.Native.Nat.{ℕ}
use lib.IntN.{ℤ}
use mir.Syntax.{w64}
use mir.Val.{of_z, to_z}
use Rattle.event.specs.declared.Event.{Event}
use Rattle.event.specs.Event.{event_of}
use Rattle.event_list.specs.Lines.{decimal, signed, lines_of}
use Rattle.shown.specs.Spelled.{lined, shown_text}
use Rattle.shown.specs.declared.Part.TheVariants.{Number, Bits32, Bits64}
use Rattle.std.specs.Prelude.{None, Some}
use borrow.Author.Rules.{rules}
use Rattle.shown.proofs.shown_of.Goals as goal

-- the lines of an event that is known
shows : (c : List ℕ) (e e' : Event) → e ≡ e' → lines_of (event_of c e') ≡ lines_of (event_of c e)
shows c e e' p = sym (ap (λ (x : Event). lines_of (event_of c x)) p)

pub returns-in-Unsigned : goal.returns-in-Unsigned
returns-in-Unsigned c c' = ap (shown_text c') c.with_id.ensures ∙ shows c' _ _ c.in-Unsigned.is

pub returns-in-Signed : goal.returns-in-Signed
returns-in-Signed c c' =
    let f : to_z w64 (of_z w64 (c.in-Signed.v)) ≡ (c.in-Signed.v) = search rules in
    ap (shown_text c') c.with_id-in-Signed.ensures ∙ ap (λ (t : List ℕ). 83 ∷ ((32 ∷ decimal c.in-Signed.id) ++ (t ++ (10 ∷ [])))) c.signed_part.ensures
    ∙ ap (λ (v : ℤ). 83 ∷ ((32 ∷ decimal c.in-Signed.id) ++ ((32 ∷ signed v) ++ (10 ∷ [])))) f ∙ shows c' _ _ c.in-Signed.is

pub returns-in-Fp32 : goal.returns-in-Fp32
returns-in-Fp32 c c' = ap (shown_text c') c.with_id-in-Fp32.ensures ∙ ap (λ (n : ℕ). shown_text c' (lined 70 c.in-Fp32.id (Some (Bits32 n)) None)) c.fp32_bits.ensures ∙ shows c' _ _ c.in-Fp32.is

pub returns-in-Fp32Nan : goal.returns-in-Fp32Nan
returns-in-Fp32Nan c c' = ap (shown_text c') c.with_id-in-Fp32Nan.ensures ∙ shows c' _ _ c.in-Fp32Nan.is

pub returns-in-Fp64 : goal.returns-in-Fp64
returns-in-Fp64 c c' = ap (shown_text c') c.with_id-in-Fp64.ensures ∙ ap (λ (n : ℕ). shown_text c' (lined 68 c.in-Fp64.id (Some (Bits64 n)) None)) c.fp64_bits.ensures ∙ shows c' _ _ c.in-Fp64.is

pub returns-in-Fp64Nan : goal.returns-in-Fp64Nan
returns-in-Fp64Nan c c' = ap (shown_text c') c.with_id-in-Fp64Nan.ensures ∙ shows c' _ _ c.in-Fp64Nan.is

pub returns-in-Fixlen : goal.returns-in-Fixlen
returns-in-Fixlen c c' = ap (shown_text c') c.with_id-in-Fixlen.ensures ∙ ap (λ (n : ℕ). shown_text c' (lined 80 c.in-Fixlen.id (Some (Number n)) (Some (Number c.in-Fixlen.total)))) c.raw.ensures ∙ shows c' _ _ c.in-Fixlen.is

pub returns-in-Array : goal.returns-in-Array
returns-in-Array c c' = ap (shown_text c') c.with_id-in-Array.ensures ∙ ap (λ (n : ℕ). shown_text c' (lined 65 c.in-Array.id (Some (Number n)) (Some (Number c.in-Array.count)))) c.raw-in-Array.ensures ∙ shows c' _ _ c.in-Array.is

pub returns-in-Begin : goal.returns-in-Begin
returns-in-Begin c c' = ap (shown_text c') c.with_id-in-Begin.ensures ∙ shows c' _ _ c.in-Begin.is

pub returns-in-End : goal.returns-in-End
returns-in-End c c' = ap (shown_text c') c.close.ensures ∙ shows c' _ _ c.in-End.is
