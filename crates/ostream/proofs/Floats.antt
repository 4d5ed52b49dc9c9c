-- A float field, from its bytes.
use mathlib.Core.Path.{◌≡◌, refl, ap, ◌∙◌}
use mathlib.Core.List.{List, ◌++◌}
use Prim.Native.Nat.{ℕ}
use lib.ListN.{length}
use Rattle.layout.specs.Field.{Width, fp32, fp64, bytes_of, float, header, word, low_bytes, t_fixlen}
use Rattle.layout.specs.Copy.{field_bytes}
use Rattle.types.specs.Types.{fixlen_type}
use Rattle.low_bytes.proofs.Low.{length_low}
use Rattle.ostream.specs.declared.OStream.{OStream}
use Rattle.ostream.specs.Stream.{held_bytes}
use Rattle.ostream.specs.Emission.{judged, written}
use Rattle.ostream.specs.Calls.{raw_call, float_call, fixlen_bytes}
use Rattle.ostream.proofs.Calls.{recalled}

-- of so many bytes, none is too long
judgement : (w : Width) (s : OStream) (size id x : ℕ) (bytes : List ℕ) → length bytes ≡ bytes_of w → judged (raw_call s size id bytes (fixlen_type (float w))).tests ≡ judged (float_call s size id w x).tests
judgement fp32 s size id x bytes e = simp e
judgement fp64 s size id x bytes e = simp e

output : (w : Width) (s : OStream) (size id x : ℕ) (bytes : List ℕ) → bytes ≡ low_bytes (bytes_of w) x
    → (raw_call s size id bytes (fixlen_type (float w))).output ≡ (float_call s size id w x).output
unfolding fixlen_bytes field_bytes
output fp32 s size id x bytes e =
    ap (λ (l : List ℕ). held_bytes s ++ (header id t_fixlen ++ (word (length l) (float fp32) ++ l))) e
    ∙ ap (λ (n : ℕ). held_bytes s ++ (header id t_fixlen ++ (word n (float fp32) ++ low_bytes 4 x))) (length_low 4 x)
output fp64 s size id x bytes e =
    ap (λ (l : List ℕ). held_bytes s ++ (header id t_fixlen ++ (word (length l) (float fp64) ++ l))) e
    ∙ ap (λ (n : ℕ). held_bytes s ++ (header id t_fixlen ++ (word n (float fp64) ++ low_bytes 8 x))) (length_low 8 x)

pub float_call_lem : (w : Width) (s : OStream) (b : List ℕ) (size place id x : ℕ) (bytes : List ℕ) → bytes ≡ low_bytes (bytes_of w) x
    → written (raw_call s size id bytes (fixlen_type (float w))) s b place ≡ written (float_call s size id w x) s b place
float_call_lem w s b size place id x bytes e = recalled _ _ s b place (judgement w s size id x bytes (ap length e ∙ length_low (bytes_of w) x)) (output w s size id x bytes e) refl
