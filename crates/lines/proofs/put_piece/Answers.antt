-- `lines::put_piece`.
use mathlib.Core.Path.{◌≡◌, ap, ◌∙◌}
use mathlib.Core.List.{List}
use Prim.Native.Nat.{ℕ, min}
use lib.ListN.{length}
use lib.Seq.{slice}
use Rattle.layout.specs.Field.{each}
use Rattle.event_list.specs.Lines.{byte_line}
use Rattle.putting.proofs.Turns.{says}
use Rattle.lines.proofs.Texts.{clipped, part_is}
use Rattle.lines.proofs.put_piece.Goals as goal

within : (f t from to : ℕ) (l : List ℕ) → from ≡ min f to → to ≡ min t (length l) → slice from to l ≡ slice f t l
within f t from to l p q =
    ap (λ (k : ℕ). slice k to l) p ∙ ap (λ (k : ℕ). slice (min f k) k l) q ∙ clipped f t l

pub returns : goal.returns
returns c =
    let f : (c.min-from.result) ≡ min c.args.b.from (c.min-to.result) = c.min-from.ensures in
    let t : (c.min-to.result) ≡ min c.args.b.to (length (c.args.chunk.now)) = c.min-to.ensures in
    says _ _ _ _ _ _ (ap (each byte_line) (part_is (c.min-from.result) (c.min-to.result) (c.args.chunk.now) ∙ within _ _ (c.min-from.result) (c.min-to.result) (c.args.chunk.now) f t)) c.put_bytes.ensures
