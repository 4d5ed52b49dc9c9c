-- `own::fixlen_at` meets its contract: a float, or a string or blob.
use Rattle.std.proofs.lemmas.Option.{IfSome_then}
use mathlib.Core.Path.{◌≡◌}
use mathlib.Core.Logic.{◌⊎◌}
use borrow.Author.Rules.{rules}
use Rattle.types.specs.declared.FixlenType.TheVariants as Fix
use Rattle.own.proofs.Parts.{float_ends, text_ends}
use Rattle.own.proofs.fixlen_at.Goals as goal

pub returns-in-Some : goal.returns-in-Some
returns-in-Some c = IfSome_then _ c.jump.ensures (λ r j. float_ends _ (λ k. (c.type_inv.t k).fits) c.in_ok-word.ensures c.in-Some.ensures.float j)

pub returns-in-Ok-Str : goal.returns-in-Ok-Str
returns-in-Ok-Str c =
    let s : (c.in-Ok-Str.field-0 ≡ Fix.Str) ⊎ (c.in-Ok-Str.field-0 ≡ Fix.Blob) = search rules in
    IfSome_then _ c.jump-in-Ok-Str.ensures (λ r j. text_ends _ (λ k. (c.type_inv.t k).fits) c.in_ok-word.ensures c.in-Ok-Str.field-0 s c.in-Ok-Str.ensures c.if-n.true j)
