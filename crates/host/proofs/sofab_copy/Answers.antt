-- `host::sofab_copy` meets its contract: the message itself, where that is its copy; else a number for a verdict that is not complete, and
-- nothing written; else the copy.
use mathlib.Core.Path.{◌≡◌, ap, ◌∙◌}
use lib.IntN.{ℤ}
use mir.Syntax.{w64}
use mir.Val.{to_z, of_z}
use Rattle.exports.specs.Exports.{result_of}
use Rattle.host.proofs.Numbers.{not_copied, as_complete}
use Rattle.host.proofs.Own.{own_copied}
use borrow.Author.Rules.{rules}
use Rattle.host.proofs.sofab_copy.Goals as goal

pub returns-then-is_own : goal.returns-then-is_own
returns-then-is_own c = let f : to_z w64 (of_z w64 c.block.result) ≡ c.block.result = search rules in ap (λ (x : ℤ). result_of x c.block.new.out) f ∙ c.block.ensures ∙ own_copied _ _ _ _ (c.is_own.ensures c.if-is_own.true)

pub returns-in-Some : goal.returns-in-Some
returns-in-Some c =
    let f : to_z w64 (of_z w64 c.in-Some.n) ≡ c.in-Some.n = search rules in
    ap (λ (x : ℤ). result_of x c.args.out.now) f ∙ not_copied _ _ _ (c.in-Some.ensures _ c.verdict_of.ensures)

pub copy-requires : goal.copy-requires
copy-requires c = c.in_default.ensures _ c.verdict_of.ensures

pub returns : goal.returns
returns c =
    let f : to_z w64 (of_z w64 c.copy.result) ≡ c.copy.result = search rules in
    ap (λ (x : ℤ). result_of x c.copy.new.out) f ∙ c.copy.ensures ∙ as_complete _ _ _ (c.in_default.ensures _ c.verdict_of.ensures)
