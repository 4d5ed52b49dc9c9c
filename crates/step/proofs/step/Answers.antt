-- `step::step` meets its contract, phase by phase.
use mathlib.Core.Path.{sym, ap, ◌∙◌}
use borrow.Author.Rules.{rules}
use Rattle.layout.specs.Limits.{base}
use Rattle.machine.specs.Machine.{in_header, in_unsigned, in_signed, in_word, in_unsigned_count, in_signed_count, in_float_count, in_array_word, at_header, at_unsigned, at_signed, at_word, at_unsigned_count, at_signed_count, at_float_count, at_array_word, step}
use Rattle.phase.specs.declared.Phase.{Phase}
use Rattle.phase.specs.Phases.{state_at}
use Rattle.phase.specs.Steps.{stepped, step_on}
use Rattle.step.proofs.step.Goals as goal

pub returns-in-Header : goal.returns-in-Header
unfolding step
returns-in-Header c =
    c.varint.ensures (in_header) (at_header base c.args.carried.depth) (λ x q h. search rules) (λ v q l h. search rules)
    ∙ sym (ap (λ (p : Phase). stepped (step_on base (state_at c.args.carried.depth p) c.args.b)) c.in-Header.is)

pub returns-in-Unsigned : goal.returns-in-Unsigned
unfolding step
returns-in-Unsigned c =
    c.varint-in-Unsigned.ensures (in_unsigned c.in-Unsigned.id c.in-Unsigned.left) (at_unsigned c.args.carried.depth c.in-Unsigned.id c.in-Unsigned.left) (λ x q h. search rules) (λ v q l h. search rules)
    ∙ sym (ap (λ (p : Phase). stepped (step_on base (state_at c.args.carried.depth p) c.args.b)) c.in-Unsigned.is)

pub returns-in-Signed : goal.returns-in-Signed
unfolding step
returns-in-Signed c =
    c.varint-in-Signed.ensures (in_signed c.in-Signed.id c.in-Signed.left) (at_signed c.args.carried.depth c.in-Signed.id c.in-Signed.left) (λ x q h. search rules) (λ v q l h. search rules)
    ∙ sym (ap (λ (p : Phase). stepped (step_on base (state_at c.args.carried.depth p) c.args.b)) c.in-Signed.is)

pub returns-in-Word : goal.returns-in-Word
unfolding step
returns-in-Word c =
    c.varint-in-Word.ensures (in_word c.in-Word.id) (at_word base c.args.carried.depth c.in-Word.id) (λ x q h. search rules) (λ v q l h. search rules)
    ∙ sym (ap (λ (p : Phase). stepped (step_on base (state_at c.args.carried.depth p) c.args.b)) c.in-Word.is)

pub returns-in-UnsignedCount : goal.returns-in-UnsignedCount
unfolding step
returns-in-UnsignedCount c =
    c.varint-in-UnsignedCount.ensures (in_unsigned_count c.in-UnsignedCount.id) (at_unsigned_count base c.args.carried.depth c.in-UnsignedCount.id) (λ x q h. search rules) (λ v q l h. search rules)
    ∙ sym (ap (λ (p : Phase). stepped (step_on base (state_at c.args.carried.depth p) c.args.b)) c.in-UnsignedCount.is)

pub returns-in-SignedCount : goal.returns-in-SignedCount
unfolding step
returns-in-SignedCount c =
    c.varint-in-SignedCount.ensures (in_signed_count c.in-SignedCount.id) (at_signed_count base c.args.carried.depth c.in-SignedCount.id) (λ x q h. search rules) (λ v q l h. search rules)
    ∙ sym (ap (λ (p : Phase). stepped (step_on base (state_at c.args.carried.depth p) c.args.b)) c.in-SignedCount.is)

pub returns-in-FloatCount : goal.returns-in-FloatCount
unfolding step
returns-in-FloatCount c =
    c.varint-in-FloatCount.ensures (in_float_count c.in-FloatCount.id) (at_float_count base c.args.carried.depth c.in-FloatCount.id) (λ x q h. search rules) (λ v q l h. search rules)
    ∙ sym (ap (λ (p : Phase). stepped (step_on base (state_at c.args.carried.depth p) c.args.b)) c.in-FloatCount.is)

pub returns-in-ArrayWord : goal.returns-in-ArrayWord
unfolding step
returns-in-ArrayWord c =
    c.varint-in-ArrayWord.ensures (in_array_word c.in-ArrayWord.id c.in-ArrayWord.count) (at_array_word c.args.carried.depth c.in-ArrayWord.id c.in-ArrayWord.count) (λ x q h. search rules) (λ v q l h. search rules)
    ∙ sym (ap (λ (p : Phase). stepped (step_on base (state_at c.args.carried.depth p) c.args.b)) c.in-ArrayWord.is)
