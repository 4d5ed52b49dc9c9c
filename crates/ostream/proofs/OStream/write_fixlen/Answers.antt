-- `ostream::OStream::write_fixlen`: the string subtype is refused, any other goes on.
use mathlib.Core.List.{[], ◌∷◌}
use mathlib.Core.Path.{refl, sym, ◌∙◌}
use lib.ListN.{length}
use Rattle.refusals.specs.Judged.{judged}
use Rattle.refusals.specs.Tests.{string_subtype, id_too_large, payload_too_long}
use Rattle.checks.proofs.Checks.{check_passes}
use Rattle.ostream.proofs.Calls.{refuses, recalled, without}
use Rattle.ostream.specs.Calls.{fixlen_call, unsound}
use Rattle.ostream.proofs.OStream.write_fixlen.Goals as goal

pub returns-in-Err : goal.returns-in-Err
returns-in-Err c = refuses _ _ _ _ _ _ (sym (rw c.sound.ensures at c.check_fixlen.ensures) ∙ c.in-Err.is) c.refuse.ensures

pub returns : goal.returns
returns c =
    let v = check_passes (judged (fixlen_call c.args.self (length c.args.buf.now) c.args.id c.args.bytes.now c.args.subtype).tests) (sym (rw c.sound.ensures at c.check_fixlen.ensures) ∙ c.in_default.is) in
    c.write_fixlen_raw.ensures
    ∙ recalled _ _ _ _ _ (without (unsound c.args.self (length c.args.buf.now)) (string_subtype c.args.subtype) (id_too_large c.args.id ∷ payload_too_long (length c.args.bytes.now) ∷ []) v ∙ sym v) refl refl
