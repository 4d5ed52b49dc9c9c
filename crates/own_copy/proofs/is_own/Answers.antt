-- `own_copy::is_own` meets its contract: whole fields in their shortest form to the end, at depth 0 there.
use borrow.Author.Tests.{eqb-true}
use Rattle.own_copy.proofs.Own.{own_whole}
use Rattle.own_copy.proofs.is_own.Goals as goal

pub returns-then-run-ticket : goal.returns-then-run-ticket
returns-then-run-ticket c = λ e. own_whole _ _ _ c.fields-run.ensures.1 c.if-run-ticket.true (eqb-true _ _ e)
