-- `drain_count::drains_of` meets its contract: 18 before the message is looked at, then by its length.
use Rattle.drain_count.proofs.Answers.{none-refused, len_counted, stop_counted}
use Rattle.drain_count.proofs.drains_of.Goals as goal

pub returns-then-buffer-eq0 : goal.returns-then-buffer-eq0
returns-then-buffer-eq0 c = none-refused _ _ c.if-buffer-eq0.true

pub returns-in_err-len : goal.returns-in_err-len
returns-in_err-len c = stop_counted c.if-buffer-eq0.false _ c.in_err-len.ensures c.from_residual.ensures

pub returns : goal.returns
returns c = len_counted c.if-buffer-eq0.false c.in_ok-len.ensures c.rounded_up-count.ensures
