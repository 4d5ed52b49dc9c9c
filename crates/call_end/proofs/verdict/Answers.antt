-- `call_end::verdict` meets its contract: within anything but a header.
use Rattle.call_end.proofs.Tests.{verdict_else}
use borrow.Enum.Refused.{opened}
use Rattle.call_end.proofs.verdict.Goals as goal

pub returns-in_default-3 : goal.returns-in_default-3
returns-in_default-3 c = verdict_else c.args.carried.depth c.args.phase (opened c.in_default.in_default-own.keys2)
