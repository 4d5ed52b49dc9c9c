-- `payload::PayloadAcc::feed`: a state that has forgotten, or not, holds no more than before.
use Rattle.payload.specs.Words.{state_of}
use Rattle.gathering.proofs.Cases.{begun-within}
use Rattle.payload.proofs.PayloadAcc.feed.Goals as goal

pub accept-requires : goal.accept-requires
accept-requires c = begun-within (state_of c.args.self) _ c.args.offset _ c.begin-acc.ensures c.if-buf-held.false
