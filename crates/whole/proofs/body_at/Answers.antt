-- `whole::body_at` meets its contract, type by type.
use mathlib.Core.Path.{ap}
use borrow.Author.Rules.{rules}
use Rattle.layout.specs.Field.{wire_of}
use Rattle.whole.proofs.Fields.{opens, opens_not, closes, closes_not}
use Rattle.whole.proofs.body_at.Goals as goal

pub returns-in-6 : goal.returns-in-6
returns-in-6 g c n k = (_, opens c.args.h _ n _ (ap wire_of c.in-6.is) c.if-depth-lt-MAX_DEPTH.true, c.headed-headed.ensures n k)

pub returns-in-6-2 : goal.returns-in-6-2
returns-in-6-2 g c n k = opens_not c.args.h _ n _ (ap wire_of c.in-6.is) c.if-depth-lt-MAX_DEPTH.false

pub returns-in-7 : goal.returns-in-7
returns-in-7 g c n k = (_, closes c.args.h _ n _ (ap wire_of c.in-7.is) c.if-depth-gt0.true, c.headed.ensures n k)

pub returns-in-7-2 : goal.returns-in-7-2
returns-in-7-2 g c n k = closes_not c.args.h _ n _ (ap wire_of c.in-7.is) (search rules)
