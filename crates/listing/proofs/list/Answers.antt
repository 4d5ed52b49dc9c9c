-- `listing::list`.
use Rattle.std.proofs.Common.{rules, ◌≡◌, Ok}
use Rattle.layout.specs.Limits.{base}
use Rattle.call_end.specs.declared.Answer.TheVariants.{Event}
use Rattle.reading.proofs.Ends.{read_few, read_nearer}
use Rattle.listing.proofs.list.Goals as goal

pub loop-outlet-smaller : goal.loop-outlet-smaller
loop-outlet-smaller g c =
    let a : c.lent-told.result.answer ≡ Ok (Event c.in-Ok-Event.e) = search rules in
    read_nearer base c.loop-outlet.stream c.loop-outlet.rest.now c.lent-told.result c.in-Ok-Event.e c.lent-told.ensures a

pub slice_bounds-rest-start : goal.slice_bounds-rest-start
slice_bounds-rest-start g c = read_few base _ _ _ c.lent-told.ensures

pub slice_bounds-rest-count : goal.slice_bounds-rest-count
slice_bounds-rest-count g c = read_few base _ _ _ c.lent-told.ensures
