-- `tour::read`.
use Rattle.std.proofs.Common.{rules, ◌≡◌, Ok}
use Rattle.layout.specs.Limits.{base}
use Rattle.call_end.specs.declared.Answer.TheVariants.{Event}
use Rattle.reading.proofs.Ends.{read_few, read_nearer}
use Rattle.tour.proofs.read.Goals as goal

pub loop-event-smaller : goal.loop-event-smaller
loop-event-smaller g c =
    let a : c.feed-fed.result.answer ≡ Ok (Event c.in-Ok-Event.event) = search rules in
    read_nearer base c.loop-event.reader c.loop-event.rest.now c.feed-fed.result c.in-Ok-Event.event c.feed-fed.ensures a

pub slice_bounds-rest-start : goal.slice_bounds-rest-start
slice_bounds-rest-start g c = read_few base _ _ _ c.feed-fed.ensures

pub slice_bounds-rest-count : goal.slice_bounds-rest-count
slice_bounds-rest-count g c = read_few base _ _ _ c.feed-fed.ensures
