-- `fields::put_marker`: two segments.
use native.Mathlib.Omega.{arith}
use lib.ListN.{length-append}
use Rattle.layout.specs.Limits.{base}
use Rattle.layout.specs.Varint.{shortest}
use Rattle.varint.proofs.Shortest.{length-longest}
use Rattle.emit.proofs.Segments.{joined}
use Rattle.held.specs.Headers.{headers_of}
use Rattle.held.proofs.Ends.{ended}
use Rattle.fields.proofs.put_marker.Goals as goal

pub overflow_add-total : goal.overflow_add-total
overflow_add-total c =
    let h = length-longest base c.args.header c.ranges.header.fits in
    record { fits = omega arith }

pub returns : goal.returns
returns c =
    let n = length-append (headers_of c.args.held.count c.args.held.places) (shortest c.args.header) in
    ended _ _ _ _ _ (joined _ _ _ _ _ _ _ _ c.put-behind.ensures c.put_varint.ensures) _ _ (omega arith) c.finish.ensures
