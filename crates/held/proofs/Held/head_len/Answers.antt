-- `held::Held::head_len`: three lengths, none of which is large.
use mathlib.Core.List.{◌++◌}
use native.Mathlib.Omega.{arith}
use lib.ListN.{length-append}
use Rattle.layout.specs.Limits.{base}
use Rattle.layout.specs.Varint.{shortest}
use Rattle.varint.proofs.Shortest.{length-longest}
use Rattle.held.specs.Headers.{headers_of}
use Rattle.held.proofs.Held.head_len.Goals as goal

pub overflow_add-result : goal.overflow_add-result
overflow_add-result c =
    let h = length-longest base c.args.header c.ranges.header.fits in
    record { fits = omega arith }

pub overflow_add-result-2 : goal.overflow_add-result-2
overflow_add-result-2 c =
    let g = length-longest base c.args.header c.ranges.header.fits in
    let h = length-longest base c.args.second c.ranges.second.fits in
    record { fits = omega arith }

pub returns : goal.returns
returns c =
    let g = length-longest base c.args.header c.ranges.header.fits in
    let h = length-longest base c.args.second c.ranges.second.fits in
    let m = length-append (headers_of c.args.self.count c.args.self.places) (shortest c.args.header ++ shortest c.args.second) in
    let n = length-append (shortest c.args.header) (shortest c.args.second) in
    (omega (arith, c.len.ensures.0), omega (arith, c.len.ensures.1))
