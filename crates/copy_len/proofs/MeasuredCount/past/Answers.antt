-- `whole::Count::past` of a length meets its contract.
use Prim.Native.Nat.{◌+◌, ◌/◌}
use mathlib.Core.Path.{refl, ap, ◌∙◌}
use Rattle.layout.specs.Varint.{whole}
use Rattle.lengths.specs.Lengths.{point_of, varint_length}
use Rattle.whole.proofs.Fields.{header_of_lem}
use Rattle.copy_len.proofs.Fields.{added}
use Rattle.copy_len.proofs.MeasuredCount.past.Goals as goal

pub returns : goal.returns
returns c n d k = (
  n + varint_length c.args.h + c.in_ok-n.n,
  c.in_ok-n.ensures (c.args.h / 8) d n ∙ ap (λ m. whole (point_of d (n + m + c.in_ok-n.n)) c.in_ok-n.rest.now) (header_of_lem c.args.h),
  added (n + varint_length c.args.h) c.in_ok-n.n c.in_ok-n.n k refl,
)
