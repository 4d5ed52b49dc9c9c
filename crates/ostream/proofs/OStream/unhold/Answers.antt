-- `ostream::OStream::unhold`: the places and the numbers.
use Prim.Native.Nat.{ℕ, ◌-◌}
use mathlib.Core.List.{List}
use mathlib.Core.Path.{ap, ◌∙◌}
use lib.ListN.{set}
use Rattle.ostream.specs.Stream.{dropped}
use Rattle.ostream.proofs.OStream.unhold.Goals as goal

pub returns : goal.returns
unfolding dropped
returns c =
    ap (λ (l : List ℕ). record { offset = c.args.self.offset; depth = c.saturating_sub-2.result; pending = l; npending = c.saturating_sub.result }) c.drop_id-fewer.ensures
    ∙ ap (λ (n : ℕ). record { offset = c.args.self.offset; depth = c.saturating_sub-2.result; pending = set c.args.self.pending (c.args.self.npending - 1) 0; npending = n }) c.saturating_sub.ensures
    ∙ ap (λ (n : ℕ). record { offset = c.args.self.offset; depth = n; pending = set c.args.self.pending (c.args.self.npending - 1) 0; npending = c.args.self.npending - 1 }) c.saturating_sub-2.ensures
