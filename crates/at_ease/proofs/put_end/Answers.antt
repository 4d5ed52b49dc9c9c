-- `at_ease::put_end`: one byte.
use mathlib.Core.List.{[], ◌∷◌}
use mathlib.Core.Bool.{◌&&◌}
use lib.ListN.{length}
use lib.Dec.{ltb}
use borrow.Author.Tests.{le-ltb, lt-ltb}
use Rattle.putting.proofs.Writes.{put_one, reached_one}
use Rattle.places.specs.Places.{clean}
use Rattle.at_ease.proofs.AtOnce.{no_first, no_second, yes_both, fails, passes, made, unmade}
use Rattle.at_ease.proofs.put_end.Goals as goal

pub returns-then-buf-pos : goal.returns-then-buf-pos
returns-then-buf-pos c = unmade (ltb c.args.pos (length c.args.buf.now) && clean c.args.places) c.args.buf.now c.args.pos (7 ∷ []) (no_first _ _ (le-ltb _ _ c.if-buf-pos.true))

pub returns-then-not-unused_zero : goal.returns-then-not-unused_zero
returns-then-not-unused_zero c =
    unmade (ltb c.args.pos (length c.args.buf.now) && clean c.args.places) c.args.buf.now c.args.pos (7 ∷ []) (no_second _ _ (lt-ltb _ _ c.if-buf-pos.false) (fails _ _ c.unused_zero.ensures c.if-not-unused_zero.true-raw))

pub returns : goal.returns
returns c =
    made (ltb c.args.pos (length c.args.buf.now) && clean c.args.places) c.args.buf.now c.args.pos (7 ∷ []) _ _ (yes_both _ _ (lt-ltb _ _ (c.if-buf-pos.false)) (passes _ _ c.unused_zero.ensures c.if-not-unused_zero.false-raw)) (reached_one _ _ 7 (c.if-buf-pos.false), put_one _ _ 7 (c.if-buf-pos.false))
