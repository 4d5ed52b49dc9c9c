-- `read_slowly::slowly` meets its contract: refused as unsound, a payload, an empty piece that is due, broken, or byte by byte.
use mathlib.Core.Path.{refl, sym, ap, ◌∙◌}
use native.Mathlib.Omega.{arith}
use mir.Syntax.{w8}
use mir.Val.{Fits}
use borrow.Author.Tests.{not-true, not-false}
use Rattle.layout.specs.Limits.{base}
use Rattle.phase.specs.declared.Phase.{Phase}
use Rattle.phase.specs.Phases.{state_at}
use Rattle.phase.proofs.Phases.{phase_is, at_bytes, at_bytes_live}
use Rattle.read_slowly.proofs.Ways.{call_end_sound, call_end_broken, call_end_unsound, owed-piece}
use borrow.Author.Rules.{rules}
use borrow.Enum.Refused.{opened}
use Rattle.read_slowly.proofs.slowly.Goals as goal

pub returns-then-not-sound : goal.returns-then-not-sound
returns-then-not-sound c =
    let f : Fits w8 c.args.carried.depth = search rules in
    c.unsound.ensures ∙ call_end_unsound base c.args.phase c.args.carried c.args.chunk.now (omega (arith, f.fits)) (sym c.sound.ensures ∙ not-true _ c.if-not-sound.true-raw)

pub scan-requires : goal.scan-requires
scan-requires c =
    let f : Fits w8 c.args.carried.depth = search rules in
    at_bytes base c.args.carried.depth c.args.phase (phase_is base c.args.carried.depth c.args.phase (omega (arith, f.fits)) (sym c.sound.ensures ∙ not-false _ c.if-not-sound.false-raw)) (opened c.in_default.in_default-own.keys4)

pub returns-in-Payload : goal.returns-in-Payload
returns-in-Payload c =
    c.payload.ensures ∙ call_end_sound base c.args.phase c.args.carried _ c.args.chunk.now (ap (λ (p : Phase). state_at c.args.carried.depth p) c.in-Payload.is) tt (sym c.sound.ensures ∙ not-false _ c.if-not-sound.false-raw)

pub returns-in-Empty : goal.returns-in-Empty
returns-in-Empty c =
    c.ended.ensures ∙ owed-piece base c.args.carried.depth c.in-Empty.id c.in-Empty.r c.args.chunk.now c.piece.result c.idle.result c.piece.ensures c.idle.ensures ∙ call_end_sound base c.args.phase c.args.carried _ c.args.chunk.now (ap (λ (p : Phase). state_at c.args.carried.depth p) c.in-Empty.is) tt (sym c.sound.ensures ∙ not-false _ c.if-not-sound.false-raw)

pub returns-in-Broken : goal.returns-in-Broken
returns-in-Broken c =
    c.ended-in-Broken.ensures ∙ call_end_broken base c.args.phase c.args.carried c.args.chunk.now c.in-Broken.is

pub returns-in_default : goal.returns-in_default
returns-in_default c =
    let f : Fits w8 c.args.carried.depth = search rules in
    let b = at_bytes base c.args.carried.depth c.args.phase (phase_is base c.args.carried.depth c.args.phase (omega (arith, f.fits)) (sym c.sound.ensures ∙ not-false _ c.if-not-sound.false-raw)) (opened c.in_default.in_default-own.keys4) in
    c.scan.ensures ∙ call_end_sound base c.args.phase c.args.carried (state_at c.args.carried.depth c.args.phase) c.args.chunk.now refl (at_bytes_live base (state_at c.args.carried.depth c.args.phase) b) (sym c.sound.ensures ∙ not-false _ c.if-not-sound.false-raw)
