-- `output::Output::len`: the sum of the lengths of its varints.
use mir.Val.{Fits}
use mir.Syntax.{w64}
use mathlib.Core.Path.{sym, ap, ◌∙◌}
use mathlib.Core.List.{◌++◌}
use native.Mathlib.Omega.{arith}
use lib.ListN.{length, length-append}
use Rattle.layout.specs.Limits.{base}
use Rattle.layout.specs.Varint.{shortest}
use Rattle.varint.proofs.Shortest.{length-longest}
use Rattle.low_bytes.proofs.Low.{length_low}
use Rattle.output.specs.declared.Output.{Output}
use Rattle.output.specs.Output.{output_bytes}
use borrow.Author.Rules.{rules}
use Rattle.output.proofs.Output.len.Goals as goal

pub overflow_add-result : goal.overflow_add-result
overflow_add-result c = let l0 = (let f : Fits w64 c.in-Two.a = search rules in length-longest base c.in-Two.a f.fits) in let l1 = (let f : Fits w64 c.in-Two.b = search rules in length-longest base c.in-Two.b f.fits) in record { fits = omega arith }

pub overflow_add-result-in-Three : goal.overflow_add-result-in-Three
overflow_add-result-in-Three c = let l0 = (let f : Fits w64 c.in-Three.a = search rules in length-longest base c.in-Three.a f.fits) in let l1 = (let f : Fits w64 c.in-Three.b = search rules in length-longest base c.in-Three.b f.fits) in record { fits = omega arith }

pub overflow_add-result-in-Three-2 : goal.overflow_add-result-in-Three-2
overflow_add-result-in-Three-2 c = let l0 = (let f : Fits w64 c.in-Three.a = search rules in length-longest base c.in-Three.a f.fits) in let l1 = (let f : Fits w64 c.in-Three.b = search rules in length-longest base c.in-Three.b f.fits) in let l2 = (let f : Fits w64 c.in-Three.c = search rules in length-longest base c.in-Three.c f.fits) in record { fits = omega arith }

pub returns-in-One : goal.returns-in-One
returns-in-One c = let l0 = (let f : Fits w64 c.in-One.a = search rules in length-longest base c.in-One.a f.fits) in ((c.varint_len.ensures) ∙ sym (ap (λ (o : Output). length (output_bytes o)) c.in-One.is), omega arith)

pub returns-in-Two : goal.returns-in-Two
returns-in-Two c = let l0 = (let f : Fits w64 c.in-Two.a = search rules in length-longest base c.in-Two.a f.fits) in let l1 = (let f : Fits w64 c.in-Two.b = search rules in length-longest base c.in-Two.b f.fits) in let q = ap (λ (o : Output). length (output_bytes o)) c.in-Two.is ∙ length-append (shortest c.in-Two.a) (shortest c.in-Two.b) in (omega arith, omega arith)

pub returns-in-Three : goal.returns-in-Three
returns-in-Three c = let l0 = (let f : Fits w64 c.in-Three.a = search rules in length-longest base c.in-Three.a f.fits) in let l1 = (let f : Fits w64 c.in-Three.b = search rules in length-longest base c.in-Three.b f.fits) in let l2 = (let f : Fits w64 c.in-Three.c = search rules in length-longest base c.in-Three.c f.fits) in let q = ap (λ (o : Output). length (output_bytes o)) c.in-Three.is ∙ length-append (shortest c.in-Three.a) (shortest c.in-Three.b ++ shortest c.in-Three.c) in let w = length-append (shortest c.in-Three.b) (shortest c.in-Three.c) in (omega arith, omega arith)

pub returns-in-Four : goal.returns-in-Four
returns-in-Four c = (sym (ap (λ (o : Output). length (output_bytes o)) c.in-Four.is ∙ length_low 4 _), omega arith)

pub returns-in-Eight : goal.returns-in-Eight
returns-in-Eight c = (sym (ap (λ (o : Output). length (output_bytes o)) c.in-Eight.is ∙ length_low 8 _), omega arith)
