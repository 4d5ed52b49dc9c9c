-- `copier::Copier::carry`: what is owed fits or fills the buffer.
use native.Mathlib.Omega.{arith}
use lib.ListN.{drop, length-drop}
use Rattle.putting.proofs.Writes.{reached_is}
use Rattle.output.specs.Output.{output_bytes}
use Rattle.copier.proofs.Calls.{ready_within, carry_full, carry_runs}
use Rattle.copier.proofs.Copier.carry.Goals as goal

pub overflow_sub-room : goal.overflow_sub-room
overflow_sub-room c = ready_within c.args.self _ c.requires.1

pub overflow_sub-result : goal.overflow_sub-result
overflow_sub-result c = let r = reached_is c.args.buf.now c.args.self.writer.offset (drop c.args.self.place (output_bytes c.output-output.result)) in omega arith

pub overflow_add-result : goal.overflow_add-result
overflow_add-result c = let r = reached_is c.args.buf.now c.args.self.writer.offset (drop c.args.self.place (output_bytes c.output-output.result)) in let d = length-drop c.args.self.place (output_bytes c.output-output.result) in record { fits = omega arith }

pub overflow_cast-result : goal.overflow_cast-result
overflow_cast-result c = let r = reached_is c.args.buf.now c.args.self.writer.offset (drop c.args.self.place (output_bytes c.output-output.result)) in let d = length-drop c.args.self.place (output_bytes c.output-output.result) in record { fits = omega arith }

pub returns-then-room-place : goal.returns-then-room-place
returns-then-room-place c = carry_full c.args.self c.args.chunk.now c.args.buf.now c.put-end.result c.len-len.result _ c.output-output.result c.output-output.ensures c.len-len.ensures.0 c.put-end.ensures c.requires.0.1 c.if-room-place.true

pub run-requires : goal.run-requires
run-requires c = c.requires.0

pub returns : goal.returns
returns c = carry_runs c.args.self c.args.chunk.now c.args.buf.now c.put-end.result c.len-len.result _ c.output-output.result c.output-output.ensures c.len-len.ensures.0 c.put-end.ensures c.requires c.if-room-place.false c.run.result c.run.new.buf c.run.ensures
