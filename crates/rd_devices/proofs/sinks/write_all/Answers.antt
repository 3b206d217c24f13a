use Rattle.std.proofs.lemmas.Grind.{common_steps}
use Rattle.std.proofs.lemmas.List.{take-append-drop, take_rest}
use Rattle.std.proofs.Common.{take, drop, arith, length-drop}
use Rattle.std.proofs.Math.Seq.{take-add}
use Rattle.std.proofs.KnownBytes.{Appends-kept}
use Rattle.std.specs.Prelude.{OnErr}
use Rattle.rd_devices.specs.Device.{TakesBeginning}
use Rattle.rd_devices.proofs.ResultLemmas.{passed_up}
use Rattle.rd_devices.proofs.sinks.write_all.Goals as goal

pub loop-done-preserved : goal.loop-done-preserved
loop-done-preserved g c = grind (arith, common_steps, take_rest, take-add, length-drop)

pub returns-in_err-done-clause-err : goal.returns-in_err-done-clause-err
returns-in_err-done-clause-err g c = passed_up (λ r. OnErr r (TakesBeginning (g.K.Sink.contents c.args.writer.now) (g.K.Sink.contents c.take_some.new.self) c.args.text.now)) c.in_err-done.field-0.0 c.from_residual.result c.from_residual.ensures.1 (record {
  part = take c.loop-done.done c.args.text.now;
  took = Appends-kept _ _ _ _ c.loop-done.invariant.took c.in_err-done.ensures.keeps;
  begins = (drop c.loop-done.done c.args.text.now, take-append-drop c.loop-done.done c.args.text.now);
})
