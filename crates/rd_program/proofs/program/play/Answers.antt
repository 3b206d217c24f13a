use Rattle.std.proofs.Common.{Ok, Err}
use Rattle.rd_marks.specs.AnyBook.{any_journal, any_state}
use Rattle.rd_devices.specs.Streams.{devices}
use Rattle.rd_program.specs.declared.faults.ProgramFault.TheVariants.{Script, Trace}
use Rattle.rd_program.specs.Program.{PlaysOver}
use Rattle.rd_devices.proofs.ResultLemmas.{passed_up}
use Rattle.rd_program.proofs.ProgramLemmas.{ran_to_trace}
use Rattle.rd_program.proofs.program.play.Goals as goal

pub returns-in_err-lines : goal.returns-in_err-lines
returns-in_err-lines g c = record {
  plays = passed_up (PlaysOver (any_state c.args.book.now) (any_state c.run_any_book.new.book) (any_journal c.run_any_book.new.book) c.args.trace _) (Script c.in_err-lines.field-0.0) c.from_residual.result
      c.from_residual.ensures.1 c.in_err-lines.ensures.runs;
}

pub returns-in_err-write_trace_if_asked : goal.returns-in_err-write_trace_if_asked
returns-in_err-write_trace_if_asked g c =
    let d = devices g.S.Source g.K.Sink c.args.reader.now c.run_any_book.new.reader c.args.writer.now c.write_trace_if_asked.new.writer in
    let kept = any_journal c.run_any_book.new.book in
    let fault = c.in_err-write_trace_if_asked.field-0.0 in
    let ran = ran_to_trace _ _ kept c.args.trace d _ _ c.in_ok-lines.lines (Err fault) c.in_ok-lines.ensures.runs c.in_err-write_trace_if_asked.ensures in
    record {
      plays = passed_up (PlaysOver (any_state c.args.book.now) (any_state c.run_any_book.new.book) kept c.args.trace d) (Trace fault) c.from_residual-in_err-write_trace_if_asked.result
          c.from_residual-in_err-write_trace_if_asked.ensures.1 (c.in_ok-lines.lines, ran);
    }

pub returns : goal.returns
returns g c =
    let d = devices g.S.Source g.K.Sink c.args.reader.now c.run_any_book.new.reader c.args.writer.now c.write_trace_if_asked.new.writer in
    record {
      plays = ran_to_trace _ _ (any_journal c.run_any_book.new.book) c.args.trace d _ _ c.in_ok-lines.lines (Ok tt) c.in_ok-lines.ensures.runs c.in_ok-write_trace_if_asked.ensures;
    }
