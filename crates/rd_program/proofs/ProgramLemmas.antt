-- A script's run over a book, and the trace after its report.
use Rattle.std.proofs.Common.{ℕ, Bool, List, Option, Result}
use Rattle.rd_journal.specs.Journal.{Journal}
use Rattle.rd_marks.specs.BookState.{BookState}
use Rattle.rd_devices.specs.Streams.{Devices}
use Rattle.rd_script.specs.Script.{RanToEnd}
use Rattle.rd_trace.specs.declared.faults.TraceFault.{TraceFault}
use Rattle.rd_program.specs.Program.{WritesTraceIfAsked, RanToTrace}

-- a run that came to its end, and then its trace if it was asked for, are a `RanToTrace`
pub ran_to_trace : (before after : BookState) (kept : Journal) (traced : Bool) (d : Devices) (reported : Option (List ℕ)) (failed : Bool) (n : ℕ) (written : Result (Unit {0}) TraceFault)
    → RanToEnd before after kept (record d { output = record d.output { after = reported; failed = failed } }) n
    → WritesTraceIfAsked traced after (record d.output { before = reported }) written → RanToTrace before after kept traced d n written
ran_to_trace before after kept traced d reported failed n written ran trace = record { reported = reported; ran = rw ran.out_works at ran; trace = trace }
