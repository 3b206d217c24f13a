-- What `run` and `load` do: they run a script over a book, a fresh one or the book of a trace, and
-- write the session's trace after the report if it is asked for.
use Rattle.std.specs.Prelude.{◌≡◌, ◌⊎◌, ℕ, Bool, true, false, List, Option, Result, Ok, Err}
use Rattle.rd_journal.specs.Journal.{Journal}
use Rattle.rd_marks.specs.BookState.{BookState}
use Rattle.rd_devices.specs.Streams.{Devices, GetsNothing, IsUnused, Stream}
use Rattle.rd_script.specs.Script.{RanToEnd, RunsScript}
use Rattle.rd_trace.specs.declared.faults.TraceFault.{TraceFault}
use Rattle.rd_marks.specs.declared.any_book.AnyBook.{AnyBook}
use Rattle.rd_trace.specs.Writing.{WritesTrace}
use Rattle.rd_trace.specs.Loading.{LoadsTrace}
use Rattle.rd_program.specs.declared.faults.ProgramFault.{ProgramFault}
use Rattle.rd_program.specs.declared.faults.ProgramFault.TheVariants.{NoMemory, Read, Script, Trace}

-- the fault of a file that was not read whole: `NoMemory` if memory was refused, or `Read` if the
-- file could not be opened or its reader failed
abbrev pub IsReadOrNoMemory : ProgramFault → Type 0
IsReadOrNoMemory fault = (fault ≡ NoMemory) ⊎ (fault ≡ Read)

-- neither device was used
abbrev pub AreUnused : Devices → Type 0
AreUnused d = IsUnused d.input × IsUnused d.output

-- if the trace of a book in this state was asked for, it was written as `WritesTrace` says for the
-- result; else the result is `Ok`, and the output got nothing
abbrev pub WritesTraceIfAsked : Bool → BookState → Stream → Result (Unit {0}) TraceFault → Type 0
WritesTraceIfAsked true b output result = WritesTrace b output result
WritesTraceIfAsked false b output result = (result ≡ Ok tt) × GetsNothing false output

module _ (before after : BookState) (kept : Journal) (traced : Bool) (d : Devices) where
  -- a script of n lines ran to its end, and led a book from `before` to `after`, which keeps the
  -- journal `kept`. Its report was written; then, if the trace was asked for, writing it had the
  -- result `written`
  pub record RanToTrace (n : ℕ) (written : Result (Unit {0}) TraceFault) : Type 0 where
    -- what the writer had taken when the report was whole
    pub reported : Option (List ℕ)
    -- the run as far as the report, at which neither device had failed
    pub ran : RanToEnd before after kept (record d { output = record d.output { after = reported; failed = false } }) n
    -- what the writer got after the report
    pub trace : WritesTraceIfAsked traced after (record d.output { before = reported }) written

  -- what `run` and `load` did over a book, which went from `before` to `after` and keeps the journal
  -- `kept`, by the result. Either a script of n lines ran to its end, and the trace was written
  -- whole if it was asked for; or the script's run stopped; or it ran to its end, and the trace was
  -- not written whole. There is no other fault
  abbrev pub PlaysOver : Result ℕ ProgramFault → Type 0
  PlaysOver (Ok n) = RanToTrace n (Ok tt)
  PlaysOver (Err (Script fault)) = RunsScript before after kept d (Err fault)
  PlaysOver (Err (Trace fault)) = (n : ℕ) × RanToTrace n (Err fault)
  PlaysOver (Err _) = ⊥

-- the result of loading a text as a trace: its book, or `Trace` with the reason why there is none
abbrev pub LoadsBook : List ℕ → Result AnyBook ProgramFault → Type 0
LoadsBook text (Ok book) = LoadsTrace text (Ok book)
LoadsBook text (Err (Trace fault)) = LoadsTrace text (Err fault)
LoadsBook text (Err _) = ⊥
