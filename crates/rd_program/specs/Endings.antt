-- How the program ends after each outcome: its exit status, and what standard error then has.
use Rattle.std.specs.Prelude.{◌≡◌, ◌+◌, ℕ, false, MatchBool, cond, List, [], ◌∷◌, ◌++◌, codes, Option, None, Some, is_some, Result, Ok, Err}
use Rattle.std.specs.Io.KnownBytes.{Appends}
use Rattle.rd_cell.specs.declared.refusal.Refusal.TheVariants as refusal
use Rattle.rd_text.specs.declared.answers.AnyRefusal.{AnyRefusal}
use Rattle.rd_text.specs.declared.answers.AnyRefusal.TheVariants as refused
use Rattle.rd_devices.specs.declared.faults.ScriptFault.TheVariants as script
use Rattle.rd_devices.specs.Device.{TakesBeginning}
use Rattle.rd_text.specs.Headings.{viewer_refusal_text}
use Rattle.rd_devices.specs.Streams.{GetsNothing, Stream}
use Rattle.rd_text.specs.Replies.{answer_text}
use Rattle.rd_trace.specs.declared.faults.TraceFault.{TraceFault}
use Rattle.rd_trace.specs.declared.faults.TraceFault.TheVariants as trace
use Rattle.rd_view.specs.declared.faults.ViewFault.{ViewFault}
use Rattle.rd_view.specs.declared.faults.ViewFault.TheVariants as view
use Rattle.rd_view.specs.declared.live.ViewerEnd.{ViewerEnd}
use Rattle.rd_view.specs.declared.live.ViewerEnd.TheVariants.{Ended, Stopped, NotStarted}
use Rattle.rd_program.specs.declared.faults.ProgramFault.{ProgramFault}
use Rattle.rd_program.specs.declared.faults.ProgramFault.TheVariants.{NoMemory, Read, Script, Trace, View}
use Rattle.rd_program.specs.declared.setups.Done.{Done}
use Rattle.rd_program.specs.declared.setups.Done.TheVariants.{Counted, Lived}

-- the refusal that the program shows for a trace that was not loaded, or not written whole
abbrev pub trace_refusal : TraceFault → AnyRefusal
trace_refusal trace.NoMemory = refused.Refused refusal.NoMemory
trace_refusal trace.Write = refused.Stopped script.Write
trace_refusal (trace.Flawed flaw) = refused.Flawed flaw
trace_refusal trace.BadTrace = refused.BadTrace
trace_refusal (trace.TraceStep step cause) = refused.TraceStep step cause
trace_refusal (trace.TraceMark mark step cause) = refused.TraceMark mark step cause

-- the refusal that the program shows for a view that was not written whole
abbrev pub view_refusal : ViewFault → AnyRefusal
view_refusal view.NoMemory = refused.Refused refusal.NoMemory
view_refusal view.Write = refused.Stopped script.Write
view_refusal (view.Busy words) = refused.Busy words.next words.served

-- the refusal that the program shows for a fault
abbrev pub refusal_of : ProgramFault → AnyRefusal
refusal_of NoMemory = refused.Refused refusal.NoMemory
refusal_of Read = refused.Stopped script.Read
refusal_of (Script fault) = refused.Stopped fault
refusal_of (Trace fault) = trace_refusal fault
refusal_of (View fault) = view_refusal fault

-- a line on standard error: the program's name, a colon and a space, and then this line
abbrev pub error_line : List ℕ → List ℕ
error_line line = codes "lcrqdb: " ++ line

-- the refusal that the program shows for a viewer that ended so, if it did not come to the end of
-- its source
abbrev pub refusal_of_end : ViewerEnd → Option AnyRefusal
refusal_of_end (Ended lines) = None
refusal_of_end (Stopped fault) = Some (refused.Stopped fault)
refusal_of_end NotStarted = Some (refused.Refused refusal.NoMemory)

-- the line on standard error for the viewer of this number, by its refusal; nothing without one
abbrev pub refusal_line : ℕ → Option AnyRefusal → List ℕ
refusal_line viewer None = []
refusal_line viewer (Some cause) = error_line (viewer_refusal_text viewer cause)

-- the line on standard error for the viewer of this number, which ended so
abbrev pub viewer_line : ℕ → ViewerEnd → List ℕ
viewer_line viewer end = refusal_line viewer (refusal_of_end end)

-- the lines on standard error for viewers that ended so, from this number on
abbrev pub viewer_lines : ℕ → List ViewerEnd → List ℕ
viewer_lines viewer [] = []
viewer_lines viewer (end ∷ ends) = viewer_line viewer end ++ viewer_lines (viewer + 1) ends

-- the exit status after viewers that ended so: 0 if each came to the end of its source, else 1
abbrev pub viewers_status : List ViewerEnd → ℕ
viewers_status [] = 0
viewers_status (end ∷ ends) = cond (is_some (refusal_of_end end)) 1 (viewers_status ends)

-- a stream took all of this text, after what it had; or, if it has failed, a beginning of the text
abbrev pub TakesUnlessFailed : Stream → List ℕ → Type 0
TakesUnlessFailed s text = MatchBool s.failed (TakesBeginning s.before s.after text) (Appends s.before s.after text)

-- how the program ends after an outcome. If lines or calls were counted, the status is 0, and
-- standard error gets nothing and has not failed. After viewers that were there at once, the lines
-- of those that did not come to the end go there, and after a fault, with status 1, the line of its
-- refusal
abbrev pub EndsAs : Result Done ProgramFault → ℕ → Stream → Type 0
EndsAs (Ok (Counted count)) status errors = (status ≡ 0) × GetsNothing false errors
EndsAs (Ok (Lived ends)) status errors = (status ≡ viewers_status ends.items) × TakesUnlessFailed errors (viewer_lines 1 ends.items)
EndsAs (Err fault) status errors = (status ≡ 1) × TakesUnlessFailed errors (error_line (answer_text (Err (refusal_of fault))))
