-- The number, the name and the data of each refusal.
use Rattle.std.specs.Prelude.{ℕ, List, [], ◌++◌, codes}
use Rattle.rd_step.specs.Prelude.{Refusal}
use Rattle.rd_step.specs.Parts.{flaw_number}
use Rattle.rd_text.specs.declared.faults.LineFault.{LineFault}
use Rattle.rd_text.specs.declared.faults.LineFault.TheVariants as fault
use Rattle.rd_devices.specs.declared.faults.ScriptFault.{ScriptFault}
use Rattle.rd_devices.specs.declared.faults.ScriptFault.TheVariants.{Read, Write}
use Rattle.rd_text.specs.declared.answers.AnyRefusal.{AnyRefusal}
use Rattle.rd_text.specs.declared.answers.AnyRefusal.TheVariants.{Refused, Unread, Stopped, Flawed, HistoryFull, BadTrace, TraceStep, TicketsEnded, Busy, NotRecorded, TraceMark}
use Rattle.rd_text.specs.Texts.{spaced_number}
use Rattle.rd_cell.specs.declared.refusal.Refusal.TheVariants as refusal

-- the number and the name of a refusal
abbrev pub refusal_name : Refusal → List ℕ
refusal_name refusal.NoActor = codes "1 NoActor"
refusal_name refusal.NotIdle = codes "2 NotIdle"
refusal_name refusal.Idle = codes "3 Idle"
refusal_name refusal.NeedsChoice = codes "4 NeedsChoice"
refusal_name refusal.NoChoice = codes "5 NoChoice"
refusal_name refusal.CounterEnd = codes "6 CounterEnd"
refusal_name refusal.SegmentsEnd = codes "7 SegmentsEnd"
refusal_name refusal.ArrayEnd = codes "8 ArrayEnd"
refusal_name refusal.TooLong = codes "9 TooLong"
refusal_name (refusal.NothingToUndo live) = codes "10 NothingToUndo"
refusal_name refusal.NothingToRedo = codes "11 NothingToRedo"
refusal_name (refusal.NoSuchStep live) = codes "12 NoSuchStep"
refusal_name (refusal.Depended step) = codes "13 Depended"
refusal_name refusal.NoMark = codes "14 NoMark"
refusal_name refusal.MarkTaken = codes "15 MarkTaken"
refusal_name refusal.TooManyMarks = codes "16 TooManyMarks"
refusal_name refusal.BadName = codes "17 BadName"
refusal_name refusal.NotATake = codes "18 NotATake"
refusal_name refusal.NoSuchPlace = codes "19 NoSuchPlace"
refusal_name refusal.NoMemory = codes "20 NoMemory"

-- the words after a refusal's name, with a space in front: the number of live steps, or a step's
-- number, if the refusal has one; otherwise nothing
abbrev pub refusal_data : Refusal → List ℕ
refusal_data (refusal.NothingToUndo live) = spaced_number live
refusal_data (refusal.NoSuchStep live) = spaced_number live
refusal_data (refusal.Depended step) = spaced_number step
refusal_data _ = []

-- the words of a refusal: its number, its name, and its data
abbrev pub refusal_words : Refusal → List ℕ
refusal_words cause = refusal_name cause ++ refusal_data cause

-- the number and the name of the fault of a line
abbrev pub line_fault_name : LineFault → List ℕ
line_fault_name fault.BadLine = codes "22 BadLine"
line_fault_name fault.LineTooLong = codes "23 LineTooLong"
line_fault_name fault.BadName = codes "17 BadName"

-- the number and the name of the fault that stopped a run
abbrev pub script_fault_name : ScriptFault → List ℕ
script_fault_name Read = codes "24 Read"
script_fault_name Write = codes "25 Write"

-- the refusal of an event of a trace: the event's number, and the cause
abbrev pub trace_step_words : ℕ → Refusal → List ℕ
trace_step_words step cause = codes "28 TraceStep" ++ spaced_number step ++ codes " cause " ++ refusal_words cause

-- the refusal of an event of a trace's bookmark: the numbers of the bookmark and of the event in
-- it, and the cause
abbrev pub trace_mark_words : ℕ → ℕ → Refusal → List ℕ
trace_mark_words mark step cause = codes "32 TraceMark" ++ spaced_number mark ++ spaced_number step ++ codes " cause " ++ refusal_words cause

-- the words for the tickets of a busy lock: the one to be drawn next, and the one that is served
abbrev pub busy_words : ℕ → ℕ → List ℕ
busy_words next served = codes " next" ++ spaced_number next ++ codes " served" ++ spaced_number served

-- the words of any refusal or fault: its number, its name and its data
abbrev pub any_refusal_words : AnyRefusal → List ℕ
any_refusal_words (Refused cause) = refusal_words cause
any_refusal_words (Unread cause) = line_fault_name cause
any_refusal_words (Stopped cause) = script_fault_name cause
any_refusal_words (Flawed flaw) = codes "26 Flaw" ++ spaced_number (flaw_number flaw)
any_refusal_words HistoryFull = codes "21 HistoryFull"
any_refusal_words BadTrace = codes "27 BadTrace"
any_refusal_words (TraceStep step cause) = trace_step_words step cause
any_refusal_words TicketsEnded = codes "29 TicketsEnded"
any_refusal_words (Busy next served) = codes "30 Busy" ++ busy_words next served
any_refusal_words NotRecorded = codes "31 NotRecorded"
any_refusal_words (TraceMark mark step cause) = trace_mark_words mark step cause
