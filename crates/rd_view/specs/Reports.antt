-- The text of a view: for each viewer a heading and the answers to its lines, and last the number
-- of recorded calls.
use Rattle.std.specs.Prelude.{ℕ, ◌+◌, List, [], ◌∷◌, ◌++◌, flat_map, map, Option, Some, None, Ok, Err, Vec}
use Rattle.std.specs.Global.{Global}
use Rattle.rd_desk.specs.declared.gates.DeskRefusal.TheVariants as desk
use Rattle.rd_desk.specs.Histories.{Answer}
use Rattle.rd_desk.specs.declared.histories.Call.{Call}
use Rattle.rd_text.specs.declared.answers.AnyRefusal.TheVariants.{Refused, HistoryFull, TicketsEnded, Busy, NotRecorded}
use Rattle.rd_text.specs.declared.writing.headings.Heading.TheVariants.{Viewer, History}
use Rattle.rd_script.specs.Answers.{line_answers, report_of}
use Rattle.rd_text.specs.Calls.{call_text, command_text}
use Rattle.rd_text.specs.Headings.{heading_text}
use Rattle.rd_text.specs.Lines.{ParsedLine}
use Rattle.rd_text.specs.Replies.{LineAnswer, answer_text}
use Rattle.rd_text.specs.Spelling.{Says, spelling}
use Rattle.rd_cell.specs.declared.refusal.Refusal.TheVariants as refusal

-- the answer to a line, from the desk's answer to the line's command
abbrev pub desk_line_answer : Answer → LineAnswer
desk_line_answer (Ok (Ok reply)) = Ok reply
desk_line_answer (Ok (Err refusal)) = Err (Refused refusal)
desk_line_answer (Err desk.HistoryFull) = Err HistoryFull
desk_line_answer (Err desk.NotRecorded) = Err NotRecorded
desk_line_answer (Err desk.TicketsEnded) = Err TicketsEnded
desk_line_answer (Err (desk.Busy words)) = Err (Busy words.next words.served)

-- the text for the viewer of this number: its heading, and after it the answers to its lines or, if
-- its thread was not started (None), the refusal `NoMemory`. `said` has what each of its lines
-- spells
abbrev pub viewer_text : ℕ → List ParsedLine → Option (Vec Answer Global) → List ℕ
viewer_text number said (Some answers) = heading_text (Viewer number) ++ report_of (line_answers said (map desk_line_answer answers.items))
viewer_text number said None = heading_text (Viewer number) ++ answer_text (Err (Refused refusal.NoMemory))

-- the text for the viewers from this number on, up to the end of the shorter list, and after them
-- the number of recorded calls
abbrev pub viewers_text : ℕ → List (Vec ParsedLine Global) → List (Option (Vec Answer Global)) → ℕ → List ℕ
viewers_text number (said ∷ others) (answered ∷ more) calls = viewer_text number said.items answered ++ viewers_text (number + 1) others more calls
viewers_text number [] answered calls = heading_text (History calls)
viewers_text number (said ∷ others) [] calls = heading_text (History calls)

-- the lines of a history: for each call its viewer's number, a space, and the line that spells its
-- command
abbrev pub history_text : List (ℕ × Call) → List ℕ
history_text es = flat_map (λ e. call_text e.0 e.1.command) es

-- the same lines without the viewers' numbers: one script of all calls, in their order
abbrev pub script_text : List (ℕ × Call) → List ℕ
script_text es = flat_map command_text (map (λ e. e.1.command) es)

-- the line that spells the command of this call is read as that command
abbrev pub SpellsItsCommand : ℕ × Call → Type 0
SpellsItsCommand e = Says (spelling e.1.command) (Ok e.1.command)
