-- What a run of a script did: the conversation in which a book answers the script's lines.
use Rattle.std.specs.Prelude.{◌≡◌, ℕ, List, Result}
use Rattle.rd_journal.specs.Journal.{Journal}
use Rattle.rd_marks.specs.Book.{book_state}
use Rattle.rd_marks.specs.BookState.{BookState}
use Rattle.rd_marks.specs.declared.books.Book.{Book}
use Rattle.rd_devices.specs.declared.faults.ScriptFault.{ScriptFault}
use Rattle.rd_script.specs.Answers.{AnswersParsedLine, AreObeyedLines}
use Rattle.rd_script.specs.Conversation.{CameToEnd, Converses}
use Rattle.rd_text.specs.Lines.{ParsedLine}
use Rattle.rd_text.specs.Replies.{LineAnswer, answer_text}
use Rattle.rd_text.specs.Spelling.{Says}
use Rattle.rd_devices.specs.Streams.{Devices}

-- what a book does with a line: it obeys the command that the line spells, or leaves its fault, as
-- `AnswersParsedLine` says, and keeps its start
abbrev pub BookAnswers : {R : ℕ} → Book R → List ℕ → LineAnswer → Book R → Type 0
BookAnswers old line answer new =
    (said : ParsedLine) × Says line said × AnswersParsedLine (book_state old) said answer (book_state new)
    × ((book_state new).session.start ≡ (book_state old).session.start)

module _ (before after : BookState) (kept : Journal) where
  -- the lines were obeyed with these answers, which led a book from `before` to `after`; it keeps
  -- the journal `kept`
  abbrev pub AreObeyedBetween : List (List ℕ) → List LineAnswer → Type 0
  AreObeyedBetween lines answers = AreObeyedLines before lines answers after kept

  -- a run of a script came to the end: n lines were obeyed, and their report was written
  abbrev pub RanToEnd : Devices → ℕ → Type 0
  RanToEnd d n = CameToEnd answer_text AreObeyedBetween d n

  -- what a run of a script did, by its result: the number of lines, or the fault that stopped it;
  -- `d` is how the devices changed
  abbrev pub RunsScript : Devices → Result ℕ ScriptFault → Type 0
  RunsScript d result = Converses answer_text AreObeyedBetween d result
