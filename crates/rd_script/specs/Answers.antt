-- The answer to a line: the book's answer if it spells a command, or the refusal of its fault.
use Rattle.std.specs.Prelude.{◌≡◌, ℕ, List, [], ◌∷◌, map, flat_map, Result, Ok, Err}
use Rattle.std.specs.List.{AllZip}
use Rattle.rd_step.specs.Prelude.{Refusal}
use Rattle.rd_journal.specs.Journal.{Journal}
use Rattle.rd_marks.specs.declared.replies.Reply.{Reply}
use Rattle.rd_marks.specs.BookState.{BookState}
use Rattle.rd_marks.specs.Commands.{IsObeyed}
use Rattle.rd_marks.specs.Headline.{Headline}
use Rattle.rd_text.specs.declared.answers.AnyRefusal.TheVariants.{Refused, Unread}
use Rattle.rd_text.specs.Lines.{ParsedLine, commands_of}
use Rattle.rd_text.specs.Spelling.{Says}
use Rattle.rd_text.specs.Replies.{LineAnswer, answer_text}

-- the answer to a line that spells a command, from the book's answer to that command: the same
-- reply, or the refusal as an `AnyRefusal`
abbrev pub line_answer : Result Reply Refusal → LineAnswer
line_answer (Ok reply) = Ok reply
line_answer (Err refusal) = Err (Refused refusal)

-- in the state `s`, a line that spells this command, or has this fault, may get this answer and
-- leave the state `after`; a fault gets its refusal, and leaves the state as it was
abbrev pub AnswersParsedLine : BookState → ParsedLine → LineAnswer → BookState → Type 0
AnswersParsedLine s (Err fault) answer after = (answer ≡ Err (Unread fault)) × (after ≡ s)
AnswersParsedLine s (Ok command) answer after =
    (given : Result Reply Refusal) × IsObeyed s command (record { answer = given; state = after }) × (answer ≡ line_answer given)

-- the answers to lines, in order: a fault gets its refusal, and a command the next of these
-- answers. If they run out, a command gets none; any left over are dropped. `AreObeyed` provides
-- one answer for each command
abbrev pub line_answers : List ParsedLine → List LineAnswer → List LineAnswer
line_answers [] answers = []
line_answers (Err fault ∷ said) answers = Err (Unread fault) ∷ line_answers said answers
line_answers (Ok command ∷ said) (answer ∷ answers) = answer ∷ line_answers said answers
line_answers (Ok command ∷ said) [] = line_answers said []

-- the report of these answers: one line for each
abbrev pub report_of : List LineAnswer → List ℕ
report_of answers = flat_map answer_text answers

-- the lines were done one after another, with these answers: by the headline, the book went from
-- `before` to `after` with the commands that the lines spell, and `kept` is the journal that it
-- keeps now
pub record AreObeyedLines (before : BookState) (lines : List (List ℕ)) (answers : List LineAnswer) (after : BookState) (kept : Journal) : Type 0 where
  -- for each line, the command that it spells, or its fault
  pub said : List ParsedLine
  pub says : AllZip Says lines said
  -- the book's answers to the commands
  pub given : List (Result Reply Refusal)
  pub headline : Headline before (commands_of said) given after kept
  -- each line has its answer: the refusal of its fault, or the book's answer to its command
  pub each : answers ≡ line_answers said (map line_answer given)
