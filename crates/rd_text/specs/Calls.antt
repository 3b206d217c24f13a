-- The lines of a history, and of the replies to viewers that are there at once.
use Rattle.std.specs.Prelude.{ℕ, List, [], ◌∷◌, ◌++◌, Option}
use Rattle.std.specs.Fmt.{decimal}
use Rattle.rd_marks.specs.declared.commands.Command.{Command}
use Rattle.rd_text.specs.Replies.{LineAnswer, answer_text}
use Rattle.rd_text.specs.Spelling.{spelling}
use Rattle.rd_text.specs.Texts.{number_or_hyphen}

-- the line of a command, with its line feed
abbrev pub command_text : Command → List ℕ
command_text command = spelling command ++ 10 ∷ []

-- the line of a recorded call: the number of its viewer, a space, and the line of its command
abbrev pub call_text : ℕ → Command → List ℕ
call_text viewer command = decimal viewer ++ 32 ∷ command_text command

-- the line of an answer, with the number of the call that it answers before it, or a hyphen if the
-- line was no call, and a space between them
abbrev pub numbered_text : Option ℕ → LineAnswer → List ℕ
numbered_text call answer = number_or_hyphen call ++ 32 ∷ answer_text answer
