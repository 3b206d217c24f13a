-- The lines of a text, and the commands that lines spell.
use Rattle.std.specs.Prelude.{◌≢◌, ℕ, ◌==◌, if◌then◌else◌, List, [], ◌∷◌, Result, Ok, Err}
use Rattle.std.specs.List.{AllByRecursion, onto_first}
use Rattle.rd_marks.specs.declared.commands.Command.{Command}
use Rattle.rd_text.specs.declared.faults.LineFault.{LineFault}

-- what a line spells: a command, or the line's fault
abbrev pub ParsedLine : Type 0
ParsedLine = Result Command LineFault

-- the commands among what lines spell, in order
abbrev pub commands_of : List ParsedLine → List Command
commands_of [] = []
commands_of (Ok command ∷ said) = command ∷ commands_of said
commands_of (Err fault ∷ said) = commands_of said

-- the lines of a text, without their line feeds: each line feed ends a line, and the bytes that no
-- line feed follows, if there are any, are the last line
abbrev pub lines_of : List ℕ → List (List ℕ)
lines_of [] = []
lines_of (byte ∷ bytes) = if byte == 10 then [] ∷ lines_of bytes else onto_first byte (lines_of bytes)

-- the lines with this byte added in front of the first one; if there is no line, still none
abbrev pub onto_first_if_any : ℕ → List (List ℕ) → List (List ℕ)
onto_first_if_any byte [] = []
onto_first_if_any byte (line ∷ lines) = (byte ∷ line) ∷ lines

-- the lines of a text that a line feed ends, without their line feeds
abbrev pub ended_lines_of : List ℕ → List (List ℕ)
ended_lines_of [] = []
ended_lines_of (byte ∷ bytes) = if byte == 10 then [] ∷ ended_lines_of bytes else onto_first_if_any byte (ended_lines_of bytes)

-- no byte of the text is a line feed
abbrev pub IsOneLine : List ℕ → Type 0
IsOneLine bytes = AllByRecursion (λ byte. byte ≢ 10) bytes
