-- The lines of commands, one after another.
use Rattle.rd_text.proofs.Prelude.{List, [], ◌∷◌, Ok, map, flat_map, append_assoc, AllZip, Command, Says, command_text, lines_of, spelling}
use Rattle.std.specs.List.{AllByRecursion}
use Rattle.rd_text.proofs.TextLemmas.{lines-first}
use Rattle.rd_text.proofs.SpellingLemmas.{one_line}

-- the lines of these commands are read as them, if each line by itself is
pub says_commands : (commands : List Command) → AllByRecursion (λ command. Says (spelling command) (Ok command)) commands → AllZip Says (lines_of (flat_map command_text commands)) (map Ok commands)
says_commands [] each = tt
says_commands (command ∷ commands) each =
    rw (append_assoc, lines-first (spelling command) (flat_map command_text commands) (one_line command each.0.1)) (each.0, says_commands commands each.1)
