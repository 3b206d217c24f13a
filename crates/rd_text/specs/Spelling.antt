-- The one spelling of each command, and what a line spells.
use Rattle.std.specs.Prelude.{◌≡◌, ◌≢◌, ℕ, ◌<◌, ◌≤◌, Bool, true, false, ◌&&◌, not, ◌==◌, List, ◌∷◌, length, Result, Ok, Err}
use Rattle.std.specs.List.{list_all, join_with_byte}
use Rattle.std.specs.Char.{is_ascii_graphic}
use Rattle.rd_step.specs.Prelude.{Place}
use Rattle.rd_marks.specs.NameBytes.{is_mark_name}
use Rattle.rd_marks.specs.declared.commands.Command.{Command}
use Rattle.rd_text.specs.declared.faults.LineFault.{LineFault}
use Rattle.rd_text.specs.declared.faults.LineFault.TheVariants as fault
use Rattle.rd_text.specs.declared.reading.keywords.Keyword.{Keyword}
use Rattle.rd_text.specs.Grammar.{keyword_text, keyword_of, arguments_of, kind_text, kind_of, place_arguments, argument_words, AreArgumentsInRange, names_after}

-- the line of these words, joined by spaces
abbrev pub joined_by_spaces : List (List ℕ) → List ℕ
joined_by_spaces words = join_with_byte 32 words

-- the one line that spells a command: its keyword, then its arguments
abbrev pub spelling : Command → List ℕ
spelling command = joined_by_spaces (keyword_text (keyword_of command) ∷ argument_words (arguments_of command))

-- the words that spell a place, joined by spaces: its kind, then its arguments
abbrev pub place_words : Place → List ℕ
place_words place = joined_by_spaces (kind_text (kind_of place) ∷ argument_words (place_arguments place))

-- each number of the command is in its range, and each name is one that a bookmark can have
abbrev pub IsInRange : Command → Type 0
IsInRange command = AreArgumentsInRange (arguments_of command)

-- two commands are the same: their keywords and arguments are equal, names by their bytes
abbrev pub IsSameCommand : Command → Command → Type 0
IsSameCommand a b = (keyword_of a ≡ keyword_of b) × (arguments_of a ≡ arguments_of b)

-- whether these bytes are a word: at least one, each from 33 to 126
abbrev pub is_word : List ℕ → Bool
is_word text = not (length text == 0) && list_all is_ascii_graphic text

-- there are as many words as names follow the keyword, but at least one of them is no bookmark's
-- name
abbrev pub AreMisnamed : Keyword → List (List ℕ) → Type 0
AreMisnamed keyword words = (length words ≡ names_after keyword) × (list_all is_word words ≡ true) × (list_all is_mark_name words ≡ false)

-- the line follows the grammar, except that a word in the place of a bookmark's name is no name
abbrev pub IsMisnamed : List ℕ → Type 0
IsMisnamed line = (keyword : Keyword) × (words : List (List ℕ)) × AreMisnamed keyword words × (line ≡ joined_by_spaces (keyword_text keyword ∷ words))

-- the greatest number of bytes in a line, without its line feed
abbrev pub most_line_bytes : ℕ
most_line_bytes = 256

-- the line, of at most 256 bytes, spells this command, whose arguments are in range; or it has this
-- fault: LineTooLong if it is longer, else BadName if only names are wrong, else BadLine if it
-- spells no such command
abbrev pub Says : List ℕ → Result Command LineFault → Type 0
Says line (Ok command) = (length line ≤ most_line_bytes) × IsInRange command × (line ≡ spelling command)
Says line (Err fault.LineTooLong) = most_line_bytes < length line
Says line (Err fault.BadName) = (length line ≤ most_line_bytes) × IsMisnamed line
Says line (Err fault.BadLine) =
    (length line ≤ most_line_bytes) × ((command : Command) → IsInRange command → line ≢ spelling command) × (IsMisnamed line → ⊥)
