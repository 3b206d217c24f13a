-- What is read from the words of a line. The code reads word by word, and `Spelling.antt` is about
-- whole lines; these definitions lead from one to the other. No public contract uses them.
use Rattle.std.specs.Prelude.{◌≡◌, ◌≢◌, ℕ, true, false, List, ◌∷◌, length, Option, Some, None, Result, Ok, Err}
use Rattle.std.specs.List.{list_all}
use Rattle.rd_step.specs.Prelude.{Place}
use Rattle.rd_marks.specs.NameBytes.{is_mark_name}
use Rattle.rd_marks.specs.Names.{bytes_of}
use Rattle.rd_marks.specs.declared.names.MarkName.{MarkName}
use Rattle.rd_marks.specs.declared.commands.Command.{Command}
use Rattle.rd_text.specs.declared.faults.LineFault.{LineFault}
use Rattle.rd_text.specs.declared.faults.LineFault.TheVariants as fault
use Rattle.rd_text.specs.declared.reading.keywords.Keyword.{Keyword}
use Rattle.rd_text.specs.declared.reading.places.PlaceKind.{PlaceKind}
use Rattle.rd_text.specs.Grammar.{keyword_of, arguments_of, kind_text, kind_of, place_arguments, argument_words, AreArgumentsInRange, names_after}
use Rattle.rd_text.specs.Spelling.{IsInRange, AreMisnamed, is_word}

-- what a part of a line reads as: a bookmark's name; BadLine if it is no word; BadName if it is a
-- word but no name; false for LineTooLong
abbrev pub ReadsName : List ℕ → Result MarkName LineFault → Type 0
ReadsName word (Ok name) = (is_mark_name word ≡ true) × (bytes_of name ≡ word)
ReadsName word (Err fault.BadLine) = is_word word ≡ false
ReadsName word (Err fault.BadName) = (is_word word ≡ true) × (is_mark_name word ≡ false)
ReadsName word (Err fault.LineTooLong) = ⊥

-- the fault of parts of a line that should be `count` names: BadLine if there aren't `count` of
-- them or one is no word; BadName if they are `count` words, but one is no name; false for
-- LineTooLong
abbrev pub IsFaultOfNames : ℕ → List (List ℕ) → LineFault → Type 0
IsFaultOfNames count words fault.BadLine = length words ≡ count → list_all is_word words ≡ true → ⊥
IsFaultOfNames count words fault.BadName = (length words ≡ count) × (list_all is_word words ≡ true) × (list_all is_mark_name words ≡ false)
IsFaultOfNames count words fault.LineTooLong = ⊥

-- what the words read as: the place that they spell, with its numbers in range, or None if they
-- spell none
abbrev pub ReadsPlace : List (List ℕ) → Option Place → Type 0
ReadsPlace words (Some place) = AreArgumentsInRange (place_arguments place) × (words ≡ kind_text (kind_of place) ∷ argument_words (place_arguments place))
ReadsPlace words None = (place : Place) → AreArgumentsInRange (place_arguments place) → words ≢ kind_text (kind_of place) ∷ argument_words (place_arguments place)

-- what the words after a kind read as: the place of this kind that they spell, with its numbers in
-- range, or None if they spell none
abbrev pub ReadsPlaceOfKind : PlaceKind → List (List ℕ) → Option Place → Type 0
ReadsPlaceOfKind kind words (Some place) = AreArgumentsInRange (place_arguments place) × (kind_of place ≡ kind) × (words ≡ argument_words (place_arguments place))
ReadsPlaceOfKind kind words None = (place : Place) → AreArgumentsInRange (place_arguments place) → kind_of place ≡ kind → words ≢ argument_words (place_arguments place)

-- what the words after a keyword read as: the command of this keyword that they spell; BadName if
-- there are as many words as names follow the keyword, but one is no name; BadLine if they spell no
-- command for another reason; false for LineTooLong
abbrev pub ReadsCommand : Keyword → List (List ℕ) → Result Command LineFault → Type 0
ReadsCommand keyword words (Ok command) = IsInRange command × (keyword_of command ≡ keyword) × (words ≡ argument_words (arguments_of command))
ReadsCommand keyword words (Err fault.BadLine) =
    ((command : Command) → IsInRange command → keyword_of command ≡ keyword → words ≢ argument_words (arguments_of command)) × (AreMisnamed keyword words → ⊥)
ReadsCommand keyword words (Err fault.BadName) = AreMisnamed keyword words
ReadsCommand keyword words (Err fault.LineTooLong) = ⊥

-- the words after a keyword read as a command of this keyword. None means that they spell none, if
-- no names follow the keyword; otherwise it means nothing
abbrev pub ReadsCommandWithoutName : Keyword → List (List ℕ) → Option Command → Type 0
ReadsCommandWithoutName keyword words (Some command) = IsInRange command × (keyword_of command ≡ keyword) × (words ≡ argument_words (arguments_of command))
ReadsCommandWithoutName keyword words None = names_after keyword ≡ 0 → (command : Command) → IsInRange command → keyword_of command ≡ keyword → words ≢ argument_words (arguments_of command)
