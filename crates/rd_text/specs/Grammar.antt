-- The grammar of lines: the keyword of each command and the arguments after it, each of them one
-- word.
use Rattle.std.specs.Prelude.{◌≡◌, ℕ, ◌<◌, ◌^◌, Bool, true, List, [], ◌∷◌, codes, map}
use Rattle.std.specs.List.{AllByRecursion}
use Rattle.std.specs.Fmt.{decimal}
use Rattle.rd_step.specs.Prelude.{SegName, Place}
use Rattle.rd_marks.specs.NameBytes.{is_mark_name}
use Rattle.rd_marks.specs.Names.{bytes_of}
use Rattle.rd_marks.specs.declared.commands.Command.{Command}
use Rattle.rd_marks.specs.declared.commands.Command.TheVariants as command
use Rattle.rd_text.specs.declared.reading.keywords.Keyword.{Keyword}
use Rattle.rd_text.specs.declared.reading.keywords.Keyword.TheVariants as keyword
use Rattle.rd_text.specs.declared.reading.places.PlaceKind.{PlaceKind}
use Rattle.rd_text.specs.declared.reading.places.PlaceKind.TheVariants as kind
use Rattle.rd_text.specs.Texts.{yes_or_no}
use Rattle.rd_text.specs.Contents.{segment_name_words}
use Rattle.rd_cell.specs.declared.places.Place.TheVariants as place

-- the text of a keyword
abbrev pub keyword_text : Keyword → List ℕ
keyword_text keyword.Enq = codes "enq"
keyword_text keyword.Deq = codes "deq"
keyword_text keyword.ArrayEnq = codes "aenq"
keyword_text keyword.ArrayDeq = codes "adeq"
keyword_text keyword.Go = codes "go"
keyword_text keyword.Starve = codes "starve"
keyword_text keyword.Undo = codes "undo"
keyword_text keyword.Roll = codes "roll"
keyword_text keyword.Back = codes "back"
keyword_text keyword.Redo = codes "redo"
keyword_text keyword.Forward = codes "forward"
keyword_text keyword.Mark = codes "mark"
keyword_text keyword.Drop = codes "drop"
keyword_text keyword.Goto = codes "goto"
keyword_text keyword.Marks = codes "marks"
keyword_text keyword.MarkAt = codes "markat"
keyword_text keyword.Same = codes "same"
keyword_text keyword.Origin = codes "origin"
keyword_text keyword.Writer = codes "writer"
keyword_text keyword.Show = codes "show"
keyword_text keyword.Actor = codes "actor"
keyword_text keyword.Step = codes "step"
keyword_text keyword.Len = codes "len"

-- the text of a kind of place
abbrev pub kind_text : PlaceKind → List ℕ
kind_text kind.QHead = codes "qhead"
kind_text kind.QTail = codes "qtail"
kind_text kind.Head = codes "head"
kind_text kind.Tail = codes "tail"
kind_text kind.Next = codes "next"
kind_text kind.Cell = codes "cell"
kind_text kind.Value = codes "value"
kind_text kind.Index = codes "index"
kind_text kind.Whole = codes "whole"
kind_text kind.ArrHead = codes "ahead"
kind_text kind.ArrTail = codes "atail"
kind_text kind.ArrCell = codes "acell"

-- the kind of a place
abbrev pub kind_of : Place → PlaceKind
kind_of place.QHead = kind.QHead
kind_of place.QTail = kind.QTail
kind_of (place.Head s) = kind.Head
kind_of (place.Tail s) = kind.Tail
kind_of (place.Next s) = kind.Next
kind_of (place.Cell s i) = kind.Cell
kind_of (place.Val s i) = kind.Value
kind_of (place.Idx s i) = kind.Index
kind_of (place.Whole s) = kind.Whole
kind_of place.ArrHead = kind.ArrHead
kind_of place.ArrTail = kind.ArrTail
kind_of (place.ArrCell i) = kind.ArrCell

-- an argument of a command: the number of an actor, a cell or a slot of the array (`Byte`), any
-- other number (`Long`), a segment, a choice (whether an enqueue starves), the bytes of a
-- bookmark's name, or the kind of a place
pub data Argument : Type 0 where
  Byte : ℕ → Argument
  Long : ℕ → Argument
  Segment : SegName → Argument
  Choice : Bool → Argument
  Name : List ℕ → Argument
  Kind : PlaceKind → Argument

-- the word of an argument; a number is decimal, without leading zeros
abbrev pub word_of : Argument → List ℕ
word_of (Byte n) = decimal n
word_of (Long n) = decimal n
word_of (Segment s) = segment_name_words s
word_of (Choice choice) = yes_or_no choice
word_of (Name name) = name
word_of (Kind k) = kind_text k

-- the arguments that follow the kind of a place: its segment, and the number of its cell or slot,
-- if it has them
abbrev pub place_arguments : Place → List Argument
place_arguments (place.Head s) = Segment s ∷ []
place_arguments (place.Tail s) = Segment s ∷ []
place_arguments (place.Next s) = Segment s ∷ []
place_arguments (place.Cell s i) = Segment s ∷ Byte i ∷ []
place_arguments (place.Val s i) = Segment s ∷ Byte i ∷ []
place_arguments (place.Idx s i) = Segment s ∷ Byte i ∷ []
place_arguments (place.Whole s) = Segment s ∷ []
place_arguments (place.ArrCell i) = Byte i ∷ []
place_arguments _ = []

-- the keyword of a command, and the arguments after it
abbrev pub keyword_and_arguments : Command → Keyword × List Argument
keyword_and_arguments (command.Enq actor x) = (keyword.Enq, Byte actor ∷ Long x ∷ [])
keyword_and_arguments (command.Deq actor) = (keyword.Deq, Byte actor ∷ [])
keyword_and_arguments (command.ArrayEnq actor x) = (keyword.ArrayEnq, Byte actor ∷ Long x ∷ [])
keyword_and_arguments (command.ArrayDeq actor) = (keyword.ArrayDeq, Byte actor ∷ [])
keyword_and_arguments (command.Go actor) = (keyword.Go, Byte actor ∷ [])
keyword_and_arguments (command.Starve actor choice) = (keyword.Starve, Byte actor ∷ Choice choice ∷ [])
keyword_and_arguments command.Undo = (keyword.Undo, [])
keyword_and_arguments (command.UndoAt k) = (keyword.Undo, Long k ∷ [])
keyword_and_arguments (command.Roll k) = (keyword.Roll, Long k ∷ [])
keyword_and_arguments (command.Back n) = (keyword.Back, Long n ∷ [])
keyword_and_arguments command.Redo = (keyword.Redo, [])
keyword_and_arguments (command.Forward n) = (keyword.Forward, Long n ∷ [])
keyword_and_arguments (command.Mark name) = (keyword.Mark, Name (bytes_of name) ∷ [])
keyword_and_arguments (command.DropMark name) = (keyword.Drop, Name (bytes_of name) ∷ [])
keyword_and_arguments (command.GotoMark name) = (keyword.Goto, Name (bytes_of name) ∷ [])
keyword_and_arguments command.Marks = (keyword.Marks, [])
keyword_and_arguments (command.MarkAt i) = (keyword.MarkAt, Long i ∷ [])
keyword_and_arguments (command.Same one other) = (keyword.Same, Name (bytes_of one) ∷ Name (bytes_of other) ∷ [])
keyword_and_arguments (command.Origin k) = (keyword.Origin, Long k ∷ [])
keyword_and_arguments (command.Writer asked) = (keyword.Writer, Kind (kind_of asked) ∷ place_arguments asked)
keyword_and_arguments (command.Show asked) = (keyword.Show, Kind (kind_of asked) ∷ place_arguments asked)
keyword_and_arguments (command.Actor actor) = (keyword.Actor, Byte actor ∷ [])
keyword_and_arguments (command.Step k) = (keyword.Step, Long k ∷ [])
keyword_and_arguments command.Len = (keyword.Len, [])

-- the keyword of a command
abbrev pub keyword_of : Command → Keyword
keyword_of c = (keyword_and_arguments c).0

-- the arguments of a command
abbrev pub arguments_of : Command → List Argument
arguments_of c = (keyword_and_arguments c).1

-- the words of these arguments, in order
abbrev pub argument_words : List Argument → List (List ℕ)
argument_words arguments = map word_of arguments

-- the numbers in a segment's name are in their ranges: its maker's from 0 to 255, its own from 0 to
-- 2^32 - 1
abbrev pub IsSegmentInRange : SegName → Type 0
IsSegmentInRange s = (s.maker < 256) × (s.n < 2 ^ 32)

-- the argument is in its range: the number of an actor, a cell or a slot is from 0 to 255, any
-- other number from 0 to 2^64 - 1, the numbers in a segment's name are in theirs, and the bytes of
-- a name are ones that a bookmark can have. Choices and kinds always are
abbrev pub IsArgumentInRange : Argument → Type 0
IsArgumentInRange (Byte n) = n < 256
IsArgumentInRange (Long n) = n < 2 ^ 64
IsArgumentInRange (Segment s) = IsSegmentInRange s
IsArgumentInRange (Name name) = is_mark_name name ≡ true
IsArgumentInRange _ = Unit {0}

-- each argument is in its range
abbrev pub AreArgumentsInRange : List Argument → Type 0
AreArgumentsInRange arguments = AllByRecursion IsArgumentInRange arguments

-- the number of bookmarks' names that follow this keyword in a line
abbrev pub names_after : Keyword → ℕ
names_after keyword.Mark = 1
names_after keyword.Drop = 1
names_after keyword.Goto = 1
names_after keyword.Same = 2
names_after _ = 0
