-- The words that spell segments' names, values and the contents of places.
use Rattle.std.specs.Option.{option_map_or}
use Rattle.std.specs.Prelude.{ℕ, Bool, true, false, List, ◌++◌, codes, Option}
use Rattle.std.specs.Fmt.{decimal}
use Rattle.rd_step.specs.Prelude.{SegName, Content, Cell, ArrSlot}
use Rattle.rd_text.specs.Texts.{spaced_number, bit_number}
use Rattle.rd_cell.specs.declared.contents.ArrSlot.TheVariants as slot
use Rattle.rd_cell.specs.declared.contents.Content.TheVariants as content

-- the words of a segment's name: its maker, a full stop, and its number
abbrev pub segment_name_words : SegName → List ℕ
segment_name_words s = decimal s.maker ++ codes "." ++ decimal s.n

-- the words of a value, or `none` if there is none
abbrev pub value_words : Option ℕ → List ℕ
value_words value = option_map_or decimal value (codes "none")

-- the words of the next segment's name, or `none` if there is none
abbrev pub next_words : Option SegName → List ℕ
next_words next = option_map_or segment_name_words next (codes "none")

-- the word for the closed bit of a tail
abbrev pub tail_word : Bool → List ℕ
tail_word false = codes "open"
tail_word true = codes "closed"

-- the words of a cell: its safe bit, its index, and its value
abbrev pub cell_words : Cell → List ℕ
cell_words c = decimal (bit_number c.safe) ++ spaced_number c.idx ++ codes " " ++ value_words c.val

-- the words of a safe bit and an index
abbrev pub index_words : Bool → ℕ → List ℕ
index_words safe idx = decimal (bit_number safe) ++ spaced_number idx

-- the words of a slot of the array
abbrev pub slot_words : ArrSlot → List ℕ
slot_words slot.Empty = codes "empty"
slot_words slot.Top = codes "top"
slot_words (slot.Value x) = codes "value" ++ spaced_number x

-- the words of the content of a place; `exists` for the whole of a segment
abbrev pub content_words : Content → List ℕ
content_words (content.Name s) = segment_name_words s
content_words (content.Number n) = decimal n
content_words (content.Tail closed count) = tail_word closed ++ spaced_number count
content_words (content.Next next) = next_words next
content_words (content.Cell c) = cell_words c
content_words (content.Val val) = value_words val
content_words (content.Idx safe idx) = index_words safe idx
content_words content.Whole = codes "exists"
content_words (content.Slot held) = slot_words held
