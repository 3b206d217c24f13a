-- The array as a JSON value: an object with its two counters and its slots that aren't empty, each
-- with its position.
use Rattle.std.specs.Prelude.{◌≡◌, ℕ, suc, List, [], ◌∷◌, codes, bytes_eq, if◌then◌else◌, Option, Some, None, option_map, option_and_then}
use Rattle.serde_json.specs.Data.{Data, null, number, string, array, object, unsigned, Items, no_items, item, no_members, member}
use Rattle.serde_json.specs.Find.{as_array, as_u64}
use Rattle.rd_cell.specs.declared.contents.ArrSlot.{ArrSlot}
use Rattle.rd_cell.specs.declared.contents.ArrSlot.TheVariants as slot
use Rattle.rd_segments.specs.declared.array.ArrayParts.{ArrayParts}
use Rattle.rd_trace.specs.Numbers.{whole_number, member_count, number_at}
use Rattle.rd_trace.specs.Spelled.{Gives, SpellEachAt, items_by}

-- what a slot that isn't empty holds, by its JSON value: `Top` for `"top"`, a value for a whole
-- number; none for anything else
abbrev pub slot_content : Data → Option ArrSlot
slot_content (number n) = option_map slot.Value (as_u64 n)
slot_content (string s) = if bytes_eq s (codes "top") then Some slot.Top else None
slot_content _ = None

-- the position and the slot that the items of a list spell; none if they spell none
abbrev pub slot_of_items : Items → Option (ℕ × ArrSlot)
slot_of_items (item i (item s no_items)) = option_and_then (λ position. option_map (λ held. (position, held)) (slot_content s)) (whole_number i)
slot_of_items _ = None

-- the position and the slot that a JSON value spells; none if it spells none
abbrev pub slot_of : Data → Option (ℕ × ArrSlot)
slot_of d = option_and_then slot_of_items (as_array d)

-- the slots that aren't empty, each with its position, where the first slot is at position i
abbrev pub filled_slots : ℕ → List ArrSlot → List (ℕ × ArrSlot)
filled_slots i [] = []
filled_slots i (slot.Empty ∷ slots) = filled_slots (suc i) slots
filled_slots i (slot.Top ∷ slots) = (i, slot.Top) ∷ filled_slots (suc i) slots
filled_slots i (slot.Value x ∷ slots) = (i, slot.Value x) ∷ filled_slots (suc i) slots

-- a JSON value spells the array: it is an object of three members, which are the two counters and
-- the slots that aren't empty, by ascending positions
pub record SpellsArray (d : Data) (a : ArrayParts) : Type 0 where
  pub members : member_count d ≡ Some 3
  pub cells : SpellEachAt (Gives slot_of) (codes "cells") d (filled_slots 0 a.cells)
  pub head : number_at (codes "head") d ≡ Some a.head
  pub tail : number_at (codes "tail") d ≡ Some a.tail

-- the JSON value as which the content of a slot is written; `null` for an empty slot, which is
-- never written
abbrev pub content_data : ArrSlot → Data
content_data slot.Empty = null
content_data slot.Top = string (codes "top")
content_data (slot.Value x) = number (unsigned x)

-- the JSON array `[position, content]` of a slot
abbrev pub slot_data : ℕ × ArrSlot → Data
slot_data s = array (item (number (unsigned s.0)) (item (content_data s.1) no_items))

-- the JSON value as which the array is written
abbrev pub array_data : ArrayParts → Data
array_data a = object (
    member (codes "cells") (array (items_by slot_data (filled_slots 0 a.cells)))
    (member (codes "head") (number (unsigned a.head))
    (member (codes "tail") (number (unsigned a.tail)) no_members)))
