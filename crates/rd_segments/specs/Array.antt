-- The content of each place of the array.
use Rattle.std.specs.Prelude.{ℕ, nat_lt, if◌then◌else◌, List, Some, None, option_map, slice_get}
use Rattle.rd_ring.specs.Prelude.{SLOTS, ArrSlot, Contents}
use Rattle.rd_segments.specs.declared.array.ArrayParts.{ArrayParts}
use Rattle.rd_cell.specs.declared.places.Place.TheVariants as place
use Rattle.rd_cell.specs.declared.contents.ArrSlot.TheVariants as slot
use Rattle.rd_cell.specs.declared.contents.Content.TheVariants as content

-- the content of each place of an array with these head and tail counters and these slots, slot 0
-- first; none at every other place
abbrev pub array_contents_with : ℕ → ℕ → List ArrSlot → Contents
array_contents_with head tail cells place.ArrHead = Some (content.Number head)
array_contents_with head tail cells place.ArrTail = Some (content.Number tail)
array_contents_with head tail cells (place.ArrCell i) = option_map content.Slot (slice_get cells i)
array_contents_with head tail cells _ = None

-- the content of each place of this array
abbrev pub array_contents : ArrayParts → Contents
array_contents a = array_contents_with a.head a.tail a.cells

-- the content of each place of a fresh array: its counters are 0, and its 64 slots are empty; none
-- at every other place
abbrev pub fresh_array : Contents
fresh_array place.ArrHead = Some (content.Number 0)
fresh_array place.ArrTail = Some (content.Number 0)
fresh_array (place.ArrCell i) = if nat_lt i SLOTS then Some (content.Slot slot.Empty) else None
fresh_array _ = None
