-- Segments as JSON values: an object with a member for each part of a segment, and an array of
-- three for each cell.
use Rattle.std.specs.Prelude.{◌≡◌, ℕ, codes, Option, Some, None, option_map, option_and_then, Vec}
use Rattle.std.specs.Global.{Global}
use Rattle.serde_json.specs.Data.{Data, boolean, number, array, object, unsigned, Items, no_items, item, no_members, member}
use Rattle.serde_json.specs.Find.{get, as_bool, as_array}
use Rattle.rd_cell.specs.declared.cells.Cell.{Cell}
use Rattle.rd_ring.specs.declared.parts.SegmentParts.{SegmentParts}
use Rattle.rd_trace.specs.Numbers.{whole_number, member_count, number_at, bit_at}
use Rattle.rd_trace.specs.Spelled.{Gives, SpellEachOf, SpellEachAt, items_by}
use Rattle.rd_trace.specs.Names.{next_of, next_data}
use Rattle.rd_trace.specs.Actors.{val_of, val_data}

-- the cell that the items of a list spell: its safe bit, its index and its value; none if they
-- spell none
abbrev pub cell_of_items : Items → Option Cell
cell_of_items (item s (item i (item v no_items))) =
    option_and_then (λ safe. option_and_then (λ idx. option_map (λ val. record { safe = safe; idx = idx; val = val }) (val_of v)) (whole_number i)) (as_bool s)
cell_of_items _ = None

-- the cell that a JSON value spells; none if it spells none
abbrev pub cell_of : Data → Option Cell
cell_of d = option_and_then cell_of_items (as_array d)

-- the JSON value as which a cell is written
abbrev pub cell_data : Cell → Data
cell_data c = array (item (boolean c.safe) (item (number (unsigned c.idx)) (item (val_data c.val) no_items)))

-- a JSON value spells a segment of `R` cells: it is an object of just five members, one for each
-- part of the segment
pub record SpellsSegment {R : ℕ} (d : Data) (s : SegmentParts R) : Type 0 where
  pub members : member_count d ≡ Some 5
  pub cells : SpellEachAt (Gives cell_of) (codes "cells") d s.cells
  pub closed : bit_at (codes "closed") d ≡ Some s.closed
  pub head : number_at (codes "head") d ≡ Some s.head
  pub next : option_and_then next_of (get (codes "next") d) ≡ Some s.next
  pub tail : number_at (codes "tail") d ≡ Some s.tail

-- a JSON value spells the list of a maker's segments
abbrev pub SpellsSegmentList : {R : ℕ} → Data → Vec (SegmentParts R) Global → Type 0
SpellsSegmentList d list = SpellEachOf SpellsSegment (as_array d) list.items

-- the JSON value as which a segment is written
abbrev pub segment_data : {R : ℕ} → SegmentParts R → Data
segment_data s = object (
    member (codes "cells") (array (items_by cell_data s.cells))
    (member (codes "closed") (boolean s.closed)
    (member (codes "head") (number (unsigned s.head))
    (member (codes "next") (next_data s.next)
    (member (codes "tail") (number (unsigned s.tail)) no_members)))))

-- the JSON value as which the list of a maker's segments is written
abbrev pub segment_list_data : {R : ℕ} → Vec (SegmentParts R) Global → Data
segment_list_data list = array (items_by segment_data list.items)
