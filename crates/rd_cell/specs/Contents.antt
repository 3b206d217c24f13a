-- Contents: what each place holds, before and after a write.
use Rattle.std.specs.Prelude.{ℕ, Bool, true, false, ◌==◌, nat_lt, nat_le, if◌then◌else◌, Option, Some, None, is_some}
use Rattle.rd_cell.specs.declared.limits.TheConstants.{COUNTER_END, SLOTS}
use Rattle.rd_cell.specs.declared.places.SegName.{SegName}
use Rattle.rd_cell.specs.declared.places.Place.{Place}
use Rattle.rd_cell.specs.declared.places.Place.TheVariants as place
use Rattle.rd_cell.specs.declared.contents.Content.{Content}
use Rattle.rd_cell.specs.declared.contents.Content.TheVariants as content
use Rattle.rd_cell.specs.Places.{covers}
use Rattle.rd_cell.specs.declared.cells.Cell.{Cell}

-- the content of each place, or none if the place is not there. A cell and the whole of a segment
-- are no places of the map: they only name the cell's two halves and the segment's 2R + 3 places
abbrev pub Contents : Type 0
Contents = Place → Option Content

-- the contents after a write at a place: each place that it covers has the content in `given`, and
-- every other place keeps its own
abbrev pub after_write : Place → Contents → Contents → Contents
after_write p given at q = if covers p q then given q else at q

-- the part of a cell that each place holds: the value at every value half, safe bit and index at
-- every index half, and nothing elsewhere
abbrev pub cell_halves : Cell → Contents
cell_halves c (place.Val s i) = Some (content.Val c.val)
cell_halves c (place.Idx s i) = Some (content.Idx c.safe c.idx)
cell_halves c _ = None

-- the cell whose value half and index half these contents are; none unless they are such halves
abbrev pub cell_of_halves : Option Content → Option Content → Option Content
cell_of_halves (Some (content.Val val)) (Some (content.Idx safe idx)) = Some (content.Cell (record { safe = safe; idx = idx; val = val }))
cell_of_halves _ _ = None

-- whether a content is a whole cell
abbrev pub is_cell : Content → Bool
is_cell (content.Cell c) = true
is_cell _ = false

-- what each place that the written place covers gets of a content, or of none: a half of a cell
-- gets its half, any other place all of it. What is found at, or written over, a cell's place is
-- always a cell (`laws::the_content_of_a_cell_is_a_cell`)
abbrev pub share : Place → Option Content → Contents
share (place.Cell s i) (Some (content.Cell c)) q = cell_halves c q
share p o q = o

-- the contents after a write at a place; without a place, the contents as they were
abbrev pub after_some_write : Option Place → Contents → Contents → Contents
after_some_write None given at = at
after_some_write (Some p) given at = after_write p given at

-- the contents with this old content put back at a place. Without an old content, the places that
-- it covers are removed; without a place, nothing changes
abbrev pub restore : Option Place → Option Content → Contents → Contents
restore None old at = at
restore (Some p) old at = after_write p (share p old) at

-- the content on which an operation at a place works: the place's own, for a cell its two halves
-- together, and none for the whole of a segment
abbrev pub operand : Contents → Place → Option Content
operand at (place.Whole s) = None
operand at (place.Cell s i) = cell_of_halves (at (place.Val s i)) (at (place.Idx s i))
operand at p = at p

-- whether a place can hold a content: the content is of the place's kind, and a counter is at most
-- its end. The whole of a segment can hold none
abbrev pub can_hold : Place → Content → Bool
can_hold place.QHead (content.Name s) = true
can_hold place.QTail (content.Name s) = true
can_hold (place.Head s) (content.Number n) = nat_le n COUNTER_END
can_hold (place.Tail s) (content.Tail closed n) = nat_le n COUNTER_END
can_hold (place.Next s) (content.Next m) = true
can_hold (place.Cell s i) (content.Cell c) = true
can_hold (place.Val s i) (content.Val val) = true
can_hold (place.Idx s i) (content.Idx safe idx) = true
can_hold place.ArrHead (content.Number n) = nat_le n SLOTS
can_hold place.ArrTail (content.Number n) = nat_le n SLOTS
can_hold (place.ArrCell i) (content.Slot slot) = true
can_hold _ _ = false

-- whether a segment is there, which its head counter tells: a well-formed world has all places of a
-- segment or none
abbrev pub is_there : Contents → SegName → Bool
is_there at s = is_some (at (place.Head s))

-- what a query shows at a place: its `operand`; at the whole of a segment, `Whole` if the segment
-- is there, else none
abbrev pub content_at : Contents → Place → Option Content
content_at at (place.Whole s) = if is_there at s then Some content.Whole else None
content_at at p = operand at p

-- the content of each place of a fresh segment with R cells, whichever segment the place names: its
-- counters are 0, it is open and has no next, and each cell u is empty and safe, with index u
abbrev pub fresh_segment : ℕ → Contents
fresh_segment R (place.Head s) = Some (content.Number 0)
fresh_segment R (place.Tail s) = Some (content.Tail false 0)
fresh_segment R (place.Next s) = Some (content.Next None)
fresh_segment R (place.Val s u) = if nat_lt u R then Some (content.Val None) else None
fresh_segment R (place.Idx s u) = if nat_lt u R then Some (content.Idx true u) else None
fresh_segment R _ = None

-- the content of each place of a new segment with R cells that already holds x: as in a fresh one,
-- except that its tail counter is 1 and x is in cell 0
abbrev pub segment_holding : ℕ → ℕ → Contents
segment_holding R x (place.Tail s) = Some (content.Tail false 1)
segment_holding R x (place.Val s u) = if nat_lt u R then Some (content.Val (if u == 0 then Some x else None)) else None
segment_holding R x p = fresh_segment R p
