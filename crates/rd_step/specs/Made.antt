-- The segment that the step of an entry made.
use Rattle.std.specs.Prelude.{Option, Some, None}
use Rattle.rd_ring.specs.Prelude.{SegName, Place, Content}
use Rattle.rd_step.specs.declared.entries.Entry.{Entry}
use Rattle.rd_cell.specs.declared.places.Place.TheVariants as place

-- the segment that a step with this place and this old content made, or none: only a making has the
-- whole of a segment as its place, and no old content
abbrev pub made_segment_at : Option Place → Option Content → Option SegName
made_segment_at (Some (place.Whole s)) None = Some s
made_segment_at _ _ = None

-- the segment that an entry's step made; none if it made none
abbrev pub made_segment : Entry → Option SegName
made_segment x = made_segment_at x.place x.old_content
