-- The words of rd_cell that most definitions need, in one place for this crate and those above:
-- types, the variants of operations and accesses, limits, places, contents and accesses. (A crate
-- passes on the generated names of the crates below it, and not its own.)
pub use Rattle.rd_cell.specs.declared.limits.TheConstants.{COUNTER_END, MOST_SEGMENTS, MOST_CELLS, SLOTS, MOST_ACTORS, MOST_STEPS}
pub use Rattle.rd_cell.specs.declared.cells.Cell.{Cell}
pub use Rattle.rd_cell.specs.declared.places.SegName.{SegName}
pub use Rattle.rd_cell.specs.declared.places.Place.{Place}
pub use Rattle.rd_cell.specs.declared.places.Wrote.{Wrote}
pub use Rattle.rd_cell.specs.declared.contents.ArrSlot.{ArrSlot}
pub use Rattle.rd_cell.specs.declared.contents.Content.{Content}
pub use Rattle.rd_cell.specs.declared.operations.Operation.{Operation}
pub use Rattle.rd_cell.specs.declared.operations.Operation.TheVariants.{Read, ReadValue, ReadSafeAndIndex, Add, AddArray, Close, CasName, CasNext, CasTail, Cas2, Swap}
pub use Rattle.rd_cell.specs.declared.operations.Answer.{Answer}
pub use Rattle.rd_cell.specs.declared.access.Access.{Access}
pub use Rattle.rd_cell.specs.declared.access.Access.TheVariants.{NoPlace, At, Make}
pub use Rattle.rd_cell.specs.declared.access.Done.{Done}
pub use Rattle.rd_cell.specs.declared.refusal.Refusal.{Refusal}
pub use Rattle.rd_cell.specs.Places.{root, name_eq, named_segment, is_of_segment, is_of_same_segment, segment_of, is_of_array, is_of_cell, place_eq, covers, overlaps, some_covers, some_overlap, is_nothing, index_half, written, interfere}
pub use Rattle.rd_cell.specs.Cells.{cell_eq, fresh_cell}
pub use Rattle.rd_cell.specs.Contents.{Contents, after_write, cell_halves, cell_of_halves, share, restore, operand, can_hold, is_there, content_at, fresh_segment, segment_holding}
pub use Rattle.rd_cell.specs.Operations.{Effect, effect, cas_answer, cas_wrote, wrote_cell, wrote_by}
pub use Rattle.rd_cell.specs.Access.{Performed, contents_after, done_of, number_made, operate, make, perform, HasEffect, Operates, OperatesOnContent, Makes, Restores, RefusesMaking, everywhere}
pub use Rattle.rd_cell.specs.Results.{and_then, result_map}
