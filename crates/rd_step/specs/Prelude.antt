-- The words that most definitions of the crates above need, in one place: those of rd_cell and
-- rd_actor, the model's world, its step, its runs and dependence. (A crate passes on the generated
-- names of the crates below it, and not its own.)
pub use Rattle.rd_ring.specs.Prelude.{COUNTER_END, MOST_SEGMENTS, MOST_CELLS, SLOTS, MOST_ACTORS, MOST_STEPS}
pub use Rattle.rd_ring.specs.Prelude.{Cell, SegName, Place, Content, ArrSlot, Operation, Answer, Access, Done, Wrote, Refusal}
pub use Rattle.rd_ring.specs.Prelude.{root, name_eq, is_of_segment, place_eq, covers, overlaps, some_covers, some_overlap, is_nothing, written, interfere, Contents, operand, restore, is_there, content_at, Effect, effect, Performed, perform, and_then, result_map}
pub use Rattle.rd_actor.specs.declared.actors.Actor.{Actor}
pub use Rattle.rd_actor.specs.declared.actors.Act.{Act}
pub use Rattle.rd_actor.specs.declared.actors.OpReply.{OpReply}
pub use Rattle.rd_actor.specs.Table.{need, after}
pub use Rattle.rd_step.specs.World.{World}
pub use Rattle.rd_step.specs.Step.{Stepped, step}
pub use Rattle.rd_step.specs.Undo.{unstep}
pub use Rattle.rd_step.specs.Run.{Ran, run}
pub use Rattle.rd_step.specs.Dependence.{depends, IsFree, first_dependant, depends_on_any, closure, items_where_false, closure_entries, without_closure}
pub use Rattle.rd_step.specs.Lists.{numbered, without}
pub use Rattle.rd_step.specs.WellFormed.{IsWellFormed}
pub use Rattle.rd_step.specs.CodeWorld.{model, room, makers_room}
