-- The code's world, as a world of the model: what public clauses cite.
use Rattle.std.specs.Prelude.{ℕ, vec_capacity}
use Rattle.rd_segments.specs.Room.{MakersRoom}
use Rattle.rd_segments.specs.Space.{list_capacity, room as space_room, makers_room as room_of_space}
use Rattle.rd_step.specs.declared.worlds.World.{World as CodeWorld}
use Rattle.rd_step.specs.World.{World}
use Rattle.rd_step.specs.CodeWorldFields.{world_of_fields}

-- the model's world for which the code's world stands: the size of its rings, the content of each
-- place and the record of each actor
abbrev pub model : {R : ℕ} → CodeWorld R → World
model w = world_of_fields w.space w.actors.items

-- the number of further segments that an actor can make without asking for memory
abbrev pub room : {R : ℕ} → CodeWorld R → ℕ → ℕ
room w m = space_room w.space m

-- the room of all makers: maker 0, and the actors by their numbers
abbrev pub makers_room : {R : ℕ} → CodeWorld R → MakersRoom
makers_room w = room_of_space w.space

-- the number of makers' lists and the number of actors for which the world has memory; only a
-- constructor changes them
abbrev pub capacities : {R : ℕ} → CodeWorld R → ℕ × ℕ
capacities w = (list_capacity w.space, vec_capacity w.actors)
