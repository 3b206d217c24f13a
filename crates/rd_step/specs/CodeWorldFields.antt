-- The fields of the code's world, as a world of the model.
use Rattle.std.specs.Prelude.{ℕ, List}
use Rattle.rd_actor.specs.declared.actors.Actor.{Actor}
use Rattle.rd_segments.specs.declared.space.Space.{Space}
use Rattle.rd_segments.specs.Space.{contents}
use Rattle.rd_step.specs.Lists.{numbered}
use Rattle.rd_step.specs.World.{World}

-- the model's world with a space's contents and these actors, numbered from 1
abbrev pub world_of_fields : {R : ℕ} → Space R → List Actor → World
world_of_fields {R} space actors = record { ring = R; at = contents space; actor = numbered actors }
