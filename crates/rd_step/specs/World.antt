-- Worlds of the model.
use Rattle.std.specs.Prelude.{ℕ, Option}
use Rattle.rd_ring.specs.Prelude.{Contents}
use Rattle.rd_actor.specs.declared.actors.Actor.{Actor}

-- a world of the model: the number of cells of its rings, the content of each place, and the record
-- of each actor by its number, if there is such an actor
pub record World : Type 0 where
  pub ring : ℕ
  pub at : Contents
  pub actor : ℕ → Option Actor
