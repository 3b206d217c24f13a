-- The fresh and the poised world.
use Rattle.std.specs.Prelude.{ℕ, zero, suc, Option, Some, None, nat_lt, if◌then◌else◌}
use Rattle.rd_actor.specs.declared.actors.Actor.{Actor}
use Rattle.rd_actor.specs.Actors.{idle, poised}
use Rattle.rd_segments.specs.SpaceFields.{fresh_space}
use Rattle.rd_step.specs.World.{World}

-- `count` actors, numbered from 1, each with the record that `each` gives for its number; no actor
-- has another number
abbrev pub actors_by : (ℕ → Actor) → ℕ → ℕ → Option Actor
actors_by each count zero = None
actors_by each count (suc n) = if nat_lt n count then Some (each (suc n)) else None

-- the fresh world with rings of R cells and this many actors: the space is fresh, and the actors
-- are idle
abbrev pub fresh_world : ℕ → ℕ → World
fresh_world R count = record { ring = R; at = fresh_space R; actor = actors_by (λ n. idle) count }

-- the poised world with rings of R cells and this many actors: the space is fresh, and each actor a
-- is in an enqueue of the value a, about to draw a position on the root
abbrev pub poised_world : ℕ → ℕ → World
poised_world R count = record { ring = R; at = fresh_space R; actor = actors_by poised count }
