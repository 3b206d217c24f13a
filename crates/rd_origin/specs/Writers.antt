-- The step that last wrote a place.
use Rattle.std.specs.Prelude.{ℕ, Option, ok_or, Result}
use Rattle.rd_step.specs.Prelude.{Place, content_at, Refusal, Ran, result_map}
use Rattle.rd_depend.specs.Writers.{last_position, writes_to}
use Rattle.rd_cell.specs.declared.refusal.Refusal.TheVariants as refusal

-- the position, from 1, of the last step of a run that wrote this place or one that it names, or
-- none if no step did; `NoSuchPlace` if the place is not there in the run's last world
abbrev pub last_writer_in : Ran → Place → Result (Option ℕ) Refusal
last_writer_in ran place =
    result_map (λ content. last_position (writes_to place) ran.entries) (ok_or (content_at ran.world.at place) refusal.NoSuchPlace)
