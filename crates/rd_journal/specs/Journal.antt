-- What a session keeps: the world that it was opened with, its present world, and the entries of
-- its steps, which are those of a run.
use Rattle.std.specs.Prelude.{◌≡◌, ℕ, List, length, Option, Some, None, ok_or, Result, Ok, Err}
use Rattle.rd_step.specs.Prelude.{Refusal, World, numbered, run, IsWellFormed}
pub use Rattle.rd_step.specs.Run.{events, run_entries, IsRunFrom}
use Rattle.rd_step.specs.declared.entries.Entry.{Entry}
use Rattle.rd_cell.specs.declared.refusal.Refusal.TheVariants as refusal

-- the world in which the session was opened, its present world, the entries of the live steps in
-- their order, and the entries of the undone steps, the one undone last in front
pub record Journal : Type 0 where
  pub start : World
  pub world : World
  pub live : List Entry
  pub undone : List Entry

-- xs are the entries of a run that leads from `start`, a well-formed world, to the world w
pub record LeadsTo (start w : World) (xs : List Entry) : Type 0 where
  pub well_formed : IsWellFormed start
  pub ran : run start (events xs) ≡ Ok (record { world = w; entries = xs })

-- the journal is a run: the live events lead from its start, which is well-formed, to its world and
-- leave its live entries, and the undone events run on from there and leave its undone entries
pub record IsRun (j : Journal) : Type 0 where
  pub well_formed : IsWellFormed j.start
  pub live_ran : run j.start (events j.live) ≡ Ok (record { world = j.world; entries = j.live })
  pub undone_run_on : IsRunFrom j.world j.undone

-- the entry of the live step of this number, from 1; refused with `NoSuchStep`, with the number of
-- live steps, if there is none
abbrev pub entry_of : Journal → ℕ → Result Entry Refusal
entry_of j k = ok_or (numbered j.live k) (refusal.NoSuchStep (length j.live))

-- the answer to undoing a step alone, given the number of the first step that depends on it, if
-- there is one: done if there is none, else `Depended` with the number
abbrev pub unless_depended : Option ℕ → Result Unit Refusal
unless_depended None = Ok tt
unless_depended (Some j) = Err (refusal.Depended j)
