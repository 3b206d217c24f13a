-- What the laws of the journal, and the contract of `Session::entry`, state.
use Rattle.std.specs.Prelude.{◌≡◌, ℕ, ◌++◌, Some, take, Ok}
use Rattle.rd_step.specs.Prelude.{Place, operand, World, step, without, closure_entries, without_closure, run}
use Rattle.rd_step.specs.declared.entries.Entry.{Entry}
use Rattle.rd_journal.specs.Journal.{Journal, events, run_entries}
use Rattle.rd_journal.specs.Numbers.{only_numbered}

-- x is the entry of the live step after the first k. These lead from the start to the world
-- `before`, and the step leads from there to `after` and leaves x. The old record and the old
-- content of x are the actor's record and, if x has a place, the place's content in `before`
pub record IsStepAfter (k : ℕ) (j : Journal) (x : Entry) : Type 0 where
  pub before : World
  pub ran : run j.start (take k (events j.live)) ≡ Ok (record { world = before; entries = take k j.live })
  pub after : World
  pub goes : step before x.event ≡ Ok (record { world = after; entry = x })
  pub old_actor : before.actor x.event.actor ≡ Some x.old_actor
  pub old_content : (p : Place) → x.place ≡ Some p → operand before.at p ≡ x.old_content

-- the n-th live entry, counted from 1, has become the last and the others are in their order; the
-- undone entries, the start and the world are as before
pub record IsMovedLast (n : ℕ) (old new : Journal) : Type 0 where
  pub start : new.start ≡ old.start
  pub world : new.world ≡ old.world
  pub live : new.live ≡ without old.live n ++ only_numbered old.live n
  pub undone : new.undone ≡ old.undone

-- the live entries of the causal closure of position n, counted from 1, have become the last, in
-- their order, and the others are in their order; the undone entries, the start and the world are
-- as before
pub record IsClosureLast (n : ℕ) (old new : Journal) : Type 0 where
  pub start : new.start ≡ old.start
  pub world : new.world ≡ old.world
  pub live : new.live ≡ without_closure old.live n ++ closure_entries old.live n
  pub undone : new.undone ≡ old.undone

-- the live events followed by the undone ones are one run from the start, with the entries of both
abbrev pub IsOneRun : Journal → Type 0
IsOneRun j = run_entries (run j.start (events (j.live ++ j.undone))) ≡ Ok (j.live ++ j.undone)
