-- How a call changes the entries of a journal. The k-th entry, event or step is counted from 1.
use Rattle.std.specs.Prelude.{◌≡◌, ℕ, ◌-◌, List, [], ◌∷◌, ◌++◌, length, take, drop, Result, Ok}
use Rattle.rd_step.specs.Prelude.{Refusal, step, first_dependant, without, items_where_false, closure, closure_entries, without_closure, run, and_then, result_map}
use Rattle.rd_step.specs.declared.entries.Event.{Event}
use Rattle.rd_step.specs.declared.entries.Entry.{Entry}
use Rattle.rd_journal.specs.Journal.{Journal, events, entry_of, unless_depended}
use Rattle.rd_journal.specs.Numbers.{only_numbered}

-- x has become the last live entry, and no step is undone
pub record IsAppendedToLive (x : Entry) (old new : Journal) : Type 0 where
  pub live : new.live ≡ old.live ++ x ∷ []
  pub undone : new.undone ≡ []

-- `done` is the number, from 1, and the entry of the step that the event makes from the old world
-- to the new one. This entry has become the last live one, and no step is undone
pub record IsStepOf (e : Event) (done : ℕ × Entry) (old new : Journal) : Type 0 where
  pub goes : step old.world e ≡ Ok (record { world = new.world; entry = done.1 })
  pub entries : IsAppendedToLive done.1 old new
  pub number : done.0 ≡ length new.live

-- the last n live entries have become the front of the undone ones, in their order, and no entry
-- changed
pub record IsMovedBack (n : ℕ) (old new : Journal) : Type 0 where
  pub live : new.live ≡ take (length old.live - n) old.live
  pub undone : new.undone ≡ drop (length old.live - n) old.live ++ old.undone

-- the first n undone entries have become the last live ones, in their order, and no entry changed
pub record IsMovedForward (n : ℕ) (old new : Journal) : Type 0 where
  pub live : new.live ≡ old.live ++ take n old.undone
  pub undone : new.undone ≡ drop n old.undone

-- from the start, the old live events without the last n run to the new world and leave the new
-- live entries
abbrev pub IsRunWithoutLast : ℕ → Journal → Journal → Type 0
IsRunWithoutLast n old new =
    run old.start (take (length old.live - n) (events old.live)) ≡ Ok (record { world = new.world; entries = new.live })

-- the k-th live entry has become the front of the undone ones; the others are in their order, and
-- no entry changed
pub record IsUndoneAlone (k : ℕ) (old new : Journal) : Type 0 where
  pub live : new.live ≡ without old.live k
  pub undone : new.undone ≡ only_numbered old.live k ++ old.undone

-- from the start, the old live events without the k-th run to the new world and leave the new live
-- entries
abbrev pub IsRunWithout : ℕ → Journal → Journal → Type 0
IsRunWithout k old new = run old.start (without (events old.live) k) ≡ Ok (record { world = new.world; entries = new.live })

-- the answer to undoing the k-th live step alone: `NoSuchStep` if there is no such step, `Depended`
-- with the number of the first live step that depends on it if there is one, else done
abbrev pub undo_at_answer : Journal → ℕ → Result Unit Refusal
undo_at_answer j k = and_then (entry_of j k) (λ _. unless_depended (first_dependant j.live k))

-- the first n live entries stayed and are followed by the given ones, and no step is undone
pub record IsSwitched (n : ℕ) (given : List Entry) (old new : Journal) : Type 0 where
  pub live : new.live ≡ take n old.live ++ given
  pub undone : new.undone ≡ []

-- the entries of the causal closure of k have become the front of the undone ones, in their order;
-- the others are in their order, and no entry changed
pub record IsRolledBack (k : ℕ) (old new : Journal) : Type 0 where
  pub live : new.live ≡ without_closure old.live k
  pub undone : new.undone ≡ closure_entries old.live k ++ old.undone

-- from the start, the old live events outside the causal closure of k run to the new world and
-- leave the new live entries
abbrev pub IsRunWithoutClosure : ℕ → Journal → Journal → Type 0
IsRunWithoutClosure k old new =
    run old.start (items_where_false (closure old.live k) (events old.live)) ≡ Ok (record { world = new.world; entries = new.live })

-- the answer to rolling back the k-th live step: `NoSuchStep` if there is no such step, else done
abbrev pub roll_answer : Journal → ℕ → Result Unit Refusal
roll_answer j k = result_map (λ _. tt) (entry_of j k)
