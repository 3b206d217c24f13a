-- The journal that a session's fields make, and what always holds of it.
use Rattle.std.specs.Prelude.{ℕ, ◌+◌, ◌≤◌, length}
use Rattle.std.specs.declared.snapshot.Snapshot.{Snapshot}
use Rattle.rd_step.specs.Prelude.{World, model, MOST_STEPS}
use Rattle.rd_step.specs.declared.worlds.World.{World as CodeWorld}
use Rattle.rd_journal.specs.declared.entries.Entries.{Entries}
use Rattle.rd_journal.specs.Journal.{Journal, IsRun}
use Rattle.rd_journal.specs.Entries.{live_entries, ahead_entries}
use Rattle.rd_journal.specs.Room.{HasRoomToRedo}

-- the world that a session was opened with, which it keeps for contracts alone
unfoldable pub opened_with : {R : ℕ} → Snapshot (CodeWorld R) → World
opened_with opened = model opened.value

-- the journal of a start, a world and entries, in which all steps ahead count as undone
abbrev pub whole_journal : World → World → Entries → Journal
whole_journal start w r = record { start = start; world = w; live = live_entries r; undone = ahead_entries r }

-- what always holds of a session's `whole_journal`: it has at most `MOST_STEPS` entries, it is a
-- run, and there is room for the makings among its undone steps
pub record IsSession (j : Journal) (room : ℕ → ℕ) : Type 0 where
  pub few : length j.live + length j.undone ≤ MOST_STEPS
  pub runs : IsRun j
  pub has_room : HasRoomToRedo j.undone room
