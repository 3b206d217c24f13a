-- When a session has room for an event.
use Rattle.std.specs.Prelude.{◌≡◌, ◌<◌, ℕ, true, [], ◌∷◌, length, Ok}
use Rattle.rd_step.specs.Prelude.{Stepped, step}
use Rattle.rd_step.specs.Room.{makes_segment}
use Rattle.rd_step.specs.declared.entries.Event.{Event}
use Rattle.rd_depend.specs.Index.{HasRoomInstead}
use Rattle.rd_journal.specs.Sessions.{journal, ahead, room, capacity, index}
use Rattle.rd_journal.specs.declared.sessions.Session.{Session}

-- the session has room for one more live entry; if the event makes a segment, its actor has room
-- for one; and the index has room for the entry of the event's step, once the entries of all steps
-- ahead are removed
pub record HasRoomFor {R : ℕ} (s : Session R) (e : Event) : Type 0 where
  pub entries : length (journal s).live < capacity s
  pub segments : makes_segment (journal s).world e ≡ true → 0 < room s e.actor
  pub index : (after : Stepped) → step (journal s).world e ≡ Ok after → HasRoomInstead (index s) (ahead s) (after.entry ∷ [])
