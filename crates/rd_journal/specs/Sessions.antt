-- A session in the words that public clauses cite: its journal, its state, the entries ahead, its
-- track, its room and its index.
use Rattle.std.specs.Prelude.{◌≡◌, ◌≤◌, ◌⊎◌, ℕ, List, ◌++◌, length, take, Result, Ok, Err}
use Rattle.rd_step.specs.Prelude.{Refusal, model, room as world_room}
use Rattle.rd_depend.specs.declared.index.DependIndex.{DependIndex}
use Rattle.rd_journal.specs.declared.sessions.Session.{Session}
use Rattle.rd_step.specs.declared.entries.Event.{Event}
use Rattle.rd_step.specs.declared.entries.Entry.{Entry}
use Rattle.rd_journal.specs.Journal.{Journal, events, IsRunFrom}
use Rattle.rd_journal.specs.Entries.{live_entries, ahead_entries, entries_capacity}
use Rattle.rd_journal.specs.Room.{AsksForMemory, LacksRoomToSwitch}
use Rattle.rd_journal.specs.SessionFields.{opened_with}
use Rattle.rd_journal.specs.State.{State, state_of, apply}
use Rattle.rd_cell.specs.declared.refusal.Refusal.TheVariants as refusal

-- the session's journal: the world that it was opened with, its world, its live entries, and the
-- first `undone` of the entries ahead
abbrev pub journal : {R : ℕ} → Session R → Journal
journal s = record { start = opened_with s.opened; world = model s.world; live = live_entries s.entries; undone = take s.undone (ahead_entries s.entries) }

-- the session's start, live events and undone events
abbrev pub state : {R : ℕ} → Session R → State
state s = state_of (journal s)

-- the entries of the steps ahead, which can be made again as they are: first of the undone steps,
-- then of those that the session went back over
abbrev pub ahead : {R : ℕ} → Session R → List Entry
ahead s = ahead_entries s.entries

-- the events of the session's track, along which it goes back and forth: first of the live steps,
-- then of the steps ahead
abbrev pub track : {R : ℕ} → Session R → List Event
track s = (state s).live ++ events (ahead s)

-- the number of segments that an actor can still make before memory is asked for
abbrev pub room : {R : ℕ} → Session R → ℕ → ℕ
room s m = world_room s.world m

-- the number of entries, live and ahead, for which there is room
abbrev pub capacity : {R : ℕ} → Session R → ℕ
capacity s = entries_capacity s.entries

-- the session's index of dependants: that of the live entries and, after them, of those ahead
abbrev pub index : {R : ℕ} → Session R → DependIndex
index s = s.index

-- a call answers as a function on states does, which gives `wanted` for the old state: if the call
-- succeeds, `wanted` is the session's new state; if it is refused, `wanted` is the same refusal,
-- and the session is as it was
abbrev pub AnswersAs : {R : ℕ} → Result State Refusal → Result Unit Refusal → Session R → Session R → Type 0
AnswersAs wanted (Ok _) old new = wanted ≡ Ok (state new)
AnswersAs wanted (Err cause) old new = (wanted ≡ Err cause) × (new ≡ old)

-- the session goes along its track: the track, the index and the room for entries stay
pub record GoesAlongTrack {R : ℕ} (old new : Session R) : Type 0 where
  pub track : track new ≡ track old
  pub index : index new ≡ index old
  pub capacity : capacity new ≡ capacity old

-- the session has the journal and the track from before
pub record KeepsItsSteps {R : ℕ} (old new : Session R) : Type 0 where
  pub journal : journal new ≡ journal old
  pub track : track new ≡ track old

-- the session may refuse the event with this cause: as its state refuses it, or with `NoMemory`
-- where room is missing
abbrev pub MayRefuse : {R : ℕ} → Session R → Event → Refusal → Type 0
MayRefuse s e cause = (apply (state s) e ≡ Err cause) ⊎ ((cause ≡ refusal.NoMemory) × AsksForMemory (journal s) (ahead s) (capacity s) (room s) (index s) e)

-- the session lacks room for going to these events: for some `kept` and `given`, the first `kept`
-- live steps stay, the entries of the other events are `given`, all these are the entries of a run
-- from the start, and room is missing for the given ones, for their makings or in the index
pub record LacksRoomForEvents {R : ℕ} (s : Session R) (es : List Event) : Type 0 where
  pub kept : ℕ
  pub given : List Entry
  pub within : kept ≤ length (journal s).live
  pub ran : IsRunFrom (journal s).start (take kept (journal s).live ++ given)
  pub all : take kept (state s).live ++ events given ≡ es
  pub lacks : LacksRoomToSwitch kept (journal s) (ahead s) given (capacity s) (room s) (index s)
