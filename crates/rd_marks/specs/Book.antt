-- The views of a book that public contracts use, and when going to a bookmark may lack memory.
use Rattle.std.specs.Prelude.{◌≡◌, ◌⊎◌, ℕ, Some, Err}
use Rattle.indexmap.specs.IndexMap.{spare}
use Rattle.rd_step.specs.Prelude.{Refusal}
use Rattle.rd_journal.specs.Journal.{events}
use Rattle.rd_journal.specs.Sessions.{state, LacksRoomForEvents}
use Rattle.rd_journal.specs.declared.sessions.Session.{Session}
use Rattle.rd_marks.specs.declared.books.Book.{Book}
use Rattle.rd_marks.specs.declared.commands.Command.{Command}
use Rattle.rd_marks.specs.declared.commands.Command.TheVariants.{GotoMark}
use Rattle.rd_marks.specs.declared.names.MarkName.{MarkName}
use Rattle.rd_marks.specs.declared.stretches.Node.{Node}
use Rattle.rd_marks.specs.BookState.{BookState, events_by_name, goto_mark}
use Rattle.rd_marks.specs.Bookmarks.{named_entries_in, marks_of, stretches_in}
use Rattle.rd_marks.specs.Stretches.{entries_at, NeedsCopy}
use Rattle.rd_cell.specs.declared.refusal.Refusal.TheVariants as refusal

-- the state of a book: its session's state, and its marks with their events
abbrev pub book_state : {R : ℕ} → Book R → BookState
book_state b = record { session = state b.session; marks = marks_of (named_entries_in b.bookmarks) }

-- the session of a book; contracts also use its room and its index
abbrev pub session_of : {R : ℕ} → Book R → Session R
session_of b = b.session

-- the number of names of bookmarks that can be added before memory is asked for
abbrev pub name_room : {R : ℕ} → Book R → ℕ
name_room b = spare b.bookmarks.names

-- the events of the mark of this name are those of a node (`its`), and going there may need memory
-- (`lacks`): the session lacks room for the steps, or the entries of those that aren't live yet must
-- be copied
pub record LacksRoomToGo {R : ℕ} (b : Book R) (name : MarkName) : Type 0 where
  pub node : Node
  pub its : events_by_name (book_state b).marks name ≡ Some (events (entries_at (stretches_in b.bookmarks) node))
  pub lacks : LacksRoomForEvents b.session (events (entries_at (stretches_in b.bookmarks) node)) ⊎ NeedsCopy (stretches_in b.bookmarks) node (state b.session).live

-- if the command goes to a mark, the book may refuse it with this cause: with the refusal of
-- `goto_mark`, or with NoMemory if it lacks room. Of other commands this states nothing
abbrev pub MayRefuseIfGoto : {R : ℕ} → Book R → Command → Refusal → Type 0
MayRefuseIfGoto b (GotoMark name) cause = (goto_mark (book_state b) name ≡ Err cause) ⊎ ((cause ≡ refusal.NoMemory) × LacksRoomToGo b name)
MayRefuseIfGoto b _ _ = Unit {0}
