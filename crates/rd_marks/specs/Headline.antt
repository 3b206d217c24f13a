-- The headline, as one record: what holds of a book after any list of commands. The rule of undoing
-- is the one of Danos and Krivine 2004.
use Rattle.std.specs.Prelude.{◌≡◌, ◌↔◌, ◌≤◌, ◌<◌, ◌⊎◌, ℕ, List, length, None, Some, Result, Err, IsOk}
use Rattle.rd_step.specs.Prelude.{Refusal, first_dependant}
use Rattle.rd_journal.specs.Journal.{Journal, IsRun}
use Rattle.rd_journal.specs.State.{state_of, undo_at}
use Rattle.rd_marks.specs.declared.commands.Command.{Command}
use Rattle.rd_marks.specs.declared.replies.Reply.{Reply}
use Rattle.rd_marks.specs.BookState.{BookState}
use Rattle.rd_marks.specs.Commands.{AreObeyed}
use Rattle.rd_cell.specs.declared.refusal.Refusal.TheVariants as refusal

-- a book keeps the run of its live events, and a step can be undone alone exactly if no later live
-- step depends on it. `kept` is what the code keeps for this state: the worlds at the start and
-- now, and the entries of the live and the undone steps. This is about the definition `undo_at`;
-- `Headline.answered` ties the code to it
pub record IsRunOfLive (book : BookState) (kept : Journal) : Type 0 where
  -- the start is well-formed. From it, the live events run to the kept world and leave the kept
  -- live entries. From there, the undone events run on and leave the kept undone entries
  pub is_run : IsRun kept
  -- the book's state has the start, the live events and the undone events that are kept
  pub state : book.session ≡ state_of kept
  -- the k-th live step can be undone alone exactly if no later live step depends on it
  pub free : (k : ℕ) → 1 ≤ k → k ≤ length kept.live → IsOk (undo_at book.session k) ↔ (first_dependant kept.live k ≡ None)
  -- undoing the k-th step alone is refused with `Depended j` exactly if step j is its first
  -- dependant
  pub refused : (k j : ℕ) → (undo_at book.session k ≡ Err (refusal.Depended j)) ↔ (first_dependant kept.live k ≡ Some j)
  -- if there is no k-th live step, undoing it is refused, with the number of live steps
  pub missing : (k : ℕ) → (k ≡ 0) ⊎ (length kept.live < k) → undo_at book.session k ≡ Err (refusal.NoSuchStep (length kept.live))

-- these commands led from `old` to `new` with these answers, and the book keeps `kept` then
pub record Headline (old : BookState) (commands : List Command) (answers : List (Result Reply Refusal)) (new : BookState) (kept : Journal) : Type 0 where
  -- each command is answered as it is defined, one after another, and the last one leaves `new`
  pub answered : AreObeyed old commands answers new
  -- the start is still the old one
  pub start : new.session.start ≡ old.session.start
  -- the book keeps the run of its live events, and a step can be undone alone exactly if no later
  -- live step depends on it
  pub is_run : IsRunOfLive new kept
