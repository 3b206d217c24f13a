-- What contracts state of a desk and its passes. A pass of a desk is one of its lock; what it has
-- seen and asked are the lock's `seen` and `own_entries`.
use Rattle.std.specs.Prelude.{ℕ}
use Rattle.rd_lock.specs.declared.views.Recorded.{Ghosts}
use Rattle.rd_lock.specs.declared.passes.Pass.{Pass}
use Rattle.rd_lock.specs.Locks.{seats, opened_origin, IsOut, IsPassOf}
use Rattle.rd_lock.specs.Opening.{IsNewPass}
use Rattle.rd_marks.specs.BookState.{BookState}
use Rattle.rd_marks.specs.Book.{book_state}
use Rattle.rd_marks.specs.declared.books.Book.{Book}
use Rattle.rd_desk.specs.declared.desks.Desk.{Desk}
use Rattle.rd_desk.specs.declared.histories.Call.{Call}
use Rattle.rd_desk.specs.declared.recording.BookWithHistory.{BookWithHistory}

module _ {R : ℕ} where
  -- the number of viewers that the desk was opened for
  abbrev pub viewers : Desk R → ℕ
  viewers desk = seats desk.lock

  -- the state in which the desk's book was opened
  abbrev pub opened_state : Desk R → BookState
  opened_state desk = book_state (opened_origin (λ kept. kept.opened.value) desk.lock)

  module _ {K : Ghosts (BookWithHistory R) Call (Book R)} where
    -- the pass belongs to this desk, and is in no call
    abbrev pub IsViewerOf : Desk R → Pass (BookWithHistory R) Call (Book R) K → Type 0
    IsViewerOf desk pass = IsPassOf desk.lock pass × IsOut pass

    -- the pass is one of this desk, and as it was when the desk was opened: it is in no call, has
    -- seen no history, and knows the lock's words as they began, both 0
    abbrev pub IsNewViewer : Desk R → Pass (BookWithHistory R) Call (Book R) K → Type 0
    IsNewViewer desk pass = IsNewPass desk.lock 0 pass
