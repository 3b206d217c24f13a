-- Books whose ring is known only when the program runs.
use Rattle.std.specs.Prelude.{◌≡◌, ℕ, []}
use Rattle.rd_step.specs.Starts.{fresh_world}
use Rattle.rd_journal.specs.Journal.{Journal}
use Rattle.rd_journal.specs.Sessions.{journal}
use Rattle.rd_marks.specs.Book.{book_state, session_of}
use Rattle.rd_marks.specs.BookState.{BookState}
use Rattle.rd_marks.specs.declared.any_book.AnyBook.{AnyBook}
use Rattle.rd_marks.specs.declared.any_book.AnyBook.TheVariants.{Two, Four, Eight}

-- the state of a book
abbrev pub any_state : AnyBook → BookState
any_state (Two book) = book_state book
any_state (Four book) = book_state book
any_state (Eight book) = book_state book

-- the journal that a book keeps
abbrev pub any_journal : AnyBook → Journal
any_journal (Two book) = journal (session_of book)
any_journal (Four book) = journal (session_of book)
any_journal (Eight book) = journal (session_of book)

-- the state of a book in which nothing was done yet, over the fresh world with rings of R cells and
-- this many actors
abbrev pub fresh_state : ℕ → ℕ → BookState
fresh_state R actors = record { session = record { start = fresh_world R actors; live = []; undone = [] }; marks = [] }

-- the book is in this state
abbrev pub IsBookIn : BookState → AnyBook → Type 0
IsBookIn b book = any_state book ≡ b
