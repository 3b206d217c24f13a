-- The history of a desk: its entries, when these are legal, and what a call adds.
use Rattle.std.specs.Prelude.{◌≡◌, ◌⊎◌, ◌<◌, ◌*◌, ◌^◌, ℕ, List, [], ◌∷◌, ◌++◌, map, length, Result, Ok, Err}
use Rattle.rd_cell.specs.declared.refusal.Refusal.{Refusal}
use Rattle.rd_journal.specs.Journal.{Journal}
use Rattle.rd_journal.specs.Sessions.{journal}
use Rattle.rd_marks.specs.Book.{book_state, session_of}
use Rattle.rd_marks.specs.BookState.{BookState}
use Rattle.rd_marks.specs.Headline.{Headline}
use Rattle.rd_marks.specs.declared.books.Book.{Book}
use Rattle.rd_marks.specs.declared.commands.Command.{Command}
use Rattle.rd_marks.specs.declared.replies.Reply.{Reply}
use Rattle.rd_desk.specs.declared.gates.DeskRefusal.{DeskRefusal}
use Rattle.rd_desk.specs.declared.gates.DeskRefusal.TheVariants.{HistoryFull, NotRecorded, TicketsEnded, Busy}
use Rattle.rd_desk.specs.declared.histories.Call.{Call}
use Rattle.rd_desk.specs.declared.histories.History.{History}
pub use Rattle.rd_desk.specs.declared.histories.TheConstants.{MOST_CALLS}

-- the answer to a viewer's call: the book's answer to the command, or the desk's refusal
abbrev pub Answer : Type 0
Answer = Result (Result Reply Refusal) DeskRefusal

-- the calls of a history in order, each with the number of its viewer
abbrev pub entries : History → List (ℕ × Call)
entries history = history.entries.items

-- the entry for this viewer's command and the book's answer to it
abbrev pub viewer_entry : ℕ → Command → Result Reply Refusal → ℕ × Call
viewer_entry viewer command answer = (viewer, record { command = command; answer = answer })

-- from a book in state b, the commands of these calls get the answers that the calls record, and
-- lead to the state `last`; the book then keeps the journal `kept`
abbrev pub CallsLeadTo : BookState → List (ℕ × Call) → BookState → Journal → Type 0
CallsLeadTo b calls last kept = Headline b (map (λ call. call.1.command) calls) (map (λ call. call.1.answer) calls) last kept

-- the calls are a legal history of a book in state b: they lead to some state (the bars mean that
-- it exists, but not which it is)
abbrev pub IsLegal : BookState → List (ℕ × Call) → Type 0
IsLegal b es = ∥ ((last : BookState) × (kept : Journal) × CallsLeadTo b es last kept) ∥₁

-- the calls are a legal history of a book in state b, and lead to just this book
abbrev pub IsLeftBy : {R : ℕ} → BookState → List (ℕ × Call) → Book R → Type 0
IsLeftBy b es book = ∥ CallsLeadTo b es (book_state book) (journal (session_of book)) ∥₁

-- a desk's list may have room for this many calls: for none at first, then for 4, and for twice as
-- many each time that it grows (the bars mean that there is such a case, but not which)
abbrev pub IsCapacity : ℕ → Type 0
IsCapacity n = ∥ (n ≡ 0) ⊎ ((k : ℕ) × (n ≡ 4 * 2 ^ k)) ∥₁

-- what a call under the lock makes of the history that it found. If it is answered, there were
-- fewer than MOST_CALLS calls, and the viewer's call is added. `HistoryFull` means that there are
-- MOST_CALLS calls. `NotRecorded` means that there are fewer, at a length at which the list may be
-- full. Both leave the history as it was, and there is no other refusal
abbrev pub LeavesHistory : ℕ → List (ℕ × Call) → Command → Answer → List (ℕ × Call) → Type 0
LeavesHistory viewer found command (Ok answer) new = (length found < MOST_CALLS) × (new ≡ found ++ viewer_entry viewer command answer ∷ [])
LeavesHistory viewer found command (Err HistoryFull) new = (length found ≡ MOST_CALLS) × (new ≡ found)
LeavesHistory viewer found command (Err NotRecorded) new = (length found < MOST_CALLS) × (new ≡ found) × IsCapacity (length found)
LeavesHistory viewer found command (Err TicketsEnded) new = ⊥
LeavesHistory viewer found command (Err (Busy words)) new = ⊥
