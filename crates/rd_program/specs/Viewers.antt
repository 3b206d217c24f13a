-- Several scripts over one book: what was written, and how the view ended.
use Rattle.std.specs.Prelude.{◌≡◌, ℕ, Bool, true, false, List, [], ◌++◌, Result, Ok, Err, Vec}
use Rattle.std.specs.Global.{Global}
use Rattle.std.specs.Io.KnownBytes.{Appends}
use Rattle.std.specs.List.{AllByRecursion}
use Rattle.rd_marks.specs.BookState.{BookState}
use Rattle.rd_desk.specs.declared.histories.Call.{Call}
use Rattle.rd_desk.specs.Histories.{CallsLeadTo, entries}
use Rattle.rd_marks.specs.AnyBook.{any_journal, any_state}
use Rattle.rd_devices.specs.Device.{TakesBeginning}
use Rattle.rd_devices.specs.Streams.{GetsNothing, Stream}
use Rattle.rd_trace.specs.Writing.{IsTextOf}
use Rattle.rd_view.specs.declared.faults.ViewFault.TheVariants as view
use Rattle.rd_view.specs.Reports.{SpellsItsCommand, history_text}
use Rattle.rd_view.specs.Viewing.{IsBusyOrNoMemory, ViewOf, view_text}
use Rattle.rd_program.specs.declared.faults.ProgramFault.{ProgramFault}
use Rattle.rd_program.specs.declared.faults.ProgramFault.TheVariants.{View}
use Rattle.rd_program.specs.declared.setups.Left.{Left}
use Rattle.rd_program.specs.declared.setups.ViewExtras.{ViewExtras}

-- the text is that of the recorded calls, if they were asked for, and each line in it is read as
-- its command again; else it is empty
abbrev pub IsHistoryIfAsked : Bool → List (ℕ × Call) → List ℕ → Type 0
IsHistoryIfAsked true history text = (text ≡ history_text history) × AllByRecursion SpellsItsCommand history
IsHistoryIfAsked false history text = text ≡ []

-- the text is the trace of a book in this state, if it was asked for; else it is empty
abbrev pub IsTraceIfAsked : Bool → BookState → List ℕ → Type 0
IsTraceIfAsked true b text = IsTextOf b text
IsTraceIfAsked false b text = text ≡ []

-- the text is this report of viewers who left this history and this book, followed by what was asked
-- for: the recorded calls, then the trace
pub record HasExtras (extras : ViewExtras) (left : Left) (report text : List ℕ) : Type 0 where
  pub calls : List ℕ
  pub trace : List ℕ
  pub are_calls : IsHistoryIfAsked extras.history (entries left.history) calls
  pub is_trace : IsTraceIfAsked extras.trace (any_state left.book) trace
  pub whole : text ≡ report ++ calls ++ trace

module _ (opened : BookState) where
  -- from a book in the state `opened`, the history that viewers left leads to the book that they
  -- left
  abbrev pub LeadsTo : Left → Type 0
  LeadsTo left = ∥ CallsLeadTo opened (entries left.history) (any_state left.book) (any_journal left.book) ∥₁

  -- the report of a view of these scripts over a book in the state `opened`, of which this is left
  pub record IsReport (scripts : List (Vec ℕ Global)) (left : Left) (report : List ℕ) : Type 0 where
    pub views : ViewOf opened scripts (entries left.history)
    pub leads : LeadsTo left
    pub whole : report ≡ view_text opened views

  module _ (scripts : List (Vec ℕ Global)) (extras : ViewExtras) where
    -- the text of a view of which this is left: its report, and what was asked for behind it
    abbrev pub IsViewText : Left → List ℕ → Type 0
    IsViewText left text = (report : List ℕ) × IsReport scripts left report × HasExtras extras left report text

    -- what became of a view, by its result: its text was written whole, for what the result says
    -- was left; or the writer failed (`Write`), and took a beginning of the text; or nothing was
    -- written, at `NoMemory` or `Busy`. There is no other fault
    abbrev pub ViewsOver : Stream → Result Left ProgramFault → Type 0
    ViewsOver s (Ok left) = (text : List ℕ) × IsViewText left text × Appends s.before s.after text × (s.failed ≡ false)
    ViewsOver s (Err (View view.Write)) = (left : Left) × (text : List ℕ) × IsViewText left text × TakesBeginning s.before s.after text × (s.failed ≡ true)
    ViewsOver s (Err (View fault)) = IsBusyOrNoMemory fault × GetsNothing false s
    ViewsOver s (Err _) = ⊥
