-- A view: what each viewer was answered, and how that agrees with the history that all of them
-- made.
use Rattle.std.specs.Prelude.{◌≡◌, ℕ, suc, ◌<◌, true, false, List, [], ◌∷◌, Option, Some, None, Result, Ok, Err, IfErr, Vec, length, map}
use Rattle.std.specs.Global.{Global}
use Rattle.std.specs.Io.KnownBytes.{Appends}
use Rattle.rd_marks.specs.BookState.{BookState}
use Rattle.rd_marks.specs.declared.commands.Command.{Command}
use Rattle.rd_lock.specs.Histories.{put_by, Continues, NamesUpTo}
use Rattle.rd_desk.specs.declared.gates.DeskRefusal.TheVariants.{TicketsEnded}
use Rattle.rd_desk.specs.declared.histories.Call.{Call}
use Rattle.rd_desk.specs.declared.histories.History.{History}
use Rattle.rd_desk.specs.Histories.{Answer, entries, IsLeftBy, IsLegal}
use Rattle.rd_desk.specs.Asking.{SeesAfter, IsRefusalOfAsk}
use Rattle.rd_desk.specs.Viewers.{IsChain}
use Rattle.std.specs.List.{AllByRecursion, AllZip}
use Rattle.rd_devices.specs.Device.{TakesBeginning}
use Rattle.rd_text.specs.Lines.{commands_of}
use Rattle.rd_text.specs.Lines.{ParsedLine, lines_of}
use Rattle.rd_text.specs.Spelling.{Says}
use Rattle.rd_devices.specs.Streams.{GetsNothing, Stream}
use Rattle.rd_view.specs.declared.faults.ViewFault.{ViewFault}
use Rattle.rd_view.specs.declared.viewing.Viewed.{Viewed}
use Rattle.rd_view.specs.declared.faults.ViewFault.TheVariants as view
use Rattle.rd_view.specs.Reports.{viewers_text}

-- for each script, these are the commands and the faults of its lines, in order
abbrev pub AreParsed : List (Vec ℕ Global) → List (Vec ParsedLine Global) → Type 0
AreParsed scripts said = AllZip (λ script lines. AllZip Says (lines_of script.items) lines.items) scripts said

-- the calls that a history records for these commands and answers, taken in pairs up to the end of
-- the shorter list: those that the desk did not refuse
abbrev pub recorded_calls : List Command → List Answer → List Call
recorded_calls (command ∷ commands) (Ok answer ∷ answers) = record { command = command; answer = answer } ∷ recorded_calls commands answers
recorded_calls (command ∷ commands) (Err refusal ∷ answers) = recorded_calls commands answers
recorded_calls [] answers = []
recorded_calls (command ∷ commands) [] = []

-- the fault of a view of which nothing was written: `NoMemory`, or `Busy` with the two words of the
-- lock, `served` below `next`, so that a drawn ticket was not finished. It is never `Write`
abbrev pub IsBusyOrNoMemory : ViewFault → Type 0
IsBusyOrNoMemory view.NoMemory = Unit {0}
IsBusyOrNoMemory view.Write = ⊥
IsBusyOrNoMemory (view.Busy words) = words.served < words.next

-- after an answer `TicketsEnded`, every later answer is `TicketsEnded` too
abbrev pub TicketsStayEnded : List Answer → Type 0
TicketsStayEnded [] = Unit {0}
TicketsStayEnded (answer ∷ answers) = (answer ≡ Err TicketsEnded → AllByRecursion (λ later. later ≡ Err TicketsEnded) answers) × TicketsStayEnded answers

module _ (opened : BookState) (history : List (ℕ × Call)) where
  -- the viewer of this number asked these commands, one after another, and got these answers, each
  -- as `SeesAfter` says (`chain`). In `seen` is the history that it has seen at the end; only calls
  -- of other viewers come after it (`continues`). The viewer's calls in the history are just those
  -- that were recorded, in order (`calls`). No answer is `Busy` (`never_busy`), and after `TicketsEnded`
  -- there is no other answer (`ended`)
  pub record AskedAll (viewer : ℕ) (commands : List Command) (answers : List Answer) : Type 0 where
    pub seen : List (ℕ × Call)
    pub chain : IsChain (SeesAfter opened viewer) [] commands answers seen
    pub continues : Continues viewer seen history
    pub calls : map (λ e. e.1) (put_by viewer 1 history) ≡ recorded_calls commands answers
    pub never_busy : AllByRecursion (λ answer. IfErr answer IsRefusalOfAsk) answers
    pub ended : TicketsStayEnded answers

  -- the viewer of this number got these answers to its commands, or its thread was not started, and
  -- it has no call in the history
  abbrev pub IsAnswered : ℕ → List Command → Option (Vec Answer Global) → Type 0
  IsAnswered viewer commands (Some answers) = AskedAll viewer commands answers.items
  IsAnswered viewer commands None = put_by viewer 1 history ≡ []

  -- the viewers from this number on got these answers to the commands of their lines, with one list
  -- of lines and one of answers for each
  abbrev pub AreAllAnswered : ℕ → List (Vec ParsedLine Global) → List (Option (Vec Answer Global)) → Type 0
  AreAllAnswered viewer [] [] = Unit {0}
  AreAllAnswered viewer (said ∷ others) (answered ∷ more) = IsAnswered viewer (commands_of said.items) answered × AreAllAnswered (suc viewer) others more
  AreAllAnswered viewer [] (answered ∷ more) = ⊥
  AreAllAnswered viewer (said ∷ others) [] = ⊥

module _ (opened : BookState) where
  -- the history is legal from the book that was opened, each of its entries names one of the
  -- viewers, and the viewers got these answers to the commands of these lines
  pub record IsViewed (said : List (Vec ParsedLine Global)) (answered : List (Option (Vec Answer Global))) (history : List (ℕ × Call)) : Type 0 where
    pub legal : IsLegal opened history
    pub named : NamesUpTo (length said) history
    pub are_answered : AreAllAnswered opened history 1 said answered

  -- a view of these scripts with this history: what their lines spell, and the answers to the
  -- viewers, which agree with the history
  pub record ViewOf (scripts : List (Vec ℕ Global)) (history : List (ℕ × Call)) : Type 0 where
    pub said : List (Vec ParsedLine Global)
    pub answered : List (Option (Vec Answer Global))
    pub are_parsed : AreParsed scripts said
    pub is_viewed : IsViewed said answered history

  -- the text of a view: each viewer's heading and answers, and the number of calls in its history
  abbrev pub view_text : {scripts : List (Vec ℕ Global)} {history : List (ℕ × Call)} → ViewOf scripts history → List ℕ
  view_text {history = history} views = viewers_text 1 views.said views.answered (length history)

  -- what the viewers of these scripts left: a history with the text of its view, and the book to
  -- which this history led
  pub record IsMadeBy {N : ℕ} (scripts : List (Vec ℕ Global)) (viewed : Viewed N) : Type 0 where
    pub views : ViewOf scripts (entries viewed.history)
    pub text : viewed.text.items ≡ view_text views
    pub leaves : IsLeftBy opened (entries viewed.history) viewed.book

  -- what became of a view of these scripts, by its result: its text was written whole; or the
  -- writer failed (`Write`), and took a beginning of it; or nothing was written, at `NoMemory` or
  -- `Busy`
  abbrev pub ViewsScripts : List (Vec ℕ Global) → Stream → Result History ViewFault → Type 0
  ViewsScripts scripts s (Ok history) = (views : ViewOf scripts (entries history)) × Appends s.before s.after (view_text views) × (s.failed ≡ false)
  ViewsScripts scripts s (Err view.Write) =
      (history : List (ℕ × Call)) × (views : ViewOf scripts history) × TakesBeginning s.before s.after (view_text views) × (s.failed ≡ true)
  ViewsScripts scripts s (Err fault) = IsBusyOrNoMemory fault × GetsNothing false s
