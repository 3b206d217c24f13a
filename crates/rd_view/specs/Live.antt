-- Viewers that are there at once: what each was answered, and how that agrees with the history that
-- all of them made.
use Rattle.std.specs.Prelude.{◌≡◌, ◌⊎◌, ℕ, suc, List, [], ◌∷◌, Option, Some, None, Result, Ok, Err, IfOk, length, map}
use Rattle.std.specs.List.{AllZip}
use Rattle.rd_cell.specs.declared.refusal.Refusal.{Refusal}
use Rattle.rd_lock.specs.declared.views.Recorded.{Ghosts}
use Rattle.rd_lock.specs.declared.passes.Pass.{Pass}
use Rattle.rd_lock.specs.Histories.{put_by, NamesUpTo}
use Rattle.rd_lock.specs.Locks.{number, seen}
use Rattle.rd_marks.specs.BookState.{BookState}
use Rattle.rd_marks.specs.declared.books.Book.{Book}
use Rattle.rd_marks.specs.declared.commands.Command.{Command}
use Rattle.rd_marks.specs.declared.replies.Reply.{Reply}
use Rattle.rd_desk.specs.declared.desks.Desk.{Desk}
use Rattle.rd_desk.specs.declared.gates.DeskRefusal.{DeskRefusal}
use Rattle.rd_desk.specs.declared.histories.Call.{Call}
use Rattle.rd_desk.specs.declared.recording.BookWithHistory.{BookWithHistory}
use Rattle.rd_desk.specs.Asking.{KnowsAfterAsk, IsLastCall, without_number}
use Rattle.rd_desk.specs.Desks.{opened_state, IsViewerOf}
use Rattle.rd_desk.specs.Histories.{entries, IsLeftBy, IsLegal}
use Rattle.rd_text.specs.declared.answers.AnyRefusal.TheVariants.{Unread}
use Rattle.rd_devices.specs.declared.sources.Source.{Ghosts as SourceOf}
use Rattle.rd_devices.specs.declared.sinks.Sink.{Ghosts as SinkOf}
use Rattle.rd_devices.specs.declared.faults.ScriptFault.{ScriptFault}
use Rattle.rd_text.specs.Lines.{commands_of}
use Rattle.rd_text.specs.Calls.{numbered_text}
use Rattle.rd_script.specs.Conversation.{AreAnswered, Converses}
use Rattle.rd_text.specs.Lines.{ParsedLine}
use Rattle.rd_text.specs.Replies.{LineAnswer}
use Rattle.rd_text.specs.Spelling.{Says}
use Rattle.rd_devices.specs.Streams.{devices}
use Rattle.rd_view.specs.declared.live.LiveEnd.{LiveEnd}
use Rattle.rd_view.specs.declared.live.ViewerEnd.{ViewerEnd}
use Rattle.rd_view.specs.declared.live.ViewerEnd.TheVariants.{Ended, Stopped, NotStarted}
use Rattle.rd_view.specs.Reports.{desk_line_answer}
use Rattle.rd_view.specs.Viewing.{AskedAll}

-- the desk's answer to a call, with the call's number, or its refusal
abbrev pub NumberedAnswer : Type 0
NumberedAnswer = Result (ℕ × Result Reply Refusal) DeskRefusal

-- a reply to a line: the number of the call that the line was, if it was one, and the line's answer
abbrev pub NumberedLine : Type 0
NumberedLine = Option ℕ × LineAnswer

-- the reply to a line that spells a command, from the desk's answer to that command
abbrev pub numbered_line : NumberedAnswer → NumberedLine
numbered_line (Ok call) = (Some call.0, desk_line_answer (Ok call.1))
numbered_line (Err refusal) = (None, desk_line_answer (Err refusal))

-- the replies to lines, in order: a fault gets its refusal, without a number, and a command the one
-- for the next of these answers. If they run out, a command gets none; any left over are dropped
abbrev pub numbered_lines : List ParsedLine → List NumberedAnswer → List NumberedLine
numbered_lines [] given = []
numbered_lines (Err fault ∷ said) given = (None, Err (Unread fault)) ∷ numbered_lines said given
numbered_lines (Ok command ∷ said) (answer ∷ given) = numbered_line answer ∷ numbered_lines said given
numbered_lines (Ok command ∷ said) [] = numbered_lines said []

-- the calls that these answers have numbers of, each with its number, for these commands; both are
-- taken in pairs up to the end of the shorter list
abbrev pub numbered_calls : List Command → List NumberedAnswer → List (ℕ × Call)
numbered_calls (command ∷ commands) (Ok call ∷ given) = (call.0, record { command = command; answer = call.1 }) ∷ numbered_calls commands given
numbered_calls (command ∷ commands) (Err refusal ∷ given) = numbered_calls commands given
numbered_calls [] given = []
numbered_calls (command ∷ commands) [] = []

module _ {T O : Type 0} {K : Ghosts T Call O} (opened : BookState) where
  -- what a viewer makes of a line that spells this command, or has this fault, with its pass before
  -- and after. A fault gets its refusal, and asks nothing. A command gets what the desk answered
  abbrev pub AnswersSaid : Pass T Call O K → ParsedLine → NumberedLine → Pass T Call O K → Type 0
  AnswersSaid old (Err fault) answer new = (answer ≡ (None, Err (Unread fault))) × (new ≡ old)
  AnswersSaid old (Ok command) answer new =
      (given : NumberedAnswer) × (answer ≡ numbered_line given) × KnowsAfterAsk opened old new command (without_number given) × IfOk given (IsLastCall (seen new) (number old) command)

  -- the same for what the line says
  abbrev pub AnswersLine : Pass T Call O K → List ℕ → NumberedLine → Pass T Call O K → Type 0
  AnswersLine old line answer new = (said : ParsedLine) × Says line said × AnswersSaid old said answer new

-- the pass that comes back of a viewer, whether its thread was started or not
abbrev pub pass_of : {L P : Type 0} → (L → P) → Result (P × Result ℕ ScriptFault) L → P
pass_of pass (Ok done) = done.0
pass_of pass (Err task) = pass task

-- how a viewer ended, from what its thread gave back
abbrev pub viewer_end : {L P : Type 0} → Result (P × Result ℕ ScriptFault) L → ViewerEnd
viewer_end (Ok (pass, Ok lines)) = Ended lines
viewer_end (Ok (pass, Err fault)) = Stopped fault
viewer_end (Err task) = NotStarted

-- the viewer of this number asked the commands of these lines, one after another, and got these
-- replies. The lines say this (`says`), the desk answered their commands so (`asked`), and the
-- replies are those answers, beside the refusals of faults (`each`). The viewer's calls in the
-- history are just those that its replies have numbers of, at these numbers (`calls`)
pub record AskedLive (opened : BookState) (history : List (ℕ × Call)) (viewer : ℕ) (lines : List (List ℕ)) (answers : List NumberedLine) : Type 0 where
  pub said : List ParsedLine
  pub says : AllZip Says lines said
  pub given : List NumberedAnswer
  pub asked : AskedAll opened history viewer (commands_of said) (map without_number given)
  pub each : answers ≡ numbered_lines said given
  pub calls : put_by viewer 1 history ≡ numbered_calls (commands_of said) given

-- `opens` is that of the terminals' type, as `Terminal` describes it; `source` and `sink` give the
-- contract-only members of what is opened
module _ {T R W : Type 0} (opens : T → R → W → Type 0) (source : SourceOf R) (sink : SinkOf W) where
  -- the terminal was opened, and a conversation over what it opened, from `reader` to `reader'` and
  -- from `writer` to `writer'`, had this result. `Done` relates the lines to their replies
  pub record Conversed (Done : List (List ℕ) → List NumberedLine → Type 0) (terminal : T) (result : Result ℕ ScriptFault) : Type 0 where
    pub reader : R
    pub reader' : R
    pub writer : W
    pub writer' : W
    pub opened : opens terminal reader writer
    pub converses : Converses (λ answer. numbered_text answer.0 answer.1) Done (devices source sink reader reader' writer writer') result

  -- what came of a viewer that was started, by its result. If the terminal was not opened, nothing
  -- was asked (`NoCall`)
  abbrev pub CameOf : Type 0 → (List (List ℕ) → List NumberedLine → Type 0) → T → Result ℕ ScriptFault → Type 0
  CameOf NoCall Done terminal (Ok lines) = Conversed Done terminal (Ok lines)
  CameOf NoCall Done terminal (Err fault) = NoCall ⊎ Conversed Done terminal (Err fault)

  -- what a viewer's thread gives back: a pass of the desk, and what came of the viewer
  abbrev pub RunsLive : {N : ℕ} {K : Ghosts (BookWithHistory N) Call (Book N)} → Desk N → Pass (BookWithHistory N) Call (Book N) K → T → Pass (BookWithHistory N) Call (Book N) K × Result ℕ ScriptFault → Type 0
  RunsLive desk first terminal done =
      IsViewerOf desk done.0 × CameOf (done.0 ≡ first) (λ lines answers. AreAnswered (AnswersLine (opened_state desk)) first lines answers done.0) terminal done.1

  module _ (opened : BookState) (history : List (ℕ × Call)) where
    -- the viewer of this number, at this terminal, ended so. If it was not started, or its terminal
    -- not opened, it has no call in the history
    abbrev pub IsLiveEnd : ℕ → T → ViewerEnd → Type 0
    IsLiveEnd viewer terminal NotStarted = put_by viewer 1 history ≡ []
    IsLiveEnd viewer terminal (Ended lines) = Conversed (AskedLive opened history viewer) terminal (Ok lines)
    IsLiveEnd viewer terminal (Stopped fault) = (put_by viewer 1 history ≡ []) ⊎ Conversed (AskedLive opened history viewer) terminal (Err fault)

    -- the viewers from this number on, one at each terminal, ended so
    abbrev pub AreLiveEnds : ℕ → List T → List ViewerEnd → Type 0
    AreLiveEnds viewer [] [] = Unit {0}
    AreLiveEnds viewer (terminal ∷ terminals) (end ∷ ends) = IsLiveEnd viewer terminal end × AreLiveEnds (suc viewer) terminals ends
    AreLiveEnds viewer [] (end ∷ ends) = ⊥
    AreLiveEnds viewer (terminal ∷ terminals) [] = ⊥

  -- what the viewers at these terminals left: a legal history of the opened book, whose entries
  -- each name one of the viewers and which led to this book; and how each viewer ended
  pub record IsLive {N : ℕ} (opened : BookState) (terminals : List T) (live : LiveEnd N) : Type 0 where
    pub legal : IsLegal opened (entries live.history)
    pub leaves : IsLeftBy opened (entries live.history) live.book
    pub named : NamesUpTo (length terminals) (entries live.history)
    pub ended : AreLiveEnds opened (entries live.history) 1 terminals live.ends.items
