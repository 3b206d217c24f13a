-- What a viewer knows after a call.
use Rattle.std.specs.Prelude.{◌≡◌, ◌^◌, ℕ, List, length, IfErr, Result, Ok, Err, Some}
use Rattle.rd_cell.specs.declared.refusal.Refusal.{Refusal}
use Rattle.rd_lock.specs.declared.views.Recorded.{Ghosts}
use Rattle.rd_lock.specs.declared.passes.Pass.{Pass}
use Rattle.rd_lock.specs.declared.tickets.TryTakeError.TheVariants as missed
use Rattle.rd_lock.specs.Histories.{Continues}
use Rattle.rd_lock.specs.Locks.{number, seen, next_seen, KnowsNoLess, IsMissed}
use Rattle.rd_marks.specs.BookState.{BookState}
use Rattle.rd_marks.specs.declared.commands.Command.{Command}
use Rattle.rd_marks.specs.declared.replies.Reply.{Reply}
use Rattle.rd_step.specs.Lists.{numbered}
use Rattle.rd_desk.specs.declared.gates.DeskRefusal.{DeskRefusal}
use Rattle.rd_desk.specs.declared.gates.DeskRefusal.TheVariants.{TicketsEnded, Busy}
use Rattle.rd_desk.specs.declared.histories.Call.{Call}
use Rattle.rd_desk.specs.Histories.{Answer, viewer_entry, IsLegal, LeavesHistory}

-- the refusal is not `Busy`, which only a call that never waits returns
abbrev pub IsRefusalOfAsk : DeskRefusal → Type 0
IsRefusalOfAsk (Busy words) = ⊥
IsRefusalOfAsk _ = Unit {0}

-- the answer to a call without the call's number
abbrev pub without_number : Result (ℕ × Result Reply Refusal) DeskRefusal → Answer
without_number (Ok call) = Ok call.1
without_number (Err refusal) = Err refusal

-- the history ends with this viewer's call of the command, and the call has this number there
-- (`.0`) and this answer (`.1`). So all calls that came before it are before it there
abbrev pub IsLastCall : List (ℕ × Call) → ℕ → Command → ℕ × Result Reply Refusal → Type 0
IsLastCall history viewer command call = (call.0 ≡ length history) × (numbered history call.0 ≡ Some (viewer_entry viewer command call.1))

module _ (opened : BookState) where
  -- what a call adds to the history that the viewer of this number has seen, from `old` to `new`. A
  -- refusal without the lock, `TicketsEnded` or `Busy`, adds nothing. Otherwise the call found
  -- `old` followed by calls of other viewers only, `new` is what the call made of that, and `new`
  -- is a legal history of the opened book
  abbrev pub SeesAfter : ℕ → List (ℕ × Call) → Command → Answer → List (ℕ × Call) → Type 0
  SeesAfter viewer old command (Err TicketsEnded) new = new ≡ old
  SeesAfter viewer old command (Err (Busy words)) new = new ≡ old
  SeesAfter viewer old command answer new =
      (found : List (ℕ × Call)) × Continues viewer old found × LeavesHistory viewer found command answer new × IsLegal opened new

module _ {T O : Type 0} {K : Ghosts T Call O} where
  -- what a refusal without the lock tells of its two words. At `TicketsEnded` the viewer knows that
  -- `next` has reached 2^63. `Busy` has the greatest words that the viewer has seen, `served` below
  -- `next` and `next` below 2^63. Any other answer tells nothing of them
  abbrev pub KnowsWords : Pass T Call O K → Answer → Type 0
  KnowsWords pass (Err TicketsEnded) = IsMissed pass missed.TicketsEnded
  KnowsWords pass (Err (Busy words)) = IsMissed pass (missed.Busy words)
  KnowsWords pass answer = Unit {0}

  module _ (opened : BookState) (old new : Pass T Call O K) (command : Command) (answer : Answer) where
    -- what a viewer knows after a call: its pass has the same number (`same_number`) and has seen
    -- the history that `SeesAfter` allows (`has_seen`). What it knows of the lock's words has only
    -- grown (`grown`), and agrees with a refusal that tells of them (`words`)
    pub record KnowsAfterCall : Type 0 where
      pub same_number : number new ≡ number old
      pub has_seen : SeesAfter opened (number old) (seen old) command answer (seen new)
      pub grown : KnowsNoLess old new
      pub words : KnowsWords new answer

    -- what a viewer knows after a call that may wait: what it knows after any call (`outcome`). The
    -- answer is never `Busy` (`never_busy`). A viewer that had seen all tickets drawn gets
    -- `TicketsEnded` (`ended`)
    pub record KnowsAfterAsk : Type 0 where
      pub outcome : KnowsAfterCall
      pub never_busy : IfErr answer IsRefusalOfAsk
      pub ended : next_seen old ≡ 2 ^ 63 → answer ≡ Err TicketsEnded
