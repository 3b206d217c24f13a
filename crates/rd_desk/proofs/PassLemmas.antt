-- What the viewer who asked knows after a call under the lock.
use Rattle.rd_desk.proofs.Prelude.{ℕ, List, [], ◌∷◌, sym, ◌∙◌, Ok, Err, IfErr, AddsOwn, Answer, BookState, Call, Command, Continues, Ghosts, HistoryFull, IsLegal, IsRefusalOfAsk, LeavesHistory, SeesAfter, KnowsWords, NotRecorded, Pass, append-nil, viewer_entry}

module _ {T O : Type 0} {K : Ghosts T Call O} (opened : BookState) (viewer : ℕ) (old found new : List (ℕ × Call)) (c : Command) (pass : Pass T Call O K) where
  -- the history that is put back is the one that was found, followed by entries of this viewer. The
  -- answer is no refusal of the lock. If the viewer had seen a beginning of what was found, it has
  -- seen what `SeesAfter` allows
  pub recorded_by : (r : Answer) → LeavesHistory viewer found c r new
      → AddsOwn viewer found new × IfErr r IsRefusalOfAsk × KnowsWords pass r × (Continues viewer old found → IsLegal opened new → SeesAfter opened viewer old c r new)
  recorded_by (Ok answer) is = (((viewer_entry viewer c answer).1 ∷ [], is.1), tt, tt, λ on legal. (found, on, is, legal))
  recorded_by (Err HistoryFull) is = (([], is.1 ∙ sym (append-nil found)), tt, tt, λ on legal. (found, on, is, legal))
  recorded_by (Err NotRecorded) is = (([], is.1 ∙ sym (append-nil found)), tt, tt, λ on legal. (found, on, is, legal))
  recorded_by _ is = absurd is
