use Rattle.rd_view.proofs.Prelude.{◌≡◌, ◌++◌, drop, take, AllByRecursion, entries}
use Rattle.rd_view.specs.Reports.{SpellsItsCommand, history_text}
use Rattle.rd_view.proofs.reports.put_history.Given as goal

-- the calls before this one are in the text, and each of their lines is read as its command
abbrev pub invariant-loop-viewer : goal.invariant-loop-viewer
invariant-loop-viewer l = record {
  text : l.text.items ++ history_text (drop l.viewer-index (entries l.history)) ≡ l.initial.text.items ++ history_text (entries l.history);
  read : AllByRecursion SpellsItsCommand (take l.viewer-index (entries l.history));
}
