use Rattle.rd_view.proofs.Prelude.{◌≡◌, ◌+◌, ◌++◌, drop, viewers_text}
use Rattle.rd_view.proofs.reports.text_of_view.Given as goal

-- the viewers before this one are in the text
abbrev pub invariant-loop-i : goal.invariant-loop-i
invariant-loop-i l = l.text.items ++ viewers_text (l.i + 1) (drop l.i l.said) (drop l.i l.answered) l.calls ≡ viewers_text 1 l.said l.answered l.calls
