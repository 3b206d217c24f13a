use Rattle.rd_view.proofs.Prelude.{◌≡◌, ◌++◌, drop, map, desk_line_answer, line_answers, report_of}
use Rattle.rd_view.proofs.reports.put_report.Given as goal

-- the answers to the lines before this one are in the text
abbrev pub invariant-loop-parsed : goal.invariant-loop-parsed
invariant-loop-parsed l = l.text.items ++ report_of (line_answers (drop l.parsed-index l.lines) (map desk_line_answer l.rest)) ≡ l.initial.text.items ++ report_of (line_answers l.lines (map desk_line_answer l.answers))
