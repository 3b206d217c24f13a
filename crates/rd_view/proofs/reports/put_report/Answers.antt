use Rattle.rd_view.proofs.Prelude.{◌≡◌, [], ◌++◌, ◌+◌, arith, refl, drop, append-nil, drop_of_length-le, nil_from_length, map, desk_line_answer, drop_more, line_answers, report_of, answer_text}
use Rattle.rd_view.proofs.ReportLemmas.{whole_after_append}
use Rattle.rd_view.proofs.reports.put_report.Goals.{in-Err, in-Ok+in-Some}
use Rattle.rd_view.proofs.reports.put_report.Goals as goal

pub loop-parsed-preserved : goal.loop-parsed-preserved
loop-parsed-preserved c =
    let lines = c.args.lines.now in
    let i = c.loop-parsed.parsed-index in
    let here = drop_more lines i c.parsed-item.result (omega arith) in
    let is = c.parsed-item.is in
    let next : report_of (line_answers (drop i lines) (map desk_line_answer c.loop-parsed.rest.now)) ≡ answer_text c.match-parsed.answer ++ report_of (line_answers (drop (i + 1) lines) (map desk_line_answer c.match-parsed.rest.now)) =
    elim c.match-parsed.branch [
      | in-Err w ↦ rw (here, ← is, w.in-Err.is, w.answer-is, w.rest-is) refl
      | in-Ok+in-Some w ↦ rw (here, ← is, w.in-Ok.is, w.in-Some.ensures.cases.0, w.answer-is, w.rest-is, w.desk_line_answer-answer.ensures) refl
    ] in
    whole_after_append c.loop-parsed.text.items c.put_answer.new.text.items (answer_text c.match-parsed.answer) _ (report_of (line_answers (drop (i + 1) lines) (map desk_line_answer c.match-parsed.rest.now))) _ c.in_ok-put_answer.ensures next c.loop-parsed.invariant

pub loop-parsed-preserved-in_default : goal.loop-parsed-preserved-in_default
loop-parsed-preserved-in_default c =
    let none = nil_from_length c.loop-parsed.rest.now c.in_default.ensures.cases in
    let here = drop_more c.args.lines.now c.loop-parsed.parsed-index c.parsed-item.result (omega arith) in rw (← c.loop-parsed.invariant, here, ← c.parsed-item.is, c.in-Ok.is, none) refl

pub returns : goal.returns
returns c = let none : drop c.loop-parsed.parsed-index c.args.lines.now ≡ [] = drop_of_length-le c.args.lines.now (omega arith) in rw (← c.loop-parsed.invariant, none, append-nil) refl
