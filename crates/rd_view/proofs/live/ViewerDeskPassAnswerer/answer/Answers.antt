use Rattle.rd_view.proofs.Prelude.{Err, None, Ok, Unread, numbered_line, refl}
use Rattle.rd_view.proofs.live.ViewerDeskPassAnswerer.answer.Goals as goal

pub returns-in-Err-clause-answers : goal.returns-in-Err-clause-answers
returns-in-Err-clause-answers g c bytes held = ((None, Err (Unread c.in-Err.fault)), (refl, (Err c.in-Err.fault, c.in-Err.ensures bytes held, (refl, refl))), c.set_numbered_answer.ensures)

pub returns-in-Ok-clause-answers : goal.returns-in-Ok-clause-answers
returns-in-Ok-clause-answers g c bytes held =
    let asked = c.ask_numbered-numbered in
    (numbered_line asked.result, (refl, (Ok c.in-Ok.command, c.in-Ok.ensures bytes held, (asked.result, refl, asked.ensures.outcome, asked.ensures.number))), c.set_desk_answer.ensures)
