-- The answer to a line is the refusal of its fault, or what the book answers to its command.
use Rattle.rd_script.proofs.Prelude.{Err, Ok, refl, line_answer, Unread}
use Rattle.rd_script.proofs.script.BookAnswerer.answer.Goals as goal

pub returns-in-Err-clause-answers : goal.returns-in-Err-clause-answers
returns-in-Err-clause-answers g c bytes held =
    (Err (Unread c.in-Err.fault), (Err c.in-Err.fault, c.in-Err.ensures bytes held, (refl, refl), refl), c.set_refusal.ensures)

pub returns-in-Err-obey-clause-answers : goal.returns-in-Err-obey-clause-answers
returns-in-Err-obey-clause-answers g c bytes held =
    let refused = Err c.in-Err-obey.refusal in
    (line_answer refused, (Ok c.in-Ok.command, c.in-Ok.ensures bytes held, (refused, c.in-Err-obey.ensures.answer, refl), c.in-Err-obey.ensures.start), c.set_refusal-in-Err-obey.ensures)

pub returns-in-Ok-obey-clause-answers : goal.returns-in-Ok-obey-clause-answers
returns-in-Ok-obey-clause-answers g c bytes held =
    let replied = Ok c.in-Ok-obey.reply in
    (line_answer replied, (Ok c.in-Ok.command, c.in-Ok.ensures bytes held, (replied, c.in-Ok-obey.ensures.answer, refl), c.in-Ok-obey.ensures.start), c.set_reply.ensures)
