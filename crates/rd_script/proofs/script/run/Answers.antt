use Rattle.rd_script.proofs.Prelude.{answer_text, book_state, journal, session_of, AreAnswered, AreObeyedLines, BookAnswers}
use Rattle.rd_script.proofs.ConversationLemmas.{Converses-weaker, some_answered}
use Rattle.rd_script.proofs.ScriptLemmas.{obeyed_from_start}
use Rattle.rd_script.proofs.script.run.Goals as goal

pub returns : goal.returns
returns g c =
    let old = c.args.book.now in
    let new = c.converse.new.answerer in
    let obeyed = Converses-weaker answer_text (λ lines answers. AreAnswered BookAnswers old lines answers new) (λ lines answers. AreObeyedLines (book_state old) lines answers (book_state new) (journal (session_of new)))
    (obeyed_from_start old new) _ _ c.converse.ensures.converses in
    record { runs = obeyed; start = (some_answered answer_text _ _ _ obeyed).2.headline.start }
