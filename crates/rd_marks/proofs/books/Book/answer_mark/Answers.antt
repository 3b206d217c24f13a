use Rattle.rd_marks.proofs.Prelude.{false≢true}
use Rattle.rd_marks.proofs.books.Book.answer_mark.Goals as goal

pub returns-in_err-mark-clause-succeeds : goal.returns-in_err-mark-clause-succeeds
returns-in_err-mark-clause-succeeds g c = λ needs. absurd (false≢true (c.in_err-mark.ensures.succeeds needs.0 needs.1 needs.2))
