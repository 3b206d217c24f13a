use Rattle.rd_marks.proofs.Prelude.{refl, marks_of, named_entries_in, state}
use Rattle.rd_marks.proofs.AnswerLemmas.{move_answered}
use Rattle.rd_marks.proofs.ObeyLemmas.{answers_start, forward_start}
use Rattle.rd_marks.proofs.books.Book.answer_forward.Goals as goal

pub invariant_of-self : goal.invariant_of-self
invariant_of-self g c =
    let start = answers_start _ c.forward-done.result c.args.self.now.session c.forward-done.new.self (forward_start (state c.args.self.now.session) c.args.n) c.forward-done.ensures.state in
    record { runs = rw start c.args.self.now.runs; stands = rw c.forward-done.ensures.along.track c.args.self.now.stands }

pub returns : goal.returns
returns g c =
    move_answered c.args.self.now.session c.forward-done.new.self (marks_of (named_entries_in c.args.self.now.bookmarks)) _ c.answer_to_move.result c.forward-done.result _
    c.forward-done.ensures.state refl c.answer_to_move.ensures.ok c.answer_to_move.ensures.err
