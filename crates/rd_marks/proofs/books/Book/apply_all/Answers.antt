use Rattle.rd_marks.proofs.Prelude.{◌≡◌, ◌+◌, [], ◌∷◌, ◌++◌, take, add-one, arith, take-suc, book_state, take_all}
use Rattle.rd_marks.proofs.ObeyLemmas.{one_more_obeyed}
use Rattle.rd_marks.proofs.books.Book.apply_all.Goals as goal

pub loop-i-preserved : goal.loop-i-preserved
loop-i-preserved g c =
    let cs = c.args.commands.now in
    let i = c.loop-i.i in
    let command = c.index-commands-i.result in
    let more : take i cs ++ command ∷ [] ≡ take (i + 1) cs = grind (arith, c.index-commands-i.is, take-suc cs i command, add-one i) in
    let done = one_more_obeyed (book_state c.args.self.now) (book_state c.loop-i.self) (book_state c.obey-answer.new.self) (take i cs) c.loop-i.answers.items command c.obey-answer.result
    c.loop-i.invariant.obeyed c.obey-answer.ensures.answer in
    grind (arith, more, done, c.obey-answer.ensures.start, c.loop-i.invariant.start)

pub returns-clause-headline : goal.returns-clause-headline
returns-clause-headline g c = record {
  answered = rw (take_all c.loop-i.i c.args.commands.now c.loop-i-test.false) at c.loop-i.invariant.obeyed;
  start = c.loop-i.invariant.start;
  is_run = c.a_book_is_the_run_of_its_live_events.ensures;
}
