use Rattle.rd_marks.proofs.Prelude.{arith, Ok, List, sym, ap, ◌∙◌, option_map, Entry, state, AreEntriesOfRun, mark_name_eq, events}
use Rattle.rd_marks.proofs.MarkLemmas.{all_found, found_events, both_there, goto_steps}
use Rattle.rd_marks.proofs.books.Book.same.Goals as goal

pub returns-in-Ok : goal.returns-in-Ok
returns-in-Ok g c =
    let book = c.args.self.now in
    let runs = λ (xs : List Entry). AreEntriesOfRun (state book.session).start xs in
    both_there _ _ _ _ _ (Ok c.in-Ok.same) (found_events c.args.one _ ∙ ap (option_map events) (sym c.in-Some.ensures.found))
    (found_events c.args.other _ ∙ ap (option_map events) (sym c.in-Some-find.ensures.found))
    (c.in-Ok.ensures.answer _ (all_found (mark_name_eq c.args.one) runs _ _ book.runs (sym c.in-Some.ensures.found)).ran
    (all_found (mark_name_eq c.args.other) runs _ _ book.runs (sym c.in-Some-find.ensures.found)).ran)

pub returns-in_default : goal.returns-in_default
returns-in_default g c = grind (arith, goto_steps)

pub returns-in_default-find : goal.returns-in_default-find
returns-in_default-find g c = grind (arith, goto_steps)

pub returns-in-Err : goal.returns-in-Err
returns-in-Err g c = grind (arith, goto_steps)
