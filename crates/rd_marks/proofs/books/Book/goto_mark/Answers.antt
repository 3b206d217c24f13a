use Rattle.rd_marks.proofs.Prelude.{List, sym, ap, ◌∙◌, option_map, arith, Entry, state, book_state, named_entries_in, entries_at, stretches_in, AreEntriesOfRun, mark_name_eq, events}
use Rattle.rd_marks.proofs.MarkLemmas.{all_found, found_events, goto_not_done, goto_steps}
use Rattle.rd_marks.proofs.ObeyLemmas.{start_kept}
use Rattle.rd_marks.proofs.books.Book.goto_mark.Goals as goal

pub go_to-requires : goal.go_to-requires
go_to-requires g c =
    let fact = all_found (mark_name_eq c.args.name) (λ (xs : List Entry). AreEntriesOfRun (state c.args.self.now.session).start xs) (named_entries_in c.args.self.now.bookmarks)
    (entries_at (stretches_in c.args.self.now.bookmarks) c.in-Some.node) c.args.self.now.runs in
    grind (arith, c.args.self.now.stands, c.in-Some.ensures.within, fact)

pub returns-clause-err : goal.returns-clause-err
returns-clause-err g c =
    goto_not_done _ c.go_to.result (book_state c.args.self.now) c.args.name (events (entries_at (stretches_in c.args.self.now.bookmarks) c.in-Some.node))
    (found_events c.args.name (named_entries_in c.args.self.now.bookmarks) ∙ ap (option_map events) (sym c.in-Some.ensures.found)) c.go_to.ensures.err c.go_to.ensures.succeeds

pub invariant_of-self-clause-runs : goal.invariant_of-self-clause-runs
invariant_of-self-clause-runs g c = rw (start_kept c.go_to.result _ _ _ c.go_to.ensures.ok c.go_to.ensures.unchanged, c.go_to.ensures.lists) c.args.self.now.runs

pub returns-in_default-clause-err : goal.returns-in_default-clause-err
returns-in_default-clause-err g c = grind (arith, goto_steps)

pub returns-in_default-clause-memory : goal.returns-in_default-clause-memory
returns-in_default-clause-memory g c = grind (arith, goto_steps)

pub returns-clause-ok : goal.returns-clause-ok
returns-clause-ok g c = grind (arith, goto_steps)

pub returns-clause-memory : goal.returns-clause-memory
returns-clause-memory g c = grind (arith, goto_steps)
