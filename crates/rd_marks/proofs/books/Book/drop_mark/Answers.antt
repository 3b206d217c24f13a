use Rattle.rd_marks.proofs.Prelude.{◌∙◌, List, refl, sym, arith, Entry, state, MarkName, named_entries_in, AreEntriesOfRun, mark_name_eq}
use Rattle.rd_marks.proofs.Here.{still_begins}
use Rattle.rd_marks.proofs.MarkLemmas.{all_without, found_marked, marks_without, none_removed}
use Rattle.rd_marks.proofs.books.Book.drop_mark.Goals as goal

pub invariant_of-self : goal.invariant_of-self
invariant_of-self g c = record {
  runs = rw c.remove.ensures.lists (all_without (mark_name_eq c.args.name) (λ (l : MarkName × List Entry). AreEntriesOfRun (state c.args.self.now.session).start l.1) _ c.args.self.now.runs);
  stands = still_begins _ _ c.remove.ensures.here _ c.args.self.now.stands;
}

pub returns-then-remove-clause-ok : goal.returns-then-remove-clause-ok
returns-then-remove-clause-ok g c =
    let lists = named_entries_in c.args.self.now.bookmarks in
    rw (found_marked c.args.name lists, sym c.remove.ensures.found ∙ c.if-remove.true, c.remove.ensures.lists, marks_without c.args.name lists) refl

pub returns-else-remove-clause-err : goal.returns-else-remove-clause-err
returns-else-remove-clause-err g c = rw (found_marked c.args.name (named_entries_in c.args.self.now.bookmarks), sym c.remove.ensures.found ∙ c.if-remove.false) refl

pub returns-else-remove-clause-unchanged : goal.returns-else-remove-clause-unchanged
returns-else-remove-clause-unchanged g c = grind (arith, none_removed)
