use Rattle.rd_marks.proofs.Prelude.{◌-◌, None, Some, refl, sym, arith, named_entries_in, entries_at, stretches_in}
use Rattle.rd_marks.proofs.Starting.{events_length}
use Rattle.rd_marks.proofs.MarkLemmas.{mark_there}
use Rattle.rd_marks.proofs.books.Book.mark_at.Goals as goal

pub returns-in-None : goal.returns-in-None
returns-in-None g c = rw (mark_there (named_entries_in c.args.self.now.bookmarks) c.args.i (c.args.i - 1) None (omega arith) (sym c.in-None.ensures.found)) refl

pub returns-in-Some : goal.returns-in-Some
returns-in-Some g c =
    let xs = entries_at (stretches_in c.args.self.now.bookmarks) c.in-Some.node in
    let there = mark_there (named_entries_in c.args.self.now.bookmarks) c.args.i (c.args.i - 1) (Some (c.in-Some.name, xs)) (omega arith) (sym c.in-Some.ensures.found) in
    rw (there, events_length c.args.self.now.bookmarks.stretches.list.items c.in-Some.node c.in-Some.ensures.within) refl
