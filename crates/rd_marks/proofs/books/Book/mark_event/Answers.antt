use Rattle.rd_marks.proofs.Prelude.{◌-◌, None, refl, sym, arith, named_entries_in, Some, entries_at, stretches_in}
use Rattle.rd_marks.proofs.MarkLemmas.{mark_there}
use Rattle.rd_marks.proofs.books.Book.mark_event.Goals as goal

pub returns-in-None : goal.returns-in-None
returns-in-None g c = rw (mark_there (named_entries_in c.args.self.now.bookmarks) c.args.i (c.args.i - 1) None (omega arith) (sym c.in-None.ensures.found)) refl

pub returns-in-Some : goal.returns-in-Some
returns-in-Some g c =
    rw (mark_there (named_entries_in c.args.self.now.bookmarks) c.args.i (c.args.i - 1) (Some (c.in-Some.field-0-0, entries_at (stretches_in c.args.self.now.bookmarks) c.in-Some.node)) (omega arith) (sym c.in-Some.ensures.found)) c.event_at.ensures
