use Rattle.rd_marks.proofs.Prelude.{◌-◌, None, refl, sym, arith, named_entries_in, Some, entries_at, stretches_in}
use Rattle.rd_marks.proofs.Starting.{events_length}
use Rattle.rd_marks.proofs.MarkLemmas.{mark_there}
use Rattle.rd_marks.proofs.books.Book.mark_events.Goals as goal

pub returns-in_default : goal.returns-in_default
returns-in_default g c = rw (mark_there (named_entries_in c.args.self.now.bookmarks) c.args.i (c.args.i - 1) None (omega arith) (sym c.in_default.ensures.found)) refl

pub returns-in-Err : goal.returns-in-Err
returns-in-Err g c =
    rw (mark_there (named_entries_in c.args.self.now.bookmarks) c.args.i (c.args.i - 1) (Some (c.in-Some.field-0-0, entries_at (stretches_in c.args.self.now.bookmarks) c.in-Some.node)) (omega arith) (sym c.in-Some.ensures.found))
    (refl, λ none. grind (arith, none, c.in-Err.ensures.succeeds, events_length c.args.self.now.bookmarks.stretches.list.items c.in-Some.node c.in-Some.ensures.within))

pub returns-in-Ok : goal.returns-in-Ok
returns-in-Ok g c =
    rw (mark_there (named_entries_in c.args.self.now.bookmarks) c.args.i (c.args.i - 1) (Some (c.in-Some.field-0-0, entries_at (stretches_in c.args.self.now.bookmarks) c.in-Some.node)) (omega arith) (sym c.in-Some.ensures.found))
    c.in-Ok.ensures.ok
