use Rattle.rd_marks.proofs.Prelude.{arith, named_entries_in, sym, List, IsDistinct, length-map, MarkName, mark_name_eq, Mark, marks_of, CanRun, All-map, state, subst}
use Rattle.std.proofs.lemmas.List.Elements.{recursion_from_All}
use mathlib.Core.List.{map-map}
use Rattle.rd_marks.proofs.EntryLemmas.{events_can_run}
use Rattle.rd_marks.proofs.MarkLemmas.{mark_of}
use Rattle.rd_marks.proofs.books.Book.marks.Goals as goal

pub returns-clause-rules : goal.returns-clause-rules
returns-clause-rules g c =
    let book = c.args.self.now in
    let lists = named_entries_in book.bookmarks in
    let through = λ (m : Mark). CanRun (state book.session).start m.events in
    record {
      few = omega (arith, c.len.ensures.count, c.len.ensures.few, length-map lists mark_of);
      names = subst (λ (names : List MarkName). IsDistinct mark_name_eq names) (sym (map-map (λ (m : Mark). m.name) mark_of lists)) c.len.ensures.unique;
      through = recursion_from_All through (marks_of lists) (All-map through mark_of lists (λ k d inside. events_can_run _ _ (book.runs k d inside)));
    }
