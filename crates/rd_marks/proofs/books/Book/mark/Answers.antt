use Rattle.rd_marks.proofs.Prelude.{◌≡◌, ◌≢◌, ◌∙◌, inr, refl, sym, ap, is_some, List, Ok, length, arith, length-map, map-append, Mark, book_state, events_by_name, named_entries_in, entries_at, stretches_in, marks_of, MOST_MARKS}
use Rattle.rd_marks.proofs.MarkLemmas.{mark_of, with_marks, found_at, mark_goes, mark_refused, mark_taken, mark_too_many}
use Rattle.rd_marks.proofs.books.Book.mark.Given.{Over}
use Rattle.rd_marks.proofs.books.Book.mark.Goals.{After-is_some}
use Rattle.rd_marks.proofs.books.Book.mark.Goals as goal

-- whether there is a mark of this name is what the code tests
found : (g : Over) (c : After-is_some g) → is_some (events_by_name (book_state c.args.self.now).marks c.args.name) ≡ c.is_some.result
found g c = found_at (entries_at (stretches_in c.args.self.now.bookmarks)) c.args.name (named_entries_in c.args.self.now.bookmarks) c.find.result c.is_some.result c.find.ensures.found c.is_some.ensures

pub returns-then-is_some-clause-err : goal.returns-then-is_some-clause-err
returns-then-is_some-clause-err g c = grind (arith, mark_taken, c.if-is_some.true, found g (goal.at.returns-then-is_some-clause-err g c).After-is_some)

pub returns-then-len-eq-MOST_MARKS-clause-err : goal.returns-then-len-eq-MOST_MARKS-clause-err
returns-then-len-eq-MOST_MARKS-clause-err g c =
    let new = found g (goal.at.returns-then-len-eq-MOST_MARKS-clause-err g c).After-is_some in
    grind (arith, mark_too_many, length-map (named_entries_in c.args.self.now.bookmarks) mark_of, c.len.ensures.count, c.if-len-eq-MOST_MARKS.true, new, c.if-is_some.false)

pub returns-then-is_some-clause-succeeds : goal.returns-then-is_some-clause-succeeds
returns-then-is_some-clause-succeeds g c = grind (arith, mark_refused, mark_taken, c.if-is_some.true, found g (goal.at.returns-then-is_some-clause-succeeds g c).After-is_some)

pub returns-then-len-eq-MOST_MARKS-clause-succeeds : goal.returns-then-len-eq-MOST_MARKS-clause-succeeds
returns-then-len-eq-MOST_MARKS-clause-succeeds g c = grind (arith, length-map, mark_refused, mark_too_many, found_at, c.len.ensures.count, c.if-len-eq-MOST_MARKS.true, c.find.ensures.found, c.is_some.ensures, c.if-is_some.false)

pub returns-in-Err-clause-err : goal.returns-in-Err-clause-err
returns-in-Err-clause-err g c =
    let few : length (book_state c.args.self.now).marks ≢ MOST_MARKS = omega (arith, length-map (named_entries_in c.args.self.now.bookmarks) mark_of, c.len.ensures.count, c.if-len-eq-MOST_MARKS.false) in
    inr (refl, rw (mark_goes (book_state c.args.self.now) c.args.name (found g (goal.at.returns-in-Err-clause-err g c).After-is_some ∙ c.if-is_some.false) few) refl)

pub returns-in-Ok-clause-ok : goal.returns-in-Ok-clause-ok
returns-in-Ok-clause-ok g c =
    let b = book_state c.args.self.now in
    let few : length b.marks ≢ MOST_MARKS = omega (arith, length-map (named_entries_in c.args.self.now.bookmarks) mark_of, c.len.ensures.count, c.if-len-eq-MOST_MARKS.false) in
    let put = ap marks_of c.in-Ok.ensures.ok ∙ map-append mark_of (named_entries_in c.args.self.now.bookmarks) _ in
    mark_goes b c.args.name (found g (goal.at.returns-in-Ok-clause-ok g c).After-is_some ∙ c.if-is_some.false) few ∙ ap (λ (xs : List Mark). Ok (with_marks b xs)) (sym put)
