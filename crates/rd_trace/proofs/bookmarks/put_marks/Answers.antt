-- `mark_at` can't fail here, since its number is from 1 to the count of bookmarks. Each turn
-- appends the text of one more.
use Rattle.rd_trace.proofs.Prelude.{add-one, length, ◌++◌, string_bytes, refl, sym, ap, ◌∙◌, arith, take_all, book_state}
use Rattle.rd_trace.proofs.SpellLemmas.{some_got}
use Rattle.rd_trace.proofs.MarkLemmas.{next_appended}
use Rattle.rd_trace.proofs.bookmarks.put_marks.Goals as goal

pub unreachable-requires : goal.unreachable-requires
unreachable-requires g c =
    let ms = (book_state c.args.book.now).marks in
    absurd (some_got ms c.loop-i.i (omega (arith, c.marks-count.ensures.count)) (λ m h. c.in_default.not-Ok (m.name, length m.events) (c.mark_at.ensures ∙ rw (add-one, h))))

pub loop-i-preserved : goal.loop-i-preserved
loop-i-preserved g c =
    let ms = (book_state c.args.book.now).marks in
    next_appended ms c.loop-i.i c.in-Ok.name c.in-Ok.field-0-1 (string_bytes c.args.text.now) (string_bytes c.loop-i.text) (string_bytes c.push_str.new.self) (string_bytes c.put_mark.new.text)
    c.loop-i.invariant (c.in_ok-push_str.ensures.bytes ∙ ap (λ s. string_bytes c.loop-i.text ++ s) c.comma_after.ensures) _ refl (rw add-one at (sym c.mark_at.ensures ∙ c.in-Ok.is))
    (rw add-one at c.in_ok-put_mark.ensures)

pub returns-clause-marks : goal.returns-clause-marks
returns-clause-marks g c = grind (arith, string_bytes, take_all)
