-- The text of a book is a trace of it.
use Rattle.rd_trace.proofs.Prelude.{◌≡◌, ℕ, ◌^◌, ◌<◌, ◌≤◌, [], ◌∷◌, false, List, ◌++◌, Some, IsUtf8, inr, sym, ap, ◌∙◌, subst, arith, Data, depth, read, max_depth, has_float, compact_text, IsInOrder, World, BookState, KeepsRules, Gives, SpellEach, items_by, event_of, event_data, IsStartValue, SpellsMark, mark_data, book_data, IsReadBack, IsSpelledBack, IsStartAppended, CanRun, MarksCanRun, IsTextOf}
use Rattle.rd_trace.proofs.ReplayLemmas.{no_fault}
use Rattle.rd_trace.proofs.SavedLemmas.{book_spelled}
use Rattle.rd_trace.proofs.PlainLemmas.{start_plain, nested_book}
use Rattle.rd_trace.proofs.TextLemmas.{all_kept, book_back, read_with_line_feed, back_of_text}

-- if the bytes that were appended are the text of a start's JSON value, the start was appended
pub start_appended : (w : World) (start : Data) (bytes old new : List ℕ) → IsStartValue w start → (has_float start ≡ false → bytes ≡ compact_text start)
    → IsInOrder bytes start → (depth start ≤ max_depth → read bytes ≡ Some start) → new ≡ old ++ bytes → IsStartAppended w old new
start_appended w start bytes old new is_start text order reads appended =
    let plain = start_plain w start is_start.written in
    record {
      start = start;
      is_start = is_start;
      back = back_of_text start (omega (arith, plain.nested)) bytes order plain.whole (reads (omega (arith, plain.shallow)));
      text = appended ∙ ap (λ s. old ++ s) (text plain.whole);
    }

-- if the values of a book's parts spell the parts and are read back, the bookmarks keep the rules,
-- and the events can run, then the text of the book's value and a line feed are a text of the book
pub text_of_book : (b : BookState) (start : Data) (text : List ℕ) → b.session.start.ring < 2 ^ 64 → IsStartValue b.session.start start → IsReadBack start
    → SpellEach (IsSpelledBack (Gives event_of)) (items_by event_data b.session.live) b.session.live → SpellEach (IsSpelledBack SpellsMark) (items_by mark_data b.marks) b.marks
    → SpellEach (IsSpelledBack (Gives event_of)) (items_by event_data b.session.undone) b.session.undone → KeepsRules b → CanRun b.session.start (b.session.live ++ b.session.undone)
    → text ≡ compact_text (book_data start b) ++ 10 ∷ [] → IsUtf8 text → IsTextOf b text
text_of_book b start text fits is_start start_back live_kept marks_kept undone_kept rules through written utf8 =
    let live = all_kept (Gives event_of) _ _ live_kept in
    let marks = all_kept SpellsMark _ _ marks_kept in
    let undone = all_kept (Gives event_of) _ _ undone_kept in
    let back = book_back _ _ _ b.session.start.ring start fits live.1 marks.1 start_back undone.1 in
    let spelled = book_spelled b start is_start.spelled live.0 undone.0 (record { each = marks.0; names = rules.names; few = rules.few }) in
    let none =
    no_fault spelled.0 spelled.2 (subst (λ s. MarksCanRun s.session.start s.marks) (sym spelled.3) rules.through)
    (subst (λ s. CanRun s.session.start (s.session.live ++ s.session.undone)) (sym spelled.3) through) in
    let reads = ap read written ∙ read_with_line_feed (book_data start b) (nested_book start b is_start.written) back in
    record {
      written = (start, is_start.written, written);
      loads = λ ring. (spelled.0, (utf8, book_data start b, reads, (ring, inr spelled.1)), none, spelled.3);
    }
