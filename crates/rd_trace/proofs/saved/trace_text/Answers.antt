-- The parts were appended one after another, and together they are the text of the book's JSON
-- value (`book_text`). The value of each part is read back, so the book's value is.
use Rattle.rd_trace.proofs.Prelude.{◌≡◌, ◌∙◌, items_by, event_data, mark_data, string_bytes, sym, ◌<◌, ◌^◌, subst, arith, state, State, book_state, BookState, KeepsRules, IsTextOf, opened_ring}
use Rattle.rd_trace.proofs.TextLemmas.{whole_text, book_text}
use Rattle.rd_trace.proofs.WriteLemmas.{text_of_book}
use Rattle.rd_trace.proofs.saved.trace_text.Goals as goal

pub returns : goal.returns
returns g c = λ utf8.
    let ms = (book_state c.args.book.now).marks in
    let session = c.session-session.result.now in
    let s = state session in
    let ring = opened_ring session.opened in
    let of : State → BookState = λ x. record { session = x; marks = ms } in
    let same = c.session-session.ensures.state in
    let start = c.in_ok-put_start.ensures in
    let text = string_bytes c.push_str-6.new.self in
    let rules : KeepsRules (of s) = subst (λ x. KeepsRules (of x)) (sym same) c.put_marks.ensures.rules in
    let parts : text ≡ whole_text (items_by event_data s.live) (items_by mark_data ms) s.start.ring start.start (items_by event_data s.undone) =
    rw (c.in_ok-push_str-6.ensures.bytes, c.in_ok-put_undone_events.ensures.text, c.in_ok-push_str-5.ensures.bytes, start.text)
    (rw (c.in_ok-push_str-4.ensures.bytes, c.in_ok-put_number.ensures, c.in_ok-push_str-3.ensures.bytes, c.in_ok-put_marks.ensures.marks.text)
    (rw (c.in_ok-push_str-2.ensures.bytes, c.in_ok-put_live_events.ensures.text, c.in_ok-push_str.ensures.bytes, c.new-text.ensures.bytes, ring))) in
    subst (λ x. IsTextOf (of x) text) same
    (text_of_book (of s) start.start text (subst (λ n. n < 2 ^ 64) (sym ring) (omega arith)) start.is_start start.back c.in_ok-put_live_events.ensures.kept c.in_ok-put_marks.ensures.marks.kept
    c.in_ok-put_undone_events.ensures.kept rules c.the_events_of_a_session_can_run.ensures (parts ∙ sym (book_text _ _ _ _ _)) utf8)
