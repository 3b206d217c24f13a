use Rattle.rd_marks.proofs.Prelude.{◌≡◌, take, length, vec_len, vec_capacity, book_state, AreObeyed}
use Rattle.rd_marks.proofs.books.Book.apply_all.Given as goal

abbrev pub invariant-loop-i : goal.invariant-loop-i
invariant-loop-i g l = record {
  obeyed : AreObeyed (book_state l.fn.self) (take l.i l.commands) l.answers.items (book_state l.self);
  start : (book_state l.self).session.start ≡ (book_state l.fn.self).session.start;
  len : vec_len l.answers ≡ l.i;
  capacity : vec_capacity l.answers ≡ length l.commands;
}
