use Rattle.rd_trace.proofs.Prelude.{take, string_bytes, book_state, SpellsMark, mark_data, AreAppended}
use Rattle.rd_trace.proofs.bookmarks.put_marks.Given as goal

-- the texts of the bookmarks before this one
abbrev pub invariant-loop-i : goal.invariant-loop-i
invariant-loop-i g l = AreAppended SpellsMark mark_data (take l.i (book_state l.book).marks) (string_bytes l.initial.text) (string_bytes l.text)
