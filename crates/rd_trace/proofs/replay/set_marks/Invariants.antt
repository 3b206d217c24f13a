use Rattle.rd_trace.proofs.Prelude.{map, take, book_state, saved_mark}
use Rattle.rd_trace.proofs.ReplayLemmas.{HasSet}
use Rattle.rd_trace.proofs.replay.set_marks.Given as goal

-- the bookmarks before this one were set
abbrev pub invariant-loop-i : goal.invariant-loop-i
invariant-loop-i g l = HasSet (book_state l.fn.book) (book_state l.book) (map saved_mark (take l.i l.fn.marks))
