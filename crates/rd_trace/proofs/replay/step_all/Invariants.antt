use Rattle.rd_trace.proofs.Prelude.{take, ◌++◌, Ok, book_state, GoesTo}
use Rattle.rd_trace.proofs.replay.step_all.Given as goal

-- the events before this one happened
abbrev pub invariant-loop-event : goal.invariant-loop-event
invariant-loop-event g l = GoesTo (book_state l.fn.book) ((book_state l.fn.book).session.live ++ take l.event-index l.fn.events) (book_state l.book) (Ok tt)
