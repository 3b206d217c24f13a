-- Each arm hands on what its call ensures. An event is refused only as `apply` may refuse it
-- (`refused_event`), and any other command has no event (`no_event_refused`). That start and state
-- stay follows from the answer's definition (`obeyed_leaves`).
use Rattle.rd_marks.proofs.Prelude.{IsOk, ap, sym, subst, Command, as_event, book_state, name_room, SetsMarkWithoutMemory, arith}
use Rattle.rd_marks.specs.declared.commands.Command.TheVariants as command
use Rattle.rd_marks.proofs.ObeyLemmas.{no_event_refused, obeyed_leaves, refused_event}
use Rattle.rd_marks.proofs.books.Book.obey.Goals as goal

pub returns-in-Enq-clause-memory : goal.returns-in-Enq-clause-memory
returns-in-Enq-clause-memory g c = refused_event c.answer_event.result c.args.self.now.session c.args.command _ (ap as_event c.in-Enq.is) c.answer_event.ensures.memory

pub returns-in-Deq-clause-memory : goal.returns-in-Deq-clause-memory
returns-in-Deq-clause-memory g c = refused_event c.answer_event-in-Deq.result c.args.self.now.session c.args.command _ (ap as_event c.in-Deq.is) c.answer_event-in-Deq.ensures.memory

pub returns-in-ArrayEnq-clause-memory : goal.returns-in-ArrayEnq-clause-memory
returns-in-ArrayEnq-clause-memory g c = refused_event c.answer_event-in-ArrayEnq.result c.args.self.now.session c.args.command _ (ap as_event c.in-ArrayEnq.is) c.answer_event-in-ArrayEnq.ensures.memory

pub returns-in-ArrayDeq-clause-memory : goal.returns-in-ArrayDeq-clause-memory
returns-in-ArrayDeq-clause-memory g c = refused_event c.answer_event-in-ArrayDeq.result c.args.self.now.session c.args.command _ (ap as_event c.in-ArrayDeq.is) c.answer_event-in-ArrayDeq.ensures.memory

pub returns-in-Go-clause-memory : goal.returns-in-Go-clause-memory
returns-in-Go-clause-memory g c = refused_event c.answer_event-in-Go.result c.args.self.now.session c.args.command _ (ap as_event c.in-Go.is) c.answer_event-in-Go.ensures.memory

pub returns-in-Starve-clause-memory : goal.returns-in-Starve-clause-memory
returns-in-Starve-clause-memory g c = refused_event c.answer_event-in-Starve.result c.args.self.now.session c.args.command _ (ap as_event c.in-Starve.is) c.answer_event-in-Starve.ensures.memory

pub returns-in-Undo : goal.returns-in-Undo
returns-in-Undo g c = grind (arith, no_event_refused, c.in-Undo.is, c.answer_back.ensures, obeyed_leaves (book_state c.args.self.now) command.Undo _ c.answer_back.ensures)

pub returns-in-UndoAt : goal.returns-in-UndoAt
returns-in-UndoAt g c = grind (arith, no_event_refused, c.in-UndoAt.is, c.answer_undo_at.ensures, obeyed_leaves (book_state c.args.self.now) (command.UndoAt c.in-UndoAt.k) _ c.answer_undo_at.ensures)

pub returns-in-Roll : goal.returns-in-Roll
returns-in-Roll g c = grind (arith, no_event_refused, c.in-Roll.is, c.answer_roll.ensures, obeyed_leaves (book_state c.args.self.now) (command.Roll c.in-Roll.k) _ c.answer_roll.ensures)

pub returns-in-Back : goal.returns-in-Back
returns-in-Back g c = grind (arith, no_event_refused, c.in-Back.is, c.answer_back-in-Back.ensures, obeyed_leaves (book_state c.args.self.now) (command.Back c.in-Back.n) _ c.answer_back-in-Back.ensures)

pub returns-in-Redo : goal.returns-in-Redo
returns-in-Redo g c = grind (arith, no_event_refused, c.in-Redo.is, c.answer_forward.ensures, obeyed_leaves (book_state c.args.self.now) command.Redo _ c.answer_forward.ensures)

pub returns-in-Forward : goal.returns-in-Forward
returns-in-Forward g c = grind (arith, no_event_refused, c.in-Forward.is, c.answer_forward-in-Forward.ensures, obeyed_leaves (book_state c.args.self.now) (command.Forward c.in-Forward.n) _ c.answer_forward-in-Forward.ensures)

pub returns-in-DropMark : goal.returns-in-DropMark
returns-in-DropMark g c = grind (arith, no_event_refused, c.in-DropMark.is, c.answer_drop_mark.ensures, obeyed_leaves (book_state c.args.self.now) (command.DropMark c.in-DropMark.name) _ c.answer_drop_mark.ensures)

pub returns-in-Mark-clause-start : goal.returns-in-Mark-clause-start
returns-in-Mark-clause-start g c = (obeyed_leaves (book_state c.args.self.now) (command.Mark c.in-Mark.name) _ c.answer_mark.ensures.answer).start

pub returns-in-Mark-clause-unchanged : goal.returns-in-Mark-clause-unchanged
returns-in-Mark-clause-unchanged g c = (obeyed_leaves (book_state c.args.self.now) (command.Mark c.in-Mark.name) _ c.answer_mark.ensures.answer).unchanged

pub returns-in-GotoMark-clause-start : goal.returns-in-GotoMark-clause-start
returns-in-GotoMark-clause-start g c = (obeyed_leaves (book_state c.args.self.now) (command.GotoMark c.in-GotoMark.name) _ c.answer_goto_mark.ensures.answer).start

pub returns-in-Mark-clause-succeeds : goal.returns-in-Mark-clause-succeeds
returns-in-Mark-clause-succeeds g c =
    subst (λ (x : Command). SetsMarkWithoutMemory (book_state c.args.self.now) (name_room c.args.self.now) x → IsOk c.answer_mark.result) (sym c.in-Mark.is) c.answer_mark.ensures.succeeds

pub returns-in-Mark-clause-memory : goal.returns-in-Mark-clause-memory
returns-in-Mark-clause-memory g c = no_event_refused _ c.args.self.now.session _ (ap as_event c.in-Mark.is)

pub returns-in-GotoMark-clause-memory : goal.returns-in-GotoMark-clause-memory
returns-in-GotoMark-clause-memory g c = no_event_refused _ c.args.self.now.session _ (ap as_event c.in-GotoMark.is)

pub returns-in-MarkAt-clause-memory : goal.returns-in-MarkAt-clause-memory
returns-in-MarkAt-clause-memory g c = no_event_refused _ c.args.self.now.session _ (ap as_event c.in-MarkAt.is)

pub returns-in-Same-clause-memory : goal.returns-in-Same-clause-memory
returns-in-Same-clause-memory g c = no_event_refused _ c.args.self.now.session _ (ap as_event c.in-Same.is)

pub returns-in-Origin-clause-memory : goal.returns-in-Origin-clause-memory
returns-in-Origin-clause-memory g c = no_event_refused _ c.args.self.now.session _ (ap as_event c.in-Origin.is)

pub returns-in-Writer-clause-memory : goal.returns-in-Writer-clause-memory
returns-in-Writer-clause-memory g c = no_event_refused _ c.args.self.now.session _ (ap as_event c.in-Writer.is)

pub returns-in-Step-clause-memory : goal.returns-in-Step-clause-memory
returns-in-Step-clause-memory g c = no_event_refused _ c.args.self.now.session _ (ap as_event c.in-Step.is)

pub returns-in-None-clause-memory : goal.returns-in-None-clause-memory
returns-in-None-clause-memory g c = λ event is. grind arith

pub returns-in-None-actor-clause-memory : goal.returns-in-None-actor-clause-memory
returns-in-None-actor-clause-memory g c = λ event is. grind arith
