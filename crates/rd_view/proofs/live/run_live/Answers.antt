use Rattle.rd_view.proofs.Prelude.{book_state, book_with_history_send, crosses, desk_sync, length-map, number, number_of, numbers_from, opened_state, seat_send, sendable, ∥∥₁_map, ◌≡◌, ◌∙◌, length, map, ap, sym, subst, arith, entries}
use Rattle.rd_lock.specs.Histories.{NamesUpTo}
use Rattle.rd_desk.specs.contracts.recording.BookWithHistoryRecorded.TheImpl as Recorded
use Rattle.rd_lock.proofs.PassLists.{length-numbers}
use Rattle.rd_view.proofs.LiveLemmas.{all_ended_live, can_run, own_live}
use Rattle.rd_view.proofs.live.run_live.Goals as goal

pub live_tasks-requires : goal.live_tasks-requires
live_tasks-requires g c =
    let len : c.len.result ≡ length c.args.terminals.items = omega (arith, c.len.ensures) in
    let same = sym (length-map c.in-Ok.passes.items number) ∙ ap length c.in-Ok.ensures.ok.numbered ∙ length-numbers 1 c.len.result ∙ len in
    (omega arith, (omega arith, (omega arith, (omega arith, same))))

pub run_tasks-requires-send-T : goal.run_tasks-requires-send-T
run_tasks-requires-send-T g c κs within = let s = c.type_bounds.send-T in search (desk_sync, seat_send, book_with_history_send, sendable, crosses) depth 60 fits 100000

pub run_tasks-requires-send-T-Done : goal.run_tasks-requires-send-T-Done
run_tasks-requires-send-T-Done g c κs within = search (seat_send, book_with_history_send, sendable, crosses) depth 60 fits 100000

pub run_tasks-requires-clause-ready : goal.run_tasks-requires-clause-ready
run_tasks-requires-clause-ready g c κs within =
    can_run g.row.N (Recorded.ghosts (number_of g.row.N)) c.in-Ok.desk c.in_ok-tasks.tasks.items (λ task. task.desk.now) (λ task. task.pass) c.in_ok-tasks.ensures.desks (rw c.in_ok-tasks.ensures.passes c.in-Ok.ensures.ok.are_new)

pub close-requires : goal.close-requires
close-requires g c =
    let own =
    own_live g.row.N (Recorded.ghosts (number_of g.row.N)) c.in-Ok.desk g.T.Terminal.opens g.T.Reader.Source g.T.Writer.Sink c.in_ok-tasks.tasks.items (λ task. task.desk.now) (λ task. task.pass) (λ task. task.terminal.value) c.in-Ok-run_tasks.dones.items
    c.in_ok-tasks.ensures.desks (rw c.in_ok-tasks.ensures.passes c.in-Ok.ensures.ok.are_new) c.in-Ok-run_tasks.ensures.ok in
    (omega arith, (omega arith, (omega arith, rw c.in_ok-passes.ensures.passes own)))

pub returns-in-Ok-close-clause-ok : goal.returns-in-Ok-close-clause-ok
returns-in-Ok-close-clause-ok g c =
    let desk = c.in-Ok.desk in
    let closed = c.in-Ok-close.ensures.ok in
    let opened = c.in-Ok.ensures.ok in
    let tasks = c.in_ok-tasks in
    let len : c.len.result ≡ length c.args.terminals.items = omega (arith, c.len.ensures) in
    let state : opened_state desk ≡ book_state c.args.book = ap book_state opened.rooted in
    let count : length c.args.terminals.items ≡ length tasks.tasks.items = ap length (sym tasks.ensures.terminals) ∙ length-map tasks.tasks.items (λ task. task.terminal.value) in record {
      legal = rw (← state) (∥∥₁_map c.in-Ok-close.ensures.leaves (λ l. (_, _, l)));
      leaves = rw (← state) c.in-Ok-close.ensures.leaves;
      named = subst (λ n. NamesUpTo n (entries c.in-Ok-close.history)) (opened.counted ∙ len) closed.names;
      ended =
          rw (c.in_ok-passes.ensures.ends, ← state, ← tasks.ensures.terminals)
          (all_ended_live g.row.N (Recorded.ghosts (number_of g.row.N)) desk g.T.Terminal.opens g.T.Reader.Source g.T.Writer.Sink c.in-Ok-close.history 1 tasks.tasks.items (λ task. task.desk.now) (λ task. task.pass) (λ task. task.terminal.value)
          c.in-Ok-run_tasks.dones.items tasks.ensures.desks (rw tasks.ensures.passes opened.are_new) (ap (map number) tasks.ensures.passes ∙ opened.numbered ∙ ap (numbers_from 1) (len ∙ count)) (rw c.in_ok-passes.ensures.passes at closed.continues)
          c.in-Ok-run_tasks.ensures.ok);
    }
