use Rattle.rd_view.proofs.Prelude.{◌≡◌, ◌≤◌, length, vec_len, vec_capacity, AllZip, IsTaskStarted}
use Rattle.rd_view.proofs.tasks.start_tasks.Given as goal

abbrev pub invariant-loop-task : goal.invariant-loop-task
invariant-loop-task g l = record {
  are_started : AllZip (IsTaskStarted g.T.Task.runs) l.yielded l.started.items;
  len : vec_len l.started ≡ length l.yielded;
  capacity : length l.fn.tasks.items ≤ vec_capacity l.started;
}
