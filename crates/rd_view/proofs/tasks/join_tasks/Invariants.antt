use Rattle.rd_view.proofs.Prelude.{◌≡◌, ◌≤◌, length, vec_len, vec_capacity, AllZip, IsTaskJoined}
use Rattle.rd_view.proofs.tasks.join_tasks.Given as goal

abbrev pub invariant-loop-handle : goal.invariant-loop-handle
invariant-loop-handle g l = record {
  are_joined : AllZip (IsTaskJoined g.T.Task.runs) l.yielded l.ends.items;
  len : vec_len l.ends ≡ length l.yielded;
  capacity : length l.fn.started.items ≤ vec_capacity l.ends;
}
