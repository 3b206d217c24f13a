use Rattle.rd_desk.proofs.Prelude.{◌≡◌, ◌≤◌, length, vec_len, vec_capacity, AllZip, IsJoined}
use Rattle.rd_desk.proofs.threads.join_all.Given as goal

abbrev pub invariant-loop-handle : goal.invariant-loop-handle
invariant-loop-handle g l = record {
  are_joined : AllZip (IsJoined g.G.Gate.takes g.G.Gate.told) l.yielded l.dones.items;
  len : vec_len l.dones ≡ length l.yielded;
  capacity : length l.fn.started.items ≤ vec_capacity l.dones;
}
