use Rattle.rd_desk.proofs.Prelude.{◌≡◌, ◌≤◌, length, vec_len, vec_capacity, AllZip, IsStarted}
use Rattle.rd_desk.proofs.threads.start_all.Given as goal

abbrev pub invariant-loop-pass : goal.invariant-loop-pass
invariant-loop-pass g l = record {
  are_started : AllZip (λ pair. IsStarted g.G.Gate.takes g.G.Gate.told l.gate pair.0) l.yielded l.started.items;
  len : vec_len l.started ≡ length l.yielded;
  capacity : length l.fn.work.items ≤ vec_capacity l.started;
}
