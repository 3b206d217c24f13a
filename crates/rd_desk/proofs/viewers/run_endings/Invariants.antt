use Rattle.rd_desk.proofs.Prelude.{◌≡◌, ◌≤◌, length, map, vec_len, vec_capacity, run_ending}
use Rattle.rd_desk.proofs.viewers.run_endings.Given as goal

-- what became of the viewers so far
abbrev pub invariant-loop-pass : goal.invariant-loop-pass
invariant-loop-pass g l = record {
  rans : l.rans.items ≡ map run_ending l.yielded;
  len : vec_len l.rans ≡ length l.yielded;
  capacity : length l.fn.dones.items ≤ vec_capacity l.rans;
}
