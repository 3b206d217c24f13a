use Rattle.rd_desk.proofs.Prelude.{◌≡◌, ◌≤◌, length, vec_len, vec_capacity, IsChain}
use Rattle.rd_desk.proofs.threads.ask_all.Given as goal

abbrev pub invariant-loop-command : goal.invariant-loop-command
invariant-loop-command g l = record {
  own : g.G.Gate.takes l.gate l.pass;
  chain : IsChain (g.G.Gate.told l.gate) l.fn.pass l.yielded l.answers.items l.pass;
  len : vec_len l.answers ≡ length l.yielded;
  capacity : length l.fn.commands.items ≤ vec_capacity l.answers;
}
