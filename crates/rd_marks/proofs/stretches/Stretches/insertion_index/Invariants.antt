use Rattle.std.proofs.Common.{◌<◌, ◌≤◌}
use Rattle.rd_marks.proofs.Reading.{Reaches}
use Rattle.rd_marks.proofs.stretches.Stretches.insertion_index.Given as goal

abbrev pub invariant-loop-i : goal.invariant-loop-i
invariant-loop-i l = record {
  high : l.at.stretch ≤ l.i;
  reaches : l.at.stretch < l.i → Reaches l.self.list.items l.at l.i;
}
