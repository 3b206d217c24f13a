use Rattle.rd_marks.proofs.Prelude.{◌≡◌, ◌≤◌, shared_at, events}
use Rattle.rd_marks.proofs.Fresh.{Follows}
use Rattle.rd_marks.proofs.stretches.Stretches.deepest_agreeing_node.Given as goal

abbrev pub invariant-loop-i : goal.invariant-loop-i
invariant-loop-i l = record {
  follows : Follows l.self.list.items (events l.live) l.i l.at.stretch l.at.number;
  high : l.at.stretch ≤ l.i;
  own : l.at.stretch ≡ l.i → shared_at l.self.list.items l.i ≤ l.at.number;
}
