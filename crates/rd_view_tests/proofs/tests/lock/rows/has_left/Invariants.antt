use Rattle.std.proofs.Common.{◌≡◌}
use Rattle.rd_lock.specs.Locks.{number, IsOut, IsPassOf}
use Rattle.rd_view_tests.proofs.tests.lock.rows.has_left.Given as goal

abbrev pub invariant-loop-added : goal.invariant-loop-added
invariant-loop-added g l = record {
  own : IsPassOf l.lock l.second;
  out : IsOut l.second;
  who : number l.second ≡ 2;
}
