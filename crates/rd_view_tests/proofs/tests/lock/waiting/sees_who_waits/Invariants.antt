use Rattle.std.proofs.Common.{◌≡◌}
use Rattle.rd_lock.specs.Locks.{number, IsOut, IsPassOf}
use Rattle.rd_view_tests.proofs.tests.lock.waiting.sees_who_waits.Given as goal

abbrev pub invariant-loop : goal.invariant-loop
invariant-loop g l = record {
  own : IsPassOf l.lock l.pass;
  out : IsOut l.pass;
  who : number l.pass ≡ 3;
}
