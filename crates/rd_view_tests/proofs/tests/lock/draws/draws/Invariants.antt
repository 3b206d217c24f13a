use Rattle.std.proofs.Common.{◌≡◌}
use Rattle.rd_lock.specs.Locks.{number, IsOut, IsPassOf}
use Rattle.rd_view_tests.proofs.tests.lock.draws.draws.Given as goal

abbrev pub invariant-loop-round : goal.invariant-loop-round
invariant-loop-round g l = record {
  own : IsPassOf l.lock l.pass;
  out : IsOut l.pass;
  who : number l.pass ≡ l.who;
}
