use Rattle.std.proofs.Common.{◌≡◌}
use Rattle.rd_lock.specs.Locks.{number, IsOut, IsPassOf}
use Rattle.rd_view_tests.proofs.tests.lock.calls.works.Given as goal

abbrev pub invariant-loop-take : goal.invariant-loop-take
invariant-loop-take g l = record {
  own : IsPassOf l.lock l.pass;
  out : IsOut l.pass;
  who : number l.pass ≡ l.who;
}
