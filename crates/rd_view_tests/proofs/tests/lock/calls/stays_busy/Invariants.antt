use Rattle.rd_lock.specs.Locks.{IsOut, IsPassOf}
use Rattle.rd_view_tests.proofs.tests.lock.calls.stays_busy.Given as goal

abbrev pub invariant-loop-try : goal.invariant-loop-try
invariant-loop-try g l = record {
  own : IsPassOf l.lock l.pass;
  out : IsOut l.pass;
}
