use Rattle.rd_lock.proofs.Prelude.{IsPassOf, IsSamePass, IsWaiting}
use Rattle.rd_lock.proofs.locks.TicketLock.take_when_served.Given as goal

abbrev pub invariant-looks : goal.invariant-looks
invariant-looks g l = record {
  own : IsPassOf l.self l.pass;
  waits : IsWaiting l.pass l.ticket;
  same : IsSamePass l.fn.pass l.pass;
}
