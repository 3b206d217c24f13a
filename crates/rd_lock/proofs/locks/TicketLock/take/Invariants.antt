use Rattle.rd_lock.proofs.Prelude.{◌≡◌, ◌≤◌, ◌^◌, IsOut, IsPassOf, IsSamePass, next_seen}
use Rattle.rd_lock.proofs.locks.TicketLock.take.Given as goal

abbrev pub invariant-draws : goal.invariant-draws
invariant-draws g l = record {
  own : IsPassOf l.self l.pass;
  out : IsOut l.pass;
  same : IsSamePass l.fn.pass l.pass;
  sees : next_seen l.pass ≡ l.ticket;
  limit : l.ticket ≤ 2 ^ 63;
}
