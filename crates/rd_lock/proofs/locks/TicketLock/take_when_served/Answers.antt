use Rattle.rd_lock.proofs.Prelude.{rules, Some}
use Rattle.rd_lock.proofs.Waits.{poll_allowed}
use Rattle.rd_lock.proofs.locks.TicketLock.take_when_served.Goals as goal

pub load-requires : goal.load-requires
load-requires g c = search (rules, poll_allowed)

pub exchange-found-requires : goal.exchange-found-requires
exchange-found-requires g c = let taken = c.load.ensures.2.served (search rules) in (search rules, (Some taken.0, search rules))
