use Rattle.rd_lock.proofs.Prelude.{rules, arith, Some, lock_of}
use Rattle.rd_lock.proofs.Looks.{load_served_allowed}
use Rattle.rd_lock.proofs.Draws.{try_allowed}
use Rattle.rd_lock.proofs.locks.TicketLock.try_take.Goals as goal

pub load-served-requires : goal.load-served-requires
load-served-requires g c = (search rules, search rules, load_served_allowed (lock_of g.T.Recorded.history g.T.Recorded.origin _ _) _ _ c.args.pass.now.seat.me)

pub compare_exchange-next-requires : goal.compare_exchange-next-requires
compare_exchange-next-requires g c = search (rules, try_allowed)

-- the draw is won: the ticket is served, so the slot has the value
pub exchange-found-requires : goal.exchange-found-requires
exchange-found-requires g c = let won = c.compare_exchange-next.ensures.2.won (omega arith) in (search rules, (Some won.0, search rules))
