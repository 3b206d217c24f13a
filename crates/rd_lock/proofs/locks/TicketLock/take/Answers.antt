use Rattle.rd_lock.proofs.Prelude.{rules, lock_of}
use Rattle.rd_lock.proofs.Looks.{load_next_allowed}
use Rattle.rd_lock.proofs.Draws.{draw_allowed}
use Rattle.rd_lock.proofs.locks.TicketLock.take.Goals as goal

pub load-ticket-requires : goal.load-ticket-requires
load-ticket-requires g c = (search rules, search rules, load_next_allowed (lock_of g.T.Recorded.history g.T.Recorded.origin _ _) _ _ c.args.pass.now.seat.me)

pub compare_exchange-next-requires : goal.compare_exchange-next-requires
compare_exchange-next-requires g c = search (rules, draw_allowed)
