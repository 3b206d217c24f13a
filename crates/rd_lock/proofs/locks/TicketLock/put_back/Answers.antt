use Rattle.rd_lock.proofs.Prelude.{rules, lock_of}
use Rattle.rd_lock.proofs.Releases.{release_allowed}
use Rattle.rd_lock.proofs.locks.TicketLock.put_back.Goals as goal

pub fetch_add-requires : goal.fetch_add-requires
fetch_add-requires g c = let pass = c.args.pass.now in let due = c.requires.value in (
  search rules,
  search rules,
  release_allowed (lock_of g.T.Recorded.history g.T.Recorded.origin _ _) _ _ pass.seat.me.0 _ c.args.value pass.alone due.held.0 due.held.1 c.requires.own.knows_opening due.rooted due.held.2 due.held.3 (search rules),
)
