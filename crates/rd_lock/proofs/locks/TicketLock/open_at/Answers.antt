use Rattle.rd_lock.proofs.Prelude.{rules, ap, ◌∙◌, arith, map-append, lock_of}
use Rattle.rd_lock.proofs.Lists.{every_append, every_from}
use Rattle.rd_lock.proofs.PassLists.{next_new, numbers_more, split_allowed_at}
use Rattle.rd_lock.proofs.locks.TicketLock.open_at.Goals as goal

pub split_seat-pass-requires : goal.split_seat-pass-requires
split_seat-pass-requires g c = let i = c.loop-number.invariant in (
  i.table,
  search rules,
  split_allowed_at (lock_of g.T.Recorded.history g.T.Recorded.origin _ _) _ c.loop-number.seat.me.0 _ _ (ap (λ m. m.0.stage) i.left) (ap (λ m. m.0.members) i.left ∙ next_new _ _ _ _ (search rules)),
)

pub invariant_of-push : goal.invariant_of-push
invariant_of-push g c = let next = next_new {E = g.row.T-Entry.Denot} c.args.seats (g.T.Recorded.origin c.args.value) c.args.first c.loop-number.number (search rules) in grind (arith, next)

pub loop-number-preserved : goal.loop-number-preserved
loop-number-preserved g c = let next = next_new {E = g.row.T-Entry.Denot} c.args.seats (g.T.Recorded.origin c.args.value) c.args.first c.loop-number.number (search rules) in grind (arith, every_append, map-append, next, numbers_more)

pub returns-clause-ok : goal.returns-clause-ok
returns-clause-ok g c = grind (arith, every_from)
