use Rattle.rd_lock.proofs.Prelude.{rules, map, ap, ◌∙◌, subst, AreComparable, Pairwise, in_hand, with_served_seen, lock_of}
use Rattle.rd_lock.proofs.Looks.{load_served_allowed}
use Rattle.rd_lock.proofs.PassLists.{split_allowed_at}
use Rattle.rd_lock.proofs.Seats.{join_allowed}
use Rattle.rd_lock.proofs.Meetings.{both_look, in_line}
use Rattle.rd_lock.proofs.locks.TicketLock.meet.Goals as goal

pub join_seat-requires : goal.join_seat-requires
join_seat-requires g c = let one = c.args.one in let other = c.args.other in (
  c.requires.own.0.table,
  c.requires.own.1.table,
  other.hand ∙ ap in_hand c.requires.out.1,
  search rules,
  join_allowed (lock_of g.T.Recorded.history g.T.Recorded.origin _ _) _ _ one.seat.me.0 other.seat.me.0 c.requires.out.0 c.requires.out.1,
)

pub load-served-requires : goal.load-served-requires
load-served-requires g c = (search rules, search rules, load_served_allowed (lock_of g.T.Recorded.history g.T.Recorded.origin _ _) _ _ c.join_seat.new.seat.me)

pub split_seat-second-requires : goal.split_seat-second-requires
split_seat-second-requires g c = (
  search rules,
  search rules,
  split_allowed_at (lock_of g.T.Recorded.history g.T.Recorded.origin _ _) _ c.load-served.new.seat.me.0 _ _ (ap (λ m. m.0.stage) c.load-served.ensures.2.after ∙ ap (λ m. m.0.stage) c.join_seat.ensures.2)
      (both_look c.args.one.seat.me.0.members c.args.other.seat.me.0.members c.args.one.alone c.args.other.alone c.load-served.new.seat.me.0.members c.load-served.result
      (ap (λ m. m.0.members) c.load-served.ensures.2.after ∙ ap (λ m. map (with_served_seen c.load-served.result) m.0.members) c.join_seat.ensures.2)),
)

pub returns-clause-order : goal.returns-clause-order
returns-clause-order g c = in_line c.args.one.seat.me.0.members c.args.other.seat.me.0.members c.args.one.alone c.args.other.alone (subst (λ m. Pairwise (λ p q. AreComparable p.seen q.seen) m.0.members) c.join_seat.ensures.2 c.load-served.ensures.2.order)
