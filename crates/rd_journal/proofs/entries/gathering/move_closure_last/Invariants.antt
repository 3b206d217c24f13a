use Rattle.rd_journal.proofs.Prelude.{◌≡◌, vec_capacity}
use Rattle.rd_journal.proofs.GatheringLoop.{UnderWay}
use Rattle.rd_journal.proofs.entries.gathering.move_closure_last.Given as goal

abbrev pub invariant-loop-next : goal.invariant-loop-next
invariant-loop-next l = record {
  under_way : UnderWay l.slab l.fn.order.items l.order.items l.gathered.items l.fn.index l.index l.k l.live l.front l.next;
  order : vec_capacity l.order ≡ vec_capacity l.fn.order;
  place : vec_capacity l.gathered ≡ vec_capacity l.fn.gathered;
}
