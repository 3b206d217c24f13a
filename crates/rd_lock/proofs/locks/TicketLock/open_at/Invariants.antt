use Rattle.rd_lock.proofs.Prelude.{◌≡◌, ◌≤◌, ◌+◌, ◌-◌, [], map, vec_len, vec_capacity, AllByRecursion, IsOut, Out, pass_view, newcomer, newcomers, number, numbers_from, view_of}
use Rattle.rd_lock.proofs.locks.TicketLock.open_at.Given as goal

abbrev pub invariant-loop-number : goal.invariant-loop-number
invariant-loop-number g l = record {
  table : l.seat.table_id ≡ l.table.shared.table_id;
  left : l.seat.me ≡ (view_of (newcomers l.seats (g.T.Recorded.origin l.fn.value) l.first (l.number + 1) (l.seats - l.number)) Out, []);
  count : vec_len l.passes ≡ l.number;
  room : l.seats ≤ vec_capacity l.passes;
  own : AllByRecursion (λ pass. (pass.seat.table_id ≡ l.table.shared.table_id) × IsOut pass × (pass_view pass ≡ newcomer l.seats (g.T.Recorded.origin l.fn.value) l.first (number pass))) l.passes.items;
  numbered : map number l.passes.items ≡ numbers_from 1 l.number;
}
