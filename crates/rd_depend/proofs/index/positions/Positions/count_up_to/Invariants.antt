use Rattle.rd_depend.proofs.Prelude.{◌+◌, ◌-◌, ◌^◌, ◌<◌, ◌≤◌, length, nat_lt, IsAscending, position_or_len}
use Rattle.rd_depend.proofs.index.positions.Positions.count_up_to.Given as goal

abbrev pub invariant-loop-round : goal.invariant-loop-round
invariant-loop-round l = record {
  order : l.low ≤ l.high;
  within : l.high ≤ length l.self.items.now;
  cost : l.probes.count ≤ l.fn.probes.count + l.round;
  counts : l.fn.probes.count ≤ l.probes.count;
  small : length l.self.items.now < 2 ^ 17 → l.high - l.low < 2 ^ (17 - l.round);
  below : IsAscending l.self.items.now → l.low ≤ position_or_len (nat_lt l.k) l.self.items.now;
  above : IsAscending l.self.items.now → position_or_len (nat_lt l.k) l.self.items.now ≤ l.high;
}
