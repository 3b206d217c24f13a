use Rattle.rd_marks.proofs.Prelude.{◌≡◌, ◌<◌, ◌≤◌, ℕ, take, stretch_list, shared_at}
use Rattle.rd_marks.proofs.stretches.Stretches.common_len_in_order.Given as goal

abbrev pub invariant-loop-i : goal.invariant-loop-i
invariant-loop-i l = record {
  first : l.common ≤ l.fn.one.number;
  second : l.common ≤ l.fn.other.number;
  alike : take l.common (stretch_list l.self.list.items l.i) ≡ take l.common (stretch_list l.self.list.items l.fn.one.stretch);
  most : (n : ℕ) → n ≤ l.fn.one.number → n ≤ l.fn.other.number → ((k : ℕ) → l.fn.one.stretch < k → k ≤ l.i → n ≤ shared_at l.self.list.items k) → n ≤ l.common;
}
