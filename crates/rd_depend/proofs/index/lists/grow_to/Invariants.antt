use Rattle.rd_depend.proofs.Prelude.{◌≡◌, ℕ, ◌≤◌, length, list_at, spare_at}
use Rattle.rd_depend.proofs.index.lists.grow_to.Given as goal

abbrev pub invariant-loop-count : goal.invariant-loop-count
invariant-loop-count l = record {
  number : length l.lists.items ≡ l.count;
  lists : (i : ℕ) → list_at l.lists.items i ≡ list_at l.fn.lists.items i;
  room : (i : ℕ) → spare_at l.fn.lists.items i ≤ spare_at l.lists.items i;
}
