use Rattle.rd_depend.proofs.Prelude.{◌≡◌, ℕ, ◌<◌, ◌≤◌, length, list_at, capacity_at, IsAscending, IsMoved}
use Rattle.rd_depend.proofs.index.lists.move_in_all.Given as goal

abbrev pub invariant-loop-index : goal.invariant-loop-index
invariant-loop-index l = record {
  number : length l.lists.items ≡ length l.fn.lists.items;
  done : (i : ℕ) → i < l.index → IsAscending (list_at l.fn.lists.items i) → IsMoved l.k l.n (list_at l.fn.lists.items i) (list_at l.lists.items i);
  left : (i : ℕ) → l.index ≤ i → list_at l.lists.items i ≡ list_at l.fn.lists.items i;
  capacity : (i : ℕ) → capacity_at l.lists.items i ≡ capacity_at l.fn.lists.items i;
}
