use Rattle.rd_ring.proofs.Prelude.{◌≡◌, ℕ, ◌<◌, length, slice_get, Some, fresh_cell}
use Rattle.rd_ring.proofs.segments.fresh_cells.Given as goal

abbrev pub invariant-loop-i : goal.invariant-loop-i
invariant-loop-i g l = (length l.cells ≡ l.i-end) × ((u : ℕ) → u < l.i → slice_get l.cells u ≡ Some (fresh_cell u))
