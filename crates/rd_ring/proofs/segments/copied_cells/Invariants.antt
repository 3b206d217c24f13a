use Rattle.std.proofs.Common.{◌≡◌, ℕ, ◌<◌, length, slice_get}
use Rattle.rd_ring.proofs.segments.copied_cells.Given as goal

abbrev pub invariant-loop-i : goal.invariant-loop-i
invariant-loop-i g l = (length l.cells ≡ l.i-end) × ((u : ℕ) → u < l.i → slice_get l.cells u ≡ slice_get l.fn.given u)
