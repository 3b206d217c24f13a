use Rattle.std.proofs.Common.{◌≤◌, length}
use Rattle.rd_depend.proofs.IndexChanges.{HasDropped}
use Rattle.rd_depend.proofs.index.DependIndex.pop_all.Given as goal

abbrev pub invariant-loop-left : goal.invariant-loop-left
invariant-loop-left l = record {
  within : l.left ≤ length l.entries;
  dropped : HasDropped l.fn.self l.self l.entries l.left;
}

abbrev pub decreases-loop-left : goal.decreases-loop-left
decreases-loop-left l = l.left
