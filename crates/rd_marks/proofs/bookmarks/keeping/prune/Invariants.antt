use Rattle.rd_marks.proofs.Prelude.{◌≡◌, ◌≤◌, length, spare, IsPruned}
use Rattle.rd_marks.proofs.bookmarks.keeping.prune.Given as goal

abbrev pub invariant-loop-i : goal.invariant-loop-i
invariant-loop-i l = record {
  below : l.i ≤ length l.stretches.list.items;
  pruned : IsPruned l.i l.fn.stretches.list.items l.stretches.list.items l.fn.names.entries l.names.entries l.fn.here l.here;
  room : spare l.names ≡ spare l.fn.names;
}

abbrev pub decreases-loop-i : goal.decreases-loop-i
decreases-loop-i l = l.i
