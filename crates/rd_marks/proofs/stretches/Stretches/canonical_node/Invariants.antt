use Rattle.rd_marks.proofs.Prelude.{◌≡◌, entries_at, IsWithin}
use Rattle.rd_marks.proofs.stretches.Stretches.canonical_node.Given as goal

abbrev pub invariant-loop-at : goal.invariant-loop-at
invariant-loop-at l = record {
  number : l.at.number ≡ l.fn.of.number;
  within : IsWithin l.self.list.items l.at;
  same : entries_at l.self.list.items l.at ≡ entries_at l.self.list.items l.fn.of;
}

abbrev pub decreases-loop-at : goal.decreases-loop-at
decreases-loop-at l = l.at.stretch
