use Rattle.rd_marks.proofs.Prelude.{◌≡◌, ◌++◌, ◌-◌, ◌+◌, ◌≤◌, reverse, vec_len, vec_capacity, entries_at, IsWithin}
use Rattle.rd_marks.proofs.stretches.Stretches.copy_entries_after.Given as goal

abbrev pub invariant-loop-at : goal.invariant-loop-at
invariant-loop-at l = record {
  within : IsWithin l.self.list.items l.at;
  read : entries_at l.self.list.items l.fn.of ≡ entries_at l.self.list.items l.at ++ reverse l.entries.items;
  least : l.n ≤ l.at.number;
  len : vec_len l.entries + l.at.number ≡ l.fn.of.number;
  capacity : vec_capacity l.entries ≡ l.fn.of.number - l.n;
}

abbrev pub decreases-loop-at : goal.decreases-loop-at
decreases-loop-at l = l.at.number
