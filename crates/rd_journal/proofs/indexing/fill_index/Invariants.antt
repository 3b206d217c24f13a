use Rattle.rd_journal.proofs.Prelude.{◌≤◌, length, take, drop, IsIndexOf, HasRoomFor, kept_entries}
use Rattle.rd_journal.proofs.indexing.fill_index.Given as goal

abbrev pub invariant-loop-next : goal.invariant-loop-next
invariant-loop-next l = record {
  within : l.next ≤ length (kept_entries l.entries);
  put : IsIndexOf l.index (take l.next (kept_entries l.entries));
  room : HasRoomFor l.index (drop l.next (kept_entries l.entries));
}
