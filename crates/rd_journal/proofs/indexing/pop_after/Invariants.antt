use Rattle.rd_journal.proofs.Prelude.{◌≤◌, length, take, drop, IsIndexOf, GivesRoom, kept_entries}
use Rattle.rd_journal.proofs.indexing.pop_after.Given as goal

abbrev pub invariant-loop-last : goal.invariant-loop-last
invariant-loop-last l = record {
  from : l.n ≤ l.last;
  within : l.last ≤ length (kept_entries l.entries);
  left : IsIndexOf l.index (take l.last (kept_entries l.entries));
  room : GivesRoom l.fn.index l.index (drop l.last (kept_entries l.entries));
}
