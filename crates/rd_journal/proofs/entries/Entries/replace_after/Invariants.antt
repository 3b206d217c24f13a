use Rattle.rd_journal.proofs.Prelude.{◌≡◌, ◌++◌, [], take, live_entries, ahead_entries, entries_capacity}
use Rattle.rd_journal.proofs.entries.Entries.replace_after.Given as goal

abbrev pub invariant-loop-entry : goal.invariant-loop-entry
invariant-loop-entry l = record {
  live : live_entries l.self ≡ take l.n (live_entries l.fn.self) ++ take l.entry-index l.given;
  ahead : ahead_entries l.self ≡ [];
  capacity : entries_capacity l.self ≡ entries_capacity l.fn.self;
}
