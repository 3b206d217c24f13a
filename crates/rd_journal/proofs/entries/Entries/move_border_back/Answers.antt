use Rattle.rd_journal.proofs.Prelude.{arith, all_entries, length-take-le, take-take}
use Rattle.rd_journal.proofs.EntryLemmas.{all-length, live-length, cut_back, border_moved}
use Rattle.rd_journal.proofs.entries.Entries.move_border_back.Goals as goal

pub returns-clause-live : goal.returns-clause-live
unfolding all_entries
returns-clause-live c = grind (arith, live-length, all-length, length-take-le, take-take)

pub returns-clause-ahead : goal.returns-clause-ahead
unfolding all_entries
returns-clause-ahead c = grind (arith, live-length, all-length, cut_back)

pub returns-clause-kept : goal.returns-clause-kept
unfolding all_entries
returns-clause-kept c = grind (arith, live-length, all-length, border_moved)
